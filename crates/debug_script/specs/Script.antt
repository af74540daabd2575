-- The text of a debugger's script. This project's own choice.
use Rattle.std.specs.Prelude.{◌≡◌, ℕ, ◌+◌, ◌<◌, ◌≤◌, List, [], ◌∷◌, length, Option, Some, None, Result, Ok, Err}
use Rattle.plain_text.specs.Lines.{lines_of, words_of}
use Rattle.debug_script.specs.declared.command.Command.{Command}
use Rattle.debug_script.specs.declared.fault.ScriptFault.{ScriptFault}
use Rattle.debug_script.specs.declared.fault.ScriptFault.TheVariants.{TooLong, BadCommand, OutOfMemory}
use Rattle.debug_script.specs.declared.script.TheConstants.{SCRIPT_LIMIT}
use Rattle.debug_script.specs.Commands.{command_of, where_it}
use Rattle.debug_script.specs.Breakpoints.{StopsValue, are_few, no_stops, stops_after}

-- the command of a line, where so few stops stand with it as may
abbrev pub next_command : StopsValue → List ℕ → Option Command
next_command stops line = where_it (λ command. are_few (stops_after command stops)) (command_of (words_of line))

-- a command in front of the others, or the number of the first malformed line
abbrev pub with_first : Command → Result (List Command) ℕ → Result (List Command) ℕ
with_first command (Ok commands) = Ok (command ∷ commands)
with_first command (Err number) = Err number

-- the line with this number is malformed, or its command comes before those of the others
abbrev pub with_command : ℕ → Option Command → (Command → Result (List Command) ℕ) → Result (List Command) ℕ
with_command number None more = Err number
with_command number (Some command) more = with_first command (more command)

-- the commands of the lines from this number on, where these stops stand, or the number of the
-- first malformed line; an empty line does nothing
unfoldable pub script_from : ℕ → StopsValue → List (List ℕ) → Result (List Command) ℕ
script_from number stops [] = Ok []
script_from number stops ([] ∷ lines) = script_from (number + 1) stops lines
script_from number stops ((byte ∷ line) ∷ lines) =
    with_command number (next_command stops (byte ∷ line)) (λ command. script_from (number + 1) (stops_after command stops) lines)

-- the commands of a text, or the number of its first malformed line, counted from 1
abbrev pub script_of : List ℕ → Result (List Command) ℕ
script_of text = script_from 1 no_stops (lines_of text)

-- how a text is read: too long above the limit of its bytes, else as its commands, which a view
-- shows, or with its fault, unless memory runs out
abbrev pub ReadsScript : {V : Type 0} → (V → List Command) → List ℕ → Result V ScriptFault → Type 0
ReadsScript view text (Ok commands) = (length text ≤ SCRIPT_LIMIT) × (script_of text ≡ Ok (view commands))
ReadsScript view text (Err TooLong) = SCRIPT_LIMIT < length text
ReadsScript view text (Err (BadCommand number)) = (length text ≤ SCRIPT_LIMIT) × (script_of text ≡ Err number)
ReadsScript view text (Err OutOfMemory) = length text ≤ SCRIPT_LIMIT
