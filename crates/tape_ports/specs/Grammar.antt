-- How the text of a tape is read. This project's own choice.
use Rattle.std.specs.Prelude.{◌≡◌, ℕ, ◌+◌, ◌<◌, ◌≤◌, List, [], ◌∷◌, length, Result, Ok, Err, nat_lt, ok_or, bytes_eq, codes, if◌then◌else◌}
use Rattle.plain_text.specs.Lines.{lines_of, words_of}
use Rattle.plain_text.specs.Numbers.{decimal_of, value_of}
use Rattle.board_base.specs.declared.board.TheConstants.{CLOCK_LIMIT}
use Rattle.tape_ports.specs.declared.tape.TheConstants.{TAPE_LIMIT}
use Rattle.tape_ports.specs.declared.entry.TapeEntry.{TapeEntry}
use Rattle.tape_ports.specs.declared.fault.LineCause.{LineCause}
use Rattle.tape_ports.specs.declared.fault.LineCause.TheVariants as cause
use Rattle.tape_ports.specs.declared.fault.TapeFault.{TapeFault}
use Rattle.tape_ports.specs.declared.fault.TapeFault.TheVariants.{TooLong, BadLine, OutOfMemory}
use Rattle.tape_ports.specs.declared.line.Line.{Line}
use Rattle.tape_ports.specs.declared.line.Line.TheVariants.{Entry, End}
use Rattle.tape_ports.specs.Ports.{IsPort, port_of}
use Rattle.tape_ports.specs.Tape.{TapeValue}

infixl 10 ◌>>=◌
-- the first fault, or what comes of the answer
abbrev pub ◌>>=◌ : {A B : Type 0} → Result A LineCause → (A → Result B LineCause) → Result B LineCause
(Ok x) >>= f = f x
(Err c) >>= f = Err c

-- a clock is at most the limit, and not below that of the line before
unfoldable pub clock_after : ℕ → ℕ → Result ℕ LineCause
clock_after before clock =
    if nat_lt CLOCK_LIMIT clock then Err cause.Clock else (if nat_lt clock before then Err cause.Falls else Ok clock)

-- a line of two words is a clock and END
unfoldable pub end_line : ℕ → List ℕ → List ℕ → Result Line LineCause
end_line before clock word =
    if bytes_eq word (codes "END")
    then (do
      given ← ok_or (decimal_of clock) cause.Form
      end ← clock_after before given
      Ok (End end))
    else Err cause.Form

-- a line of three words is a clock, a port and a value
unfoldable pub entry_line : ℕ → List ℕ → List ℕ → List ℕ → Result Line LineCause
entry_line before clock name value =
    if bytes_eq name (codes "END")
    then Err cause.Form
    else (do
      given ← ok_or (decimal_of clock) cause.Form
      byte ← ok_or (value_of value) cause.Form
      port ← ok_or (port_of name) cause.Port
      at ← clock_after before given
      Ok (Entry (record { clock = at; port = port; value = byte })))

-- what a line states, by its words and the clock of the line before, or its first fault
abbrev pub tape_line_of : ℕ → List (List ℕ) → Result Line LineCause
tape_line_of before (clock ∷ word ∷ []) = end_line before clock word
tape_line_of before (clock ∷ name ∷ value ∷ []) = entry_line before clock name value
tape_line_of before _ = Err cause.Form

-- a good line's clock is at most the limit and not below that of the line before, and its port is
-- one
abbrev pub ComesAfter : ℕ → Line → Type 0
ComesAfter before (Entry entry) = (before ≤ entry.clock) × (entry.clock ≤ CLOCK_LIMIT) × IsPort entry.port
ComesAfter before (End end) = (before ≤ end) × (end ≤ CLOCK_LIMIT)

-- the tape with an entry put before its others, or the fault
abbrev pub with_first : TapeEntry → Result TapeValue (ℕ × LineCause) → Result TapeValue (ℕ × LineCause)
with_first entry (Ok tape) = Ok (record { entries = entry ∷ tape.entries; end = tape.end })
with_first entry (Err fault) = Err fault

-- the END line with this number is the last
abbrev pub ended : ℕ → ℕ → List (List ℕ) → Result TapeValue (ℕ × LineCause)
ended number end [] = Ok (record { entries = []; end = end })
ended number end (_ ∷ _) = Err (number + 1, cause.AfterEnd)

-- what comes of a line with this number that states an entry, an END clock, or its fault
abbrev pub with_line : ℕ → Result Line LineCause → (TapeEntry → Result TapeValue (ℕ × LineCause)) → (ℕ → Result TapeValue (ℕ × LineCause)) → Result TapeValue (ℕ × LineCause)
with_line number (Ok (Entry entry)) more last = more entry
with_line number (Ok (End end)) more last = last end
with_line number (Err fault) more last = Err (number, fault)

-- the tape of the lines from this number on, after a line with the clock before, or the first fault
-- with its line
unfoldable pub tape_from : ℕ → ℕ → List (List ℕ) → Result TapeValue (ℕ × LineCause)
tape_from number before [] = Err (number, cause.NoEnd)
tape_from number before (line ∷ lines) =
    with_line number (tape_line_of before (words_of line)) (λ entry. with_first entry (tape_from (number + 1) entry.clock lines)) (λ end. ended number end lines)

-- the one tape of a text, or its one fault with the number of its line, counted from 1
abbrev pub tape_of : List ℕ → Result TapeValue (ℕ × LineCause)
tape_of text = tape_from 1 0 (lines_of text)

-- how a text is read: too long above the limit of its bytes, else its tape or its fault, unless
-- memory runs out
abbrev pub ReadsTape : List ℕ → Result TapeValue TapeFault → Type 0
ReadsTape text (Ok tape) = (length text ≤ TAPE_LIMIT) × (tape_of text ≡ Ok tape)
ReadsTape text (Err TooLong) = TAPE_LIMIT < length text
ReadsTape text (Err (BadLine line cause)) = (length text ≤ TAPE_LIMIT) × (tape_of text ≡ Err (line, cause))
ReadsTape text (Err OutOfMemory) = length text ≤ TAPE_LIMIT
