-- What the loop over the lines of a script keeps.
use Rattle.std.proofs.Common.{◌≡◌, ℕ, ◌+◌, ◌<◌, ◌≤◌, true, List, [], ◌∷◌, ◌++◌, length, Some, None, Result, Ok, Err, refl, sym, ap, ◌∙◌, arith}
use Rattle.std.proofs.lemmas.List.{append_assoc, append-nil, nil_from_length}
use Rattle.plain_text.specs.Lines.{lines_of}
use Rattle.debug_script.specs.declared.command.Command.{Command}
use Rattle.debug_script.specs.Script.{next_command, script_from, script_of, with_command, with_first}
use Rattle.debug_script.specs.Breakpoints.{Fit, StopsValue, are_few, no_stops, stops_after}

-- commands in front of the others, or the number of the first malformed line
abbrev pub with_front : List Command → Result (List Command) ℕ → Result (List Command) ℕ
with_front front (Ok commands) = Ok (front ++ commands)
with_front front (Err number) = Err number

with_front-push : (front : List Command) (command : Command) (read : Result (List Command) ℕ)
    → with_front front (with_first command read) ≡ with_front (front ++ command ∷ []) read
with_front-push front command (Ok commands) = rw append_assoc refl
with_front-push front command (Err number) = refl

-- after some lines: their commands, the stops that these leave, how many lines they are, and the
-- rest of the text
pub record ReadSoFar (text : List ℕ) (commands : List Command) (stops : StopsValue) (number : ℕ) (rest : List ℕ) : Type 0 where
  pub script : with_front commands (script_from (number + 1) stops (lines_of rest)) ≡ script_of text
  pub lines : number + length rest ≤ length text
  pub fit : (more : List Command) → Fit stops more → Fit no_stops (commands ++ more)

module _ (text : List ℕ) (commands : List Command) (stops : StopsValue) (number : ℕ) (rest line after : List ℕ)
    (so_far : ReadSoFar text commands stops number rest) (parted : lines_of rest ≡ line ∷ lines_of after) (shorter : length after < length rest) where
  -- an empty line more
  pub so_far-empty : length line ≡ 0 → ReadSoFar text commands stops (number + 1) after
  unfolding script_from
  so_far-empty none =
      let same : lines_of rest ≡ [] ∷ lines_of after = parted ∙ ap (λ l. l ∷ lines_of after) (nil_from_length line none) in
      let step : script_from (number + 1) stops (lines_of rest) ≡ script_from ((number + 1) + 1) stops (lines_of after) = rw same refl in
      let count = so_far.lines in
      record {
        script = ap (with_front commands) (sym step) ∙ so_far.script;
        lines = omega arith;
        fit = so_far.fit;
      }

  some_line-stated : (bytes : List ℕ) → bytes ≡ line → 0 < length bytes
      → script_from (number + 1) stops (lines_of rest)
      ≡ with_command (number + 1) (next_command stops line) (λ command. script_from ((number + 1) + 1) (stops_after command stops) (lines_of after))
  unfolding script_from
  some_line-stated [] is some = absurd (omega arith)
  some_line-stated (byte ∷ bytes) is some = rw (parted, ← is) refl

  -- a malformed line
  pub so_far-bad : 0 < length line → None ≡ next_command stops line → script_of text ≡ Err (number + 1)
  so_far-bad some said =
      let step : script_from (number + 1) stops (lines_of rest) ≡ Err (number + 1) = some_line-stated line refl some ∙ rw (← said) refl in
      sym so_far.script ∙ ap (with_front commands) step

  -- a command more
  pub so_far-command : (command : Command) → 0 < length line → Some command ≡ next_command stops line → are_few (stops_after command stops) ≡ true
      → ReadSoFar text (commands ++ command ∷ []) (stops_after command stops) (number + 1) after
  so_far-command command some said few =
      let more = script_from ((number + 1) + 1) (stops_after command stops) (lines_of after) in
      let step : script_from (number + 1) stops (lines_of rest) ≡ with_first command more = some_line-stated line refl some ∙ rw (← said) refl in
      let count = so_far.lines in
      record {
        script = sym (with_front-push commands command more) ∙ ap (with_front commands) (sym step) ∙ so_far.script;
        lines = omega arith;
        fit = λ others fits. rw append_assoc (so_far.fit (command ∷ others) (few, fits));
      }

-- all lines are read
pub record IsRead (text : List ℕ) (commands : List Command) : Type 0 where
  pub script : script_of text ≡ Ok commands
  pub fit : Fit no_stops commands

pub so_far-all : (text : List ℕ) (commands : List Command) (stops : StopsValue) (number : ℕ) (rest : List ℕ) → ReadSoFar text commands stops number rest
    → length rest ≡ 0 → IsRead text commands
unfolding lines_of script_from
so_far-all text commands stops number rest so_far none =
    let empty : rest ≡ [] = nil_from_length rest none in
    let step : script_from (number + 1) stops (lines_of rest) ≡ Ok [] = rw empty refl in
    let whole : commands ++ [] ≡ commands = append-nil commands in
    record {
      script = sym so_far.script ∙ ap (with_front commands) step ∙ ap Ok whole;
      fit = rw (← whole) (so_far.fit [] tt);
    }
