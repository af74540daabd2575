-- What the loop over the lines of a tape's text keeps.
use Rattle.std.proofs.Common.{◌≡◌, ℕ, ◌+◌, ◌-◌, ◌<◌, ◌≤◌, List, [], ◌∷◌, ◌++◌, length, Result, Ok, Err, refl, sym, ap, ◌∙◌, arith}
use Rattle.std.specs.List.{All}
use Rattle.std.specs.List.Sorted.{IsNonDecreasingBy}
use Rattle.std.proofs.lemmas.List.{append_assoc, append-nil, nil_from_length}
use Rattle.std.proofs.lemmas.List.Elements.{All-push, All-weaker}
use Rattle.std.proofs.lemmas.List.Sorted.{IsNonDecreasingBy-push}
use Rattle.board_base.specs.declared.board.TheConstants.{CLOCK_LIMIT}
use Rattle.plain_text.proofs.Parting.{some_line}
use Rattle.plain_text.specs.Lines.{lines_of, words_of}
use Rattle.tape_ports.specs.declared.entry.TapeEntry.{TapeEntry}
use Rattle.tape_ports.specs.declared.fault.LineCause.{LineCause}
use Rattle.tape_ports.specs.declared.fault.LineCause.TheVariants as cause
use Rattle.tape_ports.specs.declared.line.Line.TheVariants.{Entry, End}
use Rattle.tape_ports.specs.Grammar.{tape_line_of, ComesAfter, with_first, ended, tape_from, tape_of}
use Rattle.tape_ports.specs.Ports.{IsPort}
use Rattle.tape_ports.specs.Tape.{TapeValue}

-- the tape with these entries put before its others, or the fault
abbrev pub with_front : List TapeEntry → Result TapeValue (ℕ × LineCause) → Result TapeValue (ℕ × LineCause)
with_front front (Ok tape) = Ok (record { entries = front ++ tape.entries; end = tape.end })
with_front front (Err fault) = Err fault

with_front-push : (front : List TapeEntry) (entry : TapeEntry) (read : Result TapeValue (ℕ × LineCause))
    → with_front front (with_first entry read) ≡ with_front (front ++ entry ∷ []) read
with_front-push front entry (Ok tape) = rw append_assoc refl
with_front-push front entry (Err fault) = refl

-- after some good entry lines: the entries read, the number of the next line, the last clock, and
-- the rest of the text
pub record ReadSoFar (text : List ℕ) (entries : List TapeEntry) (line before : ℕ) (rest : List ℕ) : Type 0 where
  pub tape : with_front entries (tape_from line before (lines_of rest)) ≡ tape_of text
  pub number : line + length rest ≤ 1 + length text
  pub rising : IsNonDecreasingBy (λ entry. entry.clock) entries
  pub within : All (λ entry. entry.clock ≤ before) entries
  pub range : before ≤ CLOCK_LIMIT
  pub ports : All (λ entry. IsPort entry.port) entries

ended-some : (line end : ℕ) (lines : List (List ℕ)) → 0 < length lines → ended line end lines ≡ Err (line + 1, cause.AfterEnd)
ended-some line end [] some = absurd (omega arith)
ended-some line end (first ∷ lines) some = refl

module _ (text : List ℕ) (entries : List TapeEntry) (line before : ℕ) (rest first after : List ℕ) (so_far : ReadSoFar text entries line before rest)
    (parted : lines_of rest ≡ first ∷ lines_of after) (shorter : length after < length rest) where
  -- a good entry line more
  ReadSoFar-push : (entry : TapeEntry) → Ok (Entry entry) ≡ tape_line_of before (words_of first) → ComesAfter before (Entry entry)
      → ReadSoFar text (entries ++ entry ∷ []) (line + 1) entry.clock after
  unfolding tape_from
  ReadSoFar-push entry said good = record {
    tape =
        let step : tape_from line before (lines_of rest) ≡ with_first entry (tape_from (line + 1) entry.clock (lines_of after)) =
        rw (parted, ← said) refl in
        sym (with_front-push entries entry (tape_from (line + 1) entry.clock (lines_of after))) ∙ ap (with_front entries) (sym step) ∙ so_far.tape;
    number = omega (arith, so_far.number, shorter);
    rising = IsNonDecreasingBy-push (λ e. e.clock) entries entry so_far.rising (λ d some. omega (arith, so_far.within (length entries - 1) d (omega arith), good.0));
    within = All-push (λ e. e.clock ≤ entry.clock) entries entry
        (All-weaker (λ e. e.clock ≤ before) (λ e. e.clock ≤ entry.clock) (λ other low. omega (arith, low, good.0)) entries so_far.within) (omega arith);
    range = good.1;
    ports = All-push (λ e. IsPort e.port) entries entry so_far.ports good.2;
  }

  pub ReadSoFar-entry : (entry : TapeEntry) (more : List TapeEntry) → Ok (Entry entry) ≡ tape_line_of before (words_of first) → ComesAfter before (Entry entry)
      → more ≡ entries ++ entry ∷ [] → ReadSoFar text more (line + 1) entry.clock after
  ReadSoFar-entry entry more said good pushed = rw pushed (ReadSoFar-push entry said good)

  -- an END line with nothing after it
  pub tape_of-end : (end : ℕ) → Ok (End end) ≡ tape_line_of before (words_of first) → after ≡ []
      → tape_of text ≡ Ok (record { entries = entries; end = end })
  unfolding lines_of tape_from
  tape_of-end end said none =
      let step : tape_from line before (lines_of rest) ≡ Ok (record { entries = []; end = end }) = rw (parted, ← said, none) refl in
      sym so_far.tape ∙ ap (with_front entries) step ∙ ap (λ es. Ok (record { entries = es; end = end })) (append-nil entries)

  -- an END line with something after it
  pub tape_of-after_end : (end : ℕ) → Ok (End end) ≡ tape_line_of before (words_of first) → 0 < length after
      → tape_of text ≡ Err (line + 1, cause.AfterEnd)
  unfolding lines_of tape_from
  tape_of-after_end end said some =
      let more : ended line end (lines_of after) ≡ Err (line + 1, cause.AfterEnd) = ended-some line end (lines_of after) (some_line after some) in
      let step : tape_from line before (lines_of rest) ≡ Err (line + 1, cause.AfterEnd) = rw (parted, ← said) more in
      sym so_far.tape ∙ ap (with_front entries) step

  -- a bad line
  pub tape_of-bad : (fault : LineCause) → Err fault ≡ tape_line_of before (words_of first) → tape_of text ≡ Err (line, fault)
  unfolding tape_from
  tape_of-bad fault said =
      let step : tape_from line before (lines_of rest) ≡ Err (line, fault) = rw (parted, ← said) refl in
      sym so_far.tape ∙ ap (with_front entries) step

-- a text that ends with an entry line
pub tape_of-no_end : (text : List ℕ) (entries : List TapeEntry) (line before : ℕ) (rest : List ℕ) → ReadSoFar text entries line before rest
    → length rest ≡ 0 → tape_of text ≡ Err (line, cause.NoEnd)
unfolding lines_of tape_from
tape_of-no_end text entries line before rest so_far none =
    let empty : rest ≡ [] = nil_from_length rest none in
    let step : tape_from line before (lines_of rest) ≡ Err (line, cause.NoEnd) = rw empty refl in
    sym so_far.tape ∙ ap (with_front entries) step
