-- The text of a tape, line by line, is what the definition reads.
use Rattle.std.proofs.Common.{◌≡◌, ℕ, ◌+◌, ◌≤◌, subst, List, [], ◌∷◌, ◌++◌, suc, Bool, true, false, if◌then◌else◌, Result, Ok, Err, refl, sym, ap, ◌∙◌, arith, nat_lt}
use Rattle.std.specs.Prelude.{Option, Some, None, AllPairs, All, codes, ok_or, bytes_eq, ◌↔◌}
use Rattle.std.proofs.lemmas.Bool.{le-ltb, ltb-false, false_from_ne_true}
use Rattle.std.proofs.lemmas.List.Elements.{All-nil, All-cons, All-head, All-weaker}
use Rattle.std.proofs.lemmas.List.Kept.{AllPairs-cons}
use Rattle.std.proofs.lemmas.Slice.Eq.{bytes_eq-Decides}
use Rattle.board_base.specs.declared.board.TheConstants.{CLOCK_LIMIT}
use Rattle.tape_ports.specs.declared.entry.Port.{Port}
use Rattle.tape_ports.specs.declared.entry.TapeEntry.{TapeEntry}
use Rattle.tape_ports.specs.declared.fault.LineCause.{LineCause}
use Rattle.tape_ports.specs.declared.fault.LineCause.TheVariants as cause
use Rattle.tape_ports.specs.declared.line.Line.{Line}
use Rattle.tape_ports.specs.declared.line.Line.TheVariants.{Entry, End}
use Rattle.plain_text.specs.Lines.{lines_of, words_of}
use Rattle.plain_text.specs.Numbers.{decimal_of, value_of}
use Rattle.tape_ports.specs.Grammar.{◌>>=◌, clock_after, end_line, entry_line, tape_line_of, with_first, ended, with_line, tape_from, tape_of}
use Rattle.tape_ports.specs.Ports.{port_of}
use Rattle.tape_ports.specs.Tape.{TapeValue}
use Rattle.tape_ports.specs.TapeText.{IsEntryLine, IsEndLine, AreEntryLines, clocks_of, AreTapeLines, IsTapeText}

-- a clock that was let through is the given one, in range and not below the one before
clock_let : (before clock at : ℕ) → clock_after before clock ≡ Ok at → (clock ≡ at) × (before ≤ clock) × (clock ≤ CLOCK_LIMIT)
unfolding clock_after
clock_let before clock at said =
    elim (nat_lt CLOCK_LIMIT clock) as (λ b. nat_lt CLOCK_LIMIT clock ≡ b → (if b then Err cause.Clock else (if nat_lt clock before then Err cause.Falls else Ok clock)) ≡ Ok at
    → (clock ≡ at) × (before ≤ clock) × (clock ≤ CLOCK_LIMIT)) [
      | true ↦ λ _ high. absurd (cc)
      | false ↦ λ low. elim (nat_lt clock before) as (λ b. nat_lt clock before ≡ b → (if b then Err cause.Falls else Ok clock) ≡ Ok at
          → (clock ≡ at) × (before ≤ clock) × (clock ≤ CLOCK_LIMIT)) [
            | true ↦ λ _ falls. absurd (cc)
            | false ↦ λ rises same. (cc, ltb-false clock before rises, ltb-false CLOCK_LIMIT clock low)
          ] refl
    ] refl said

-- and such a clock is let through
clock_lets : (before clock : ℕ) → before ≤ clock → clock ≤ CLOCK_LIMIT → clock_after before clock ≡ Ok clock
unfolding clock_after
clock_lets before clock rises low = rw (le-ltb CLOCK_LIMIT clock low, le-ltb clock before rises) refl

-- what an entry line states, by whether its second word is END, and by the readings of its three
-- words
abbrev entry_by : ℕ → Bool → Option ℕ → Option ℕ → Option Port → Result Line LineCause
entry_by before ends clock value port =
    if ends then Err cause.Form
    else (do
      given ← ok_or clock cause.Form
      byte ← ok_or value cause.Form
      where_to ← ok_or port cause.Port
      at ← clock_after before given
      Ok (Entry (record { clock = at; port = where_to; value = byte })))

-- an entry that was stated has a clock that was let through, and the readings of the two other
-- words
record IsTold (before : ℕ) (entry : TapeEntry) (clock value : Option ℕ) (port : Option Port) : Type 0 where
  its_clock : clock ≡ Some entry.clock
  its_value : value ≡ Some entry.value
  its_port : port ≡ Some entry.port
  later : before ≤ entry.clock
  range : entry.clock ≤ CLOCK_LIMIT

entry_told : (before : ℕ) (entry : TapeEntry) (ends : Bool) (clock value : Option ℕ) (port : Option Port)
    → entry_by before ends clock value port ≡ Ok (Entry entry) → IsTold before entry clock value port
entry_told before entry true clock value port said = absurd (cc)
entry_told before entry false None value port said = absurd (cc)
entry_told before entry false (Some clock) None port said = absurd (cc)
entry_told before entry false (Some clock) (Some value) None said = absurd (cc)
entry_told before entry false (Some clock) (Some value) (Some port) said = let_through (clock_after before clock) refl said
  where
    let_through : (read : Result ℕ LineCause) → clock_after before clock ≡ read
        → (read >>= (λ at. Ok (Entry (record { clock = at; port = port; value = value })))) ≡ Ok (Entry entry)
        → IsTold before entry (Some clock) (Some value) (Some port)
    let_through (Err fault) is said = absurd (cc)
    let_through (Ok at) is said =
        let (same, later, low) = clock_let before clock at is in
        let whole : ◌≡◌ {A = TapeEntry} (record { clock = at; port = port; value = value }) entry = cc in
        let at_is : at ≡ entry.clock = ap (λ (e : TapeEntry). e.clock) whole in
        record {
          its_clock = ap Some (same ∙ at_is);
          its_value = ap (λ (e : TapeEntry). Some e.value) whole;
          its_port = ap (λ (e : TapeEntry). Some e.port) whole;
          later = omega (arith, same, at_is, later);
          range = omega (arith, same, at_is, low);
        }

-- an entry line states no END clock
no_end_told : (before end : ℕ) (ends : Bool) (clock value : Option ℕ) (port : Option Port) → entry_by before ends clock value port ≡ Ok (End end) → ⊥
no_end_told before end true clock value port said = cc
no_end_told before end false None value port said = cc
no_end_told before end false (Some clock) None port said = cc
no_end_told before end false (Some clock) (Some value) None said = cc
no_end_told before end false (Some clock) (Some value) (Some port) said = none (clock_after before clock) said
  where
    none : (read : Result ℕ LineCause) → (read >>= (λ at. Ok (Entry (record { clock = at; port = port; value = value })))) ≡ Ok (End end) → ⊥
    none (Err fault) said = cc
    none (Ok at) said = cc

-- what a line of two words states, by whether its second word is END, and by the reading of the
-- first
abbrev end_by : ℕ → Bool → Option ℕ → Result Line LineCause
end_by before ends clock =
    if ends
    then (do
      given ← ok_or clock cause.Form
      end ← clock_after before given
      Ok (End end))
    else Err cause.Form

-- an END clock that was stated was let through, behind the word END
record IsEndTold (before end : ℕ) (ends : Bool) (clock : Option ℕ) : Type 0 where
  its_word : ends ≡ true
  its_clock : clock ≡ Some end
  later : before ≤ end
  range : end ≤ CLOCK_LIMIT

end_told : (before end : ℕ) (ends : Bool) (clock : Option ℕ) → end_by before ends clock ≡ Ok (End end) → IsEndTold before end ends clock
end_told before end false clock said = absurd (cc)
end_told before end true None said = absurd (cc)
end_told before end true (Some clock) said = let_through (clock_after before clock) refl said
  where
    let_through : (read : Result ℕ LineCause) → clock_after before clock ≡ read → (read >>= (λ end. Ok (End end))) ≡ Ok (End end)
        → IsEndTold before end true (Some clock)
    let_through (Err fault) is said = absurd (cc)
    let_through (Ok at) is said =
        let (same, later, low) = clock_let before clock at is in
        let at_is : at ≡ end = cc in
        record { its_word = refl; its_clock = ap Some (same ∙ at_is); later = omega (arith, same, at_is, later); range = omega (arith, same, at_is, low) }

-- a line of two words states no entry
no_entry_told : (before : ℕ) (entry : TapeEntry) (ends : Bool) (clock : Option ℕ) → end_by before ends clock ≡ Ok (Entry entry) → ⊥
no_entry_told before entry false clock said = cc
no_entry_told before entry true None said = cc
no_entry_told before entry true (Some clock) said = none (clock_after before clock) said
  where
    none : (read : Result ℕ LineCause) → (read >>= (λ end. Ok (End end))) ≡ Ok (Entry entry) → ⊥
    none (Err fault) said = cc
    none (Ok at) said = cc

-- a line that states an entry is its entry line, and its clock isn't below the one before
is_entry_line : (before : ℕ) (line : List ℕ) (entry : TapeEntry) (words : List (List ℕ)) → words_of line ≡ words → tape_line_of before words ≡ Ok (Entry entry)
    → IsEntryLine line entry × (before ≤ entry.clock)
unfolding entry_line end_line
is_entry_line before line entry [] parted said = absurd (cc)
is_entry_line before line entry (first ∷ []) parted said = absurd (cc)
is_entry_line before line entry (first ∷ second ∷ []) parted said = absurd (no_entry_told before entry (bytes_eq second (codes "END")) (decimal_of first) said)
is_entry_line before line entry (first ∷ second ∷ third ∷ []) parted said =
    let stated = entry_told before entry (bytes_eq second (codes "END")) (decimal_of first) (value_of third) (port_of second) said in (
      record { first = first; second = second; third = third; words = parted; clock = stated.its_clock; range = stated.range; port = stated.its_port; value = stated.its_value },
      stated.later,
    )
is_entry_line before line entry (first ∷ second ∷ third ∷ fourth ∷ more) parted said = absurd (cc)

-- a line that states an END clock is the END line
is_end_line : (before : ℕ) (line : List ℕ) (end : ℕ) (words : List (List ℕ)) → words_of line ≡ words → tape_line_of before words ≡ Ok (End end)
    → IsEndLine line end × (before ≤ end)
unfolding entry_line end_line
is_end_line before line end [] parted said = absurd (cc)
is_end_line before line end (first ∷ []) parted said = absurd (cc)
is_end_line before line end (first ∷ second ∷ []) parted said =
    let stated = end_told before end (bytes_eq second (codes "END")) (decimal_of first) said in
    let word : second ≡ codes "END" = (bytes_eq-Decides second (codes "END")).0 stated.its_word in (
      record { first = first; words = parted ∙ ap (λ (w : List ℕ). first ∷ w ∷ []) word; clock = stated.its_clock; range = stated.range },
      stated.later,
    )
is_end_line before line end (first ∷ second ∷ third ∷ []) parted said =
    absurd (no_end_told before end (bytes_eq second (codes "END")) (decimal_of first) (value_of third) (port_of second) said)
is_end_line before line end (first ∷ second ∷ third ∷ fourth ∷ more) parted said = absurd (cc)

-- END names no port
end_is_no_port : (word : List ℕ) (port : Port) → port_of word ≡ Some port → bytes_eq word (codes "END") ≡ false
end_is_no_port word port named = false_from_ne_true (bytes_eq word (codes "END")) (λ same.
    let is : word ≡ codes "END" = (bytes_eq-Decides word (codes "END")).0 same in
    let none : port_of (codes "END") ≡ None = refl in
    let some : port_of (codes "END") ≡ Some port = ap port_of (sym is) ∙ named in
    absurd (cc))

-- an entry line states its entry
tells_entry : (before : ℕ) (line : List ℕ) (entry : TapeEntry) → IsEntryLine line entry → before ≤ entry.clock → tape_line_of before (words_of line) ≡ Ok (Entry entry)
unfolding entry_line
tells_entry before line entry is later =
    rw (is.words, end_is_no_port is.second entry.port is.port, is.clock, is.value, is.port, clock_lets before entry.clock later is.range) refl

-- the END line states its clock
tells_end : (before : ℕ) (line : List ℕ) (end : ℕ) → IsEndLine line end → before ≤ end → tape_line_of before (words_of line) ≡ Ok (End end)
unfolding end_line
tells_end before line end is later = rw (is.words, is.clock, clock_lets before end later is.range) refl

-- what is read from the lines after a clock: they are those of the tape, and no clock is below the
-- one before
abbrev FollowOn : ℕ → List (List ℕ) → TapeValue → Type 0
FollowOn before lines tape = AreTapeLines lines tape × All (λ clock. before ≤ clock) (clocks_of tape)

-- one entry line more before the others
one_line_more : (before : ℕ) (line : List ℕ) (lines : List (List ℕ)) (entry : TapeEntry) (later : TapeValue) → IsEntryLine line entry → before ≤ entry.clock
    → FollowOn entry.clock lines later → FollowOn before (line ∷ lines) (record { entries = entry ∷ later.entries; end = later.end })
one_line_more before line lines entry later is rises (are, above) = (
  record {
    front = line ∷ are.front;
    last = are.last;
    parts = ap (λ (ls : List (List ℕ)). line ∷ ls) are.parts;
    entries = (is, are.entries);
    end = are.end;
    clocks = AllPairs-cons (λ earlier later. earlier ≤ later) entry.clock (clocks_of later) above are.clocks;
  },
  All-cons (λ clock. before ≤ clock) entry.clock (clocks_of later) rises
      (All-weaker (λ clock. entry.clock ≤ clock) (λ clock. before ≤ clock) (λ clock high. omega (arith, rises, high)) (clocks_of later) above),
)

-- the END line alone
end_line_alone : (before : ℕ) (line : List ℕ) (end : ℕ) → IsEndLine line end → before ≤ end → FollowOn before (line ∷ []) (record { entries = []; end = end })
end_line_alone before line end is rises = (
  record {
    front = [];
    last = line;
    parts = refl;
    entries = tt;
    end = is;
    clocks = AllPairs-cons (λ earlier later. earlier ≤ later) end [] (All-nil (λ later. end ≤ later)) (λ i j d order inside. absurd (omega arith));
  },
  All-cons (λ clock. before ≤ clock) end [] rises (All-nil (λ clock. before ≤ clock)),
)

-- lines that are read as a tape are those of the tape
reads_on : (number before : ℕ) (lines : List (List ℕ)) (tape : TapeValue) → tape_from number before lines ≡ Ok tape → FollowOn before lines tape
unfolding tape_from
reads_on number before [] tape said = absurd (cc)
reads_on number before (line ∷ lines) tape said =
    by_line (λ entry later. reads_on (number + 1) entry.clock lines later) (tape_line_of before (words_of line)) refl said
  where
    Others : Type 0
    Others = (entry : TapeEntry) (later : TapeValue) → tape_from (number + 1) entry.clock lines ≡ Ok later → FollowOn entry.clock lines later

    more : Others → (entry : TapeEntry) (rest : Result TapeValue (ℕ × LineCause)) → tape_line_of before (words_of line) ≡ Ok (Entry entry)
        → tape_from (number + 1) entry.clock lines ≡ rest → with_first entry rest ≡ Ok tape → FollowOn before (line ∷ lines) tape
    more others entry (Err fault) is rest said = absurd (cc)
    more others entry (Ok later) is rest said =
        let (entry_line, rises) = is_entry_line before line entry (words_of line) refl is in
        let whole : ◌≡◌ {A = TapeValue} (record { entries = entry ∷ later.entries; end = later.end }) tape = cc in
        let P : TapeValue → Type 0 = λ t. FollowOn before (line ∷ lines) t in
        subst P whole (one_line_more before line lines entry later entry_line rises (others entry later rest))

    last : (end : ℕ) (rest : List (List ℕ)) → tape_line_of before (words_of line) ≡ Ok (End end) → ended number end rest ≡ Ok tape → FollowOn before (line ∷ rest) tape
    last end [] is said =
        let (end_line, rises) = is_end_line before line end (words_of line) refl is in
        let whole : ◌≡◌ {A = TapeValue} (record { entries = []; end = end }) tape = cc in
        let P : TapeValue → Type 0 = λ t. FollowOn before (line ∷ []) t in
        subst P whole (end_line_alone before line end end_line rises)
    last end (other ∷ rest) is said = absurd (cc)

    by_line : Others → (read : Result Line LineCause) → tape_line_of before (words_of line) ≡ read
        → with_line number read (λ entry. with_first entry (tape_from (number + 1) entry.clock lines)) (λ end. ended number end lines) ≡ Ok tape
        → FollowOn before (line ∷ lines) tape
    by_line others (Err fault) is said = absurd (cc)
    by_line others (Ok (Entry entry)) is said = more others entry (tape_from (number + 1) entry.clock lines) is refl said
    by_line others (Ok (End end)) is said = last end lines is said

-- the lines of a tape are read as the tape
writes_on : (number before : ℕ) (front : List (List ℕ)) (last : List ℕ) (entries : List TapeEntry) (end : ℕ) → AreEntryLines front entries → IsEndLine last end
    → All (λ clock. before ≤ clock) (clocks_of (record { entries = entries; end = end }))
    → AllPairs (λ earlier later. earlier ≤ later) (clocks_of (record { entries = entries; end = end }))
    → tape_from number before (front ++ last ∷ []) ≡ Ok (record { entries = entries; end = end })
unfolding tape_from
writes_on number before [] last [] end are is above rises = rw (tells_end before last end is (All-head (λ clock. before ≤ clock) end [] above)) refl
writes_on number before [] last (entry ∷ entries) end are is above rises = absurd are
writes_on number before (line ∷ front) last [] end are is above rises = absurd are
writes_on number before (line ∷ front) last (entry ∷ entries) end (here, others) is above rises =
    let later : List ℕ = clocks_of (record { entries = entries; end = end }) in
    let at : before ≤ entry.clock = All-head (λ clock. before ≤ clock) entry.clock later above in
    let rest : tape_from (number + 1) entry.clock (front ++ last ∷ []) ≡ Ok (record { entries = entries; end = end }) =
    writes_on (number + 1) entry.clock front last entries end others is
    (λ k d inside. rises 0 (suc k) d (omega arith) (omega arith)) (λ i j d order inside. rises (suc i) (suc j) d (omega arith) (omega arith)) in
    rw (tells_entry before line entry here at, rest) refl

-- a text is read as a tape exactly where it is the text of that tape
pub tape_of-text : (text : List ℕ) (tape : TapeValue) → (tape_of text ≡ Ok tape) ↔ IsTapeText text tape
tape_of-text text tape = (
  (λ read. (reads_on 1 0 (lines_of text) tape read).0),
  (λ is. ap (tape_from 1 0) is.parts ∙ writes_on 1 0 is.front is.last tape.entries tape.end is.entries is.end (λ k d inside. omega arith) is.clocks),
)
