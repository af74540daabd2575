-- Records of one part in the order of their clocks.
use Rattle.std.proofs.Common.{ℕ, ◌+◌, ◌≤◌, ◌<◌, All, List, [], ◌∷◌, ◌++◌, zero, suc, length, get_or, arith}
use Rattle.std.proofs.lemmas.List.Elements.{All-cons}
use Rattle.std.proofs.lemmas.List.Sorted.{IsNonDecreasingBy-from_default}
use Rattle.board_base.specs.declared.part.Part.{Part}
use Rattle.board_base.specs.declared.record.Record.{Record}
use Rattle.board_base.specs.declared.record.Record.TheVariants.{Latch}
use Rattle.board_base.specs.Records.{clock_of, Makes, MadeBetween, IsTrailOf}
use Rattle.board_base.specs.Ticks.{ticks, made}

module _ (part : Part) where
  pub made-later : (from to later : ℕ) (records : List Record) → MadeBetween part from records to → to ≤ later → MadeBetween part from records later
  made-later from to later [] m h = omega arith
  made-later from to later (r ∷ records) m h = (m.0, m.1, (let a = m.2 in omega arith), made-later (clock_of r) to later records m.3 h)

  pub made-earlier : (earlier from to : ℕ) (records : List Record) → earlier ≤ from → MadeBetween part from records to → MadeBetween part earlier records to
  made-earlier earlier from to [] h m = omega arith
  made-earlier earlier from to (r ∷ records) h m = (m.0, (let a = m.1 in omega arith), m.2, m.3)

  pub made-within : (from to : ℕ) (records : List Record) → MadeBetween part from records to → from ≤ to
  made-within from to [] m = m
  made-within from to (r ∷ records) m = let a = m.1 in let b = m.2 in omega arith

  -- what was made up to a clock, and what was made from it on
  pub made-append : (from between to : ℕ) (first rest : List Record) → MadeBetween part from first between → MadeBetween part between rest to
      → MadeBetween part from (first ++ rest) to
  made-append from between to [] rest m n = made-earlier from between to rest m n
  made-append from between to (r ∷ first) rest m n =
      (m.0, m.1, (let a = made-within between to rest n in let b = m.2 in omega arith), made-append (clock_of r) between to first rest m.3 n)

  -- n clocks, each of which makes records of its own clock
  pub made-ticks : {S : Type 0} (tick : ℕ → S → S) (gives : ℕ → S → List Record)
      → ((at : ℕ) (s : S) → MadeBetween part at (gives at s) (at + 1)) → (from n : ℕ) (s : S)
      → MadeBetween part from (made tick gives from n s) (from + n)
  unfolding made
  made-ticks tick gives one from zero s = omega arith
  made-ticks tick gives one from (suc n) s =
      made-append from (from + n) (from + suc n) (made tick gives from n s) (gives (from + n) (ticks tick from n s))
      (made-ticks tick gives one from n s)
      (made-later (from + n) (from + n + 1) (from + suc n) (gives (from + n) (ticks tick from n s)) (one (from + n) (ticks tick from n s)) (omega arith))

  -- a record for a place past the end
  abbrev none_there : Record
  none_there = Latch 0 0

  clocks-from : (from to : ℕ) (records : List Record) → MadeBetween part from records to → (j : ℕ) → j < length records
      → from ≤ clock_of (get_or records j none_there)
  clocks-from from to [] m j h = absurd (omega arith)
  clocks-from from to (r ∷ records) m zero h = m.1
  clocks-from from to (r ∷ records) m (suc j) h =
      let first = m.1 in let later = clocks-from (clock_of r) to records m.3 j (omega arith) in omega arith

  clocks-rise : (from to : ℕ) (records : List Record) → MadeBetween part from records to → (i j : ℕ) → i ≤ j → j < length records
      → clock_of (get_or records i none_there) ≤ clock_of (get_or records j none_there)
  clocks-rise from to [] m i j h k = absurd (omega arith)
  clocks-rise from to (r ∷ records) m zero zero h k = omega arith
  clocks-rise from to (r ∷ records) m zero (suc j) h k = clocks-from (clock_of r) to records m.3 j (omega arith)
  clocks-rise from to (r ∷ records) m (suc i) zero h k = absurd (omega arith)
  clocks-rise from to (r ∷ records) m (suc i) (suc j) h k = clocks-rise (clock_of r) to records m.3 i j (omega arith) (omega arith)

  kinds-made : (from to : ℕ) (records : List Record) → MadeBetween part from records to → All (Makes part) records
  kinds-made from to [] m = λ k d h. absurd (omega arith)
  kinds-made from to (r ∷ records) m = All-cons (Makes part) r records m.0 (kinds-made (clock_of r) to records m.3)

  -- such records are a trail
  pub trail-made : (from to : ℕ) (records : List Record) → MadeBetween part from records to → IsTrailOf part records
  trail-made from to records m = record {
    clocks = IsNonDecreasingBy-from_default clock_of records none_there (clocks-rise from to records m);
    kinds = kinds-made from to records m;
  }
