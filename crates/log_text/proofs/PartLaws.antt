-- The log of records up to a clock, and then that of the records from it on, is the log of all of
-- them.
use Rattle.std.proofs.Common.{◌≡◌, ℕ, ◌<◌, ◌≤◌, List, [], ◌∷◌, ◌++◌, true, false, if◌then◌else◌, refl, ap, ◌∙◌, arith, append-nil}
use Rattle.std.specs.Prelude.{nat_lt}
use Rattle.std.proofs.lemmas.Bool.{le-ltb}
use Rattle.std.proofs.lemmas.List.Concat.{flat_map-append}
use Rattle.board_base.specs.declared.record.Record.{Record}
use Rattle.board_base.specs.declared.part.Part.{Part}
use Rattle.board_base.specs.declared.part.Part.TheVariants.{Generator, Pokey1, Pokey2, Board}
use Rattle.board_base.specs.Records.{clock_of, MadeBetween}
use Rattle.log_text.specs.LogText.{PartRecord, placed, by_clock, from_part, log_text, merged, merged_text}
use Rattle.std.specs.List.{AllByRecursion as Each}
use Rattle.log_text.proofs.SortLaws.{clock, each-placed, placed-behind}

module _ (at : ℕ) where
  -- a record that is earlier stays in the first part
  placed-sooner : (made : PartRecord) (first rest : List PartRecord) → clock made < at → Each (λ r. at ≤ clock r) rest
      → placed made (first ++ rest) ≡ placed made first ++ rest
  unfolding placed
  placed-sooner made [] [] sooner later = refl
  placed-sooner made [] (x ∷ rest) sooner (from, _) = rw (le-ltb (clock x) (clock made) (omega arith)) refl
  placed-sooner made (x ∷ first) rest sooner later =
      elim (nat_lt (clock x) (clock made)) as (λ b. (if b then x ∷ placed made (first ++ rest) else made ∷ x ∷ (first ++ rest))
      ≡ (if b then x ∷ placed made first else made ∷ x ∷ first) ++ rest) [
        | true ↦ ap (λ l. x ∷ l) (placed-sooner made first rest sooner later)
        | false ↦ refl
      ]

  -- and another goes behind it
  placed-later : (made : PartRecord) (first rest : List PartRecord) → at ≤ clock made → Each (λ r. clock r < at) first
      → placed made (first ++ rest) ≡ first ++ placed made rest
  placed-later made [] rest from sooner = refl
  placed-later made (x ∷ first) rest from (earlier, others) =
      placed-behind made x (first ++ rest) (omega arith) ∙ ap (λ l. x ∷ l) (placed-later made first rest from others)

  -- the records so far, sorted, are those before the clock and then those from it on, each sorted by
  -- itself
  record Parted (all first rest : List PartRecord) : Type 0 where
    sorted : by_clock all ≡ by_clock first ++ by_clock rest
    sooner : Each (λ r. clock r < at) (by_clock first)
    later : Each (λ r. at ≤ clock r) (by_clock rest)

  -- the records of one part more
  one-part : (part : Part) (from low upto : ℕ) (f r : List Record) (all first rest : List PartRecord) → at ≤ low → MadeBetween part from f at
      → MadeBetween part low r upto → Parted all first rest → Parted (from_part part (f ++ r) ++ all) (from_part part f ++ first) (from_part part r ++ rest)
  unfolding by_clock
  one-part part from low upto [] [] all first rest _ _ _ parted = parted
  one-part part from low upto [] (x ∷ r) all first rest up _ (_, since, _, more) parted =
      let so_far = one-part part at (clock_of x) upto [] r all first rest (omega arith) (omega arith) more parted in record {
        sorted = ap (placed (part, x)) so_far.sorted ∙ placed-later (part, x) (by_clock first) _ (omega arith) so_far.sooner;
        sooner = so_far.sooner;
        later = each-placed (λ r. at ≤ clock r) (part, x) _ (omega arith) so_far.later;
      }
  one-part part from low upto (x ∷ f) r all first rest up (_, _, before, fewer) made parted =
      let so_far = one-part part (clock_of x) low upto f r all first rest up fewer made parted in record {
        sorted = ap (placed (part, x)) so_far.sorted ∙ placed-sooner (part, x) _ _ before so_far.later;
        sooner = each-placed (λ r. clock r < at) (part, x) _ before so_far.sooner;
        later = so_far.later;
      }

-- the text of two lists
pub log_text-append : (xs ys : List PartRecord) → log_text (xs ++ ys) ≡ log_text xs ++ log_text ys
unfolding log_text
log_text-append xs ys = flat_map-append _ xs ys

-- the records of four trails in two parts
pub merged_in_parts : (from at upto : ℕ) (v1 v2 a1 a2 b1 b2 w1 w2 : List Record)
    → MadeBetween Generator from v1 at → MadeBetween Generator at v2 upto → MadeBetween Pokey1 from a1 at → MadeBetween Pokey1 at a2 upto
    → MadeBetween Pokey2 from b1 at → MadeBetween Pokey2 at b2 upto → MadeBetween Board from w1 at → MadeBetween Board at w2 upto
    → merged (v1 ++ v2) (a1 ++ a2) (b1 ++ b2) (w1 ++ w2) ≡ merged v1 a1 b1 w1 ++ merged v2 a2 b2 w2
unfolding merged by_clock
merged_in_parts from at upto v1 v2 a1 a2 b1 b2 w1 w2 v v' a a' b b' w w' =
    let none : Parted at [] [] [] = record { sorted = refl; sooner = tt; later = tt } in
    let board = one-part at Board from at upto w1 w2 _ _ _ (omega arith) w w' none in
    let sound2 = one-part at Pokey2 from at upto b1 b2 _ _ _ (omega arith) b b' board in
    let sound1 = one-part at Pokey1 from at upto a1 a2 _ _ _ (omega arith) a a' sound2 in
    simp append-nil at (one-part at Generator from at upto v1 v2 _ _ _ (omega arith) v v' sound1).sorted

-- and their log
pub log_in_parts : (from at upto : ℕ) (v1 v2 a1 a2 b1 b2 w1 w2 : List Record)
    → MadeBetween Generator from v1 at → MadeBetween Generator at v2 upto → MadeBetween Pokey1 from a1 at → MadeBetween Pokey1 at a2 upto
    → MadeBetween Pokey2 from b1 at → MadeBetween Pokey2 at b2 upto → MadeBetween Board from w1 at → MadeBetween Board at w2 upto
    → merged_text (v1 ++ v2) (a1 ++ a2) (b1 ++ b2) (w1 ++ w2) ≡ merged_text v1 a1 b1 w1 ++ merged_text v2 a2 b2 w2
unfolding merged_text
log_in_parts from at upto v1 v2 a1 a2 b1 b2 w1 w2 v v' a a' b b' w w' =
    ap log_text (merged_in_parts from at upto v1 v2 a1 a2 b1 b2 w1 w2 v v' a a' b b' w w') ∙ log_text-append (merged v1 a1 b1 w1) (merged v2 a2 b2 w2)
