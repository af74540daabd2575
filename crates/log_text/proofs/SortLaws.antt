-- Records sorted by their clocks.
use Rattle.std.proofs.Common.{◌≡◌, ℕ, ◌<◌, ◌≤◌, List, [], ◌∷◌, true, false, if◌then◌else◌, refl}
use Rattle.std.specs.Prelude.{nat_lt}
use Rattle.std.specs.List.{All, AllByRecursion as Each}
use Rattle.std.proofs.lemmas.Bool.{lt-ltb, le-ltb}
use Rattle.std.proofs.lemmas.List.Elements.{recursion_from_All}
use Rattle.board_base.specs.Records.{clock_of}
use Rattle.log_text.specs.LogText.{PartRecord, placed, by_clock}

-- the clock of a record and its part
abbrev pub clock : PartRecord → ℕ
clock made = clock_of made.1

-- a record comes behind an earlier one
pub placed-behind : (made first : PartRecord) (others : List PartRecord) → clock first < clock made
    → placed made (first ∷ others) ≡ first ∷ placed made others
unfolding placed
placed-behind made first others earlier = rw (lt-ltb (clock first) (clock made) earlier)

pub each-placed : (P : PartRecord → Type 0) (made : PartRecord) (others : List PartRecord) → P made → Each P others → Each P (placed made others)
unfolding placed
each-placed P made [] here _ = (here, tt)
each-placed P made (first ∷ others) here (next, rest) =
    elim (nat_lt (clock first) (clock made)) as (λ b. Each P (if b then first ∷ placed made others else made ∷ first ∷ others)) [
      | true ↦ (next, each-placed P made others here rest)
      | false ↦ (here, (next, rest))
    ]

-- sorting keeps what holds of each record
each-by_clock : (P : PartRecord → Type 0) (records : List PartRecord) → Each P records → Each P (by_clock records)
unfolding by_clock
each-by_clock P [] _ = tt
each-by_clock P (made ∷ others) (here, rest) = each-placed P made (by_clock others) here (each-by_clock P others rest)

-- a record that is no later than the others stays first
pub by_clock-first : (made : PartRecord) (others : List PartRecord) → All (λ other. clock made ≤ clock other) (made ∷ others)
    → by_clock (made ∷ others) ≡ made ∷ by_clock others
unfolding by_clock placed
by_clock-first made others later = placed-first made (by_clock others) (each-by_clock _ others (recursion_from_All _ (made ∷ others) later).1)
  where
    placed-first : (made : PartRecord) (others : List PartRecord) → Each (λ other. clock made ≤ clock other) others → placed made others ≡ made ∷ others
    placed-first made [] later = refl
    placed-first made (first ∷ others) (later, _) = rw (le-ltb (clock first) (clock made) later)
