-- Records, the parts that make them, and what the trails of these parts hold. They are this
-- project's own.
use Rattle.std.specs.Prelude.{ℕ, ◌≤◌, ◌<◌, List, [], ◌∷◌, All}
use Rattle.std.specs.List.Sorted.{IsNonDecreasingBy}
use Rattle.board_base.specs.declared.part.Part.{Part}
use Rattle.board_base.specs.declared.part.Part.TheVariants.{Generator, Pokey1, Pokey2, Board}
use Rattle.board_base.specs.declared.record.Record.{Record}
use Rattle.board_base.specs.declared.record.Record.TheVariants.{Stroke, Levels, Latch, WatchdogReset}

-- the clock in which a record came
abbrev pub clock_of : Record → ℕ
clock_of (Stroke clock x0 y0 x1 y1 colour intensity) = clock
clock_of (Levels clock l1 l2 l3 l4) = clock
clock_of (Latch clock value) = clock
clock_of (WatchdogReset clock) = clock

-- the generator makes strokes alone, a POKEY levels, and the rest of the board latch writes and
-- watchdog resets
abbrev pub Makes : Part → Record → Type 0
Makes Generator (Stroke clock x0 y0 x1 y1 colour intensity) = Unit {0}
Makes Pokey1 (Levels clock l1 l2 l3 l4) = Unit {0}
Makes Pokey2 (Levels clock l1 l2 l3 l4) = Unit {0}
Makes Board (Latch clock value) = Unit {0}
Makes Board (WatchdogReset clock) = Unit {0}
Makes _ _ = ⊥

-- the records of a part's trail: clocks don't fall, and the part makes each
pub record IsTrailOf (part : Part) (records : List Record) : Type 0 where
  pub clocks : IsNonDecreasingBy clock_of records
  pub kinds : All (Makes part) records

-- records of a part that were made from one clock to another, which isn't in it any more, in the
-- order of their clocks
abbrev pub MadeBetween : Part → ℕ → List Record → ℕ → Type 0
MadeBetween part from [] to = from ≤ to
MadeBetween part from (made ∷ records) to =
    Makes part made × (from ≤ clock_of made) × (clock_of made < to) × MadeBetween part (clock_of made) records to
