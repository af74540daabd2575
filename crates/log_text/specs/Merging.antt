-- How the next record of four lists is found.
use Rattle.std.specs.Prelude.{◌≡◌, ◌≢◌, ℕ, List, [], ◌∷◌}
use Rattle.std.specs.Prelude.{Option, Some, None}
use Rattle.std.specs.List.Sorted.{IsNonDecreasingBy}
use Rattle.board_base.specs.declared.record.Record.{Record}
use Rattle.board_base.specs.Sooner.{sooner_of}
use Rattle.board_base.specs.Records.{clock_of}

-- the clock of the first record
abbrev pub first_clock : List Record → Option ℕ
first_clock [] = None
first_clock (first ∷ others) = Some (clock_of first)

-- the least of the first clocks of four lists
abbrev pub earliest_of : List Record → List Record → List Record → List Record → Option ℕ
earliest_of vector sound1 sound2 board =
    sooner_of (first_clock vector) (sooner_of (first_clock sound1) (sooner_of (first_clock sound2) (first_clock board)))

-- the first record is taken away where it came in this clock, else nothing is
abbrev pub TakesAt : ℕ → List Record → List Record → Option Record → Type 0
TakesAt clock before after None = (after ≡ before) × (first_clock before ≢ Some clock)
TakesAt clock before after (Some record_taken) = (before ≡ record_taken ∷ after) × (clock_of record_taken ≡ clock)

-- clocks don't fall in any of four lists
pub record AreSorted (strokes levels1 levels2 others : List Record) : Type 0 where
  pub vector : IsNonDecreasingBy clock_of strokes
  pub sound1 : IsNonDecreasingBy clock_of levels1
  pub sound2 : IsNonDecreasingBy clock_of levels2
  pub board : IsNonDecreasingBy clock_of others
