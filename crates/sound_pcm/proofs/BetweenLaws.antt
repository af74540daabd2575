-- Levels between two clocks.
use Rattle.std.proofs.Common.{ℕ, ◌≤◌, List, [], ◌∷◌, arith}
use Rattle.board_base.specs.declared.part.Part.{Part}
use Rattle.board_base.specs.declared.record.Record.{Record}
use Rattle.board_base.specs.declared.record.Record.TheVariants.{Levels}
use Rattle.board_base.specs.Records.{clock_of, MadeBetween}
use Rattle.sound_pcm.specs.Mixing.{LevelsBetween}

-- they are also levels from an earlier clock on
pub levels_earlier : (earlier from to : ℕ) (records : List Record) → earlier ≤ from → LevelsBetween from records to → LevelsBetween earlier records to
levels_earlier earlier from to [] order between = tt
levels_earlier earlier from to (Levels clock l1 l2 l3 l4 ∷ others) order (low, high, rest) = (omega (arith, order, low), high, rest)
levels_earlier earlier from to (_ ∷ others) order between = levels_earlier earlier from to others order between

-- the levels among what a part made between two clocks; what a POKEY makes is levels alone
pub made_levels : (part : Part) (from to : ℕ) (records : List Record) → MadeBetween part from records to → LevelsBetween from records to
made_levels part from to [] made = tt
made_levels part from to (Levels clock l1 l2 l3 l4 ∷ others) (makes, low, high, rest) = (low, high, made_levels part clock to others rest)
made_levels part from to (made ∷ others) (makes, low, high, rest) =
    levels_earlier from (clock_of made) to others low (made_levels part (clock_of made) to others rest)
