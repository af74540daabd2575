-- What it costs to show boards of a run in any order: one run to the last of them. This project's
-- own choice.
use Rattle.std.specs.Prelude.{◌≡◌, ℕ, ◌+◌, ◌*◌, ◌<◌, ◌≤◌, Bool, true, false, ◌&&◌, nat_lt, List, Option, Some, None, length, get_or}
use Rattle.tape_ports.specs.declared.entry.TapeEntry.{TapeEntry}
use Rattle.keyframes.specs.declared.pages.TheConstants.{BOARD_PAGES}
use Rattle.lockstep_board.specs.Lockstep.{Board}
use Rattle.lockstep_board.specs.Run.{to_clock}
use Rattle.keyframes.specs.Keys.{Keyframe, KeyframesValue, live_of}

-- the start of the run alone is kept, and there is room beside it for so many boards
pub record HasRoom (keys : KeyframesValue) (boards : ℕ) : Type 0 where
  pub alone : length keys.kept ≡ 1
  pub pages : live_of keys + BOARD_PAGES * boards ≤ keys.capacity
  pub frames : 1 + boards ≤ keys.limit

-- a board is kept at or below a clock, from which the run to that clock comes to no later one
abbrev pub IsReached : List TapeEntry → Board → List Keyframe → ℕ → Type 0
IsReached entries b kept clock = (k : ℕ) × (k < length kept) × ((d : Keyframe) → (get_or kept k d).board.clock ≤ clock)
    × ((d : Keyframe) → (to_clock entries clock b).peripherals.clock ≤ (get_or kept k d).board.clock)

-- the clock where it is chosen, and else what was found before
abbrev pub chosen : Bool → Option ℕ → ℕ → Option ℕ
chosen true found clock = Some clock
chosen false found clock = found

-- the lesser of a clock above the last one and of the one found before
abbrev pub lesser : ℕ → Option ℕ → ℕ → Option ℕ
lesser last None clock = chosen (nat_lt last clock) None clock
lesser last (Some found) clock = chosen (nat_lt last clock && nat_lt clock found) (Some found) clock

-- the least of the first clocks that is above the last one, or none, where there is none
abbrev pub IsNextOf : List ℕ → ℕ → ℕ → Option ℕ → Type 0
IsNextOf clocks upto last None = (k d : ℕ) → k < upto → get_or clocks k d ≤ last
IsNextOf clocks upto last (Some next) = (last < next) × ((i : ℕ) × (i < upto) × ((d : ℕ) → get_or clocks i d ≡ next))
    × ((k d : ℕ) → k < upto → last < get_or clocks k d → next ≤ get_or clocks k d)
