-- How large the numbers of a summary are at most, so that none of them passes 64 bits.
use Rattle.std.specs.Prelude.{ℕ, ◌*◌, ◌≤◌, length}
use Rattle.board_base.specs.declared.board.TheConstants.{CLOCK_LIMIT}
use Rattle.lockstep_board.specs.Order.{Recorded}
use Rattle.run_summary.specs.declared.summary.Summary.{Summary}
use Rattle.run_summary.specs.declared.summary.Tally.{Tally}

-- more clocks than a run makes, and so more records of each part
abbrev pub most_clocks : ℕ
most_clocks = 2 * CLOCK_LIMIT

-- and more records of all parts
abbrev pub most_records : ℕ
most_records = 4 * most_clocks

-- each part made n records at most
pub record AreFew (n : ℕ) (l : Recorded) : Type 0 where
  pub strokes : length l.strokes ≤ n
  pub levels1 : length l.levels1 ≤ n
  pub levels2 : length l.levels2 ≤ n
  pub written : length l.written ≤ n

-- the numbers of n records at most: an intensity is a byte, and so is a level
pub record IsSmallTally (n : ℕ) (t : Tally) : Type 0 where
  pub strokes : t.strokes ≤ n
  pub levels : t.levels ≤ n
  pub latches : t.latches ≤ n
  pub resets : t.resets ≤ n
  pub sum : t.sum ≤ 1020 * n

-- the numbers of n records at most of each part
pub record IsSmall (n : ℕ) (s : Summary) : Type 0 where
  pub strokes : s.strokes ≤ n
  pub levels1 : s.levels1 ≤ n
  pub levels2 : s.levels2 ≤ n
  pub latches : s.latches ≤ n
  pub resets : s.resets ≤ n
  pub sum : s.sum ≤ 3060 * n
