-- What is asked of a measure.
use Rattle.std.specs.Prelude.{ℕ, min}
use Rattle.board_base.specs.declared.board.TheConstants.{CLOCK_LIMIT}
use Rattle.device_bench.specs.declared.asked.Report.{Report}
use Rattle.device_bench.specs.declared.asked.Report.TheVariants.{Sums, Times}

-- the clocks to be done: a fixed number for sums, and else those asked for, at most 2^48
abbrev pub clocks_of : Report → ℕ → ℕ
clocks_of Sums fixed = fixed
clocks_of (Times clocks) fixed = min clocks CLOCK_LIMIT
