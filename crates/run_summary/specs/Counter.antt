-- A counter of the records of a run. This project's own.
use Rattle.std.specs.Prelude.{ℕ, ◌+◌, ◌≤◌, length}
use Rattle.lockstep_board.specs.Order.{Recorded}
use Rattle.run_summary.specs.declared.summary.Summary.{Summary}
use Rattle.run_summary.specs.Sizes.{most_records}
use Rattle.run_summary.specs.Summary.{summary_of, together}

-- what the records come to, and how many there were, which bounds the numbers of the summary
pub record CounterValue : Type 0 where
  pub total : Summary
  pub records : ℕ

-- how many records there are in four lists
abbrev pub count_of : Recorded → ℕ
count_of l = length l.strokes + length l.levels1 + length l.levels2 + length l.written

-- a counter after some records
abbrev pub counted : CounterValue → Recorded → CounterValue
counted c l = record { total = together c.total (summary_of l); records = c.records + count_of l }

-- there is room for them
abbrev pub HasRoom : CounterValue → Recorded → Type 0
HasRoom c l = c.records + count_of l ≤ most_records
