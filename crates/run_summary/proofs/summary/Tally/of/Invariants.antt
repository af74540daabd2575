use Rattle.run_summary.proofs.SummaryLaws.{Tallied}
use Rattle.run_summary.proofs.summary.Tally.of.Given as goal

abbrev pub invariant-loop-record : goal.invariant-loop-record
invariant-loop-record l = Tallied l.records l.record-index l.tally
