use Rattle.run_summary.proofs.SummaryLaws.{tallied-start, tallied-more}
use Rattle.run_summary.proofs.summary.Tally.of.Goals as goal

pub loop-record-init : goal.loop-record-init
loop-record-init c = tallied-start c.args.records.now _ c.none-tally.ensures

pub loop-record-preserved : goal.loop-record-preserved
loop-record-preserved c =
    tallied-more c.args.records.now c.loop-record.record-index _ _ _ c.loop-record-test.true c.loop-record.invariant c.with-tally.ensures.tally
    c.with-tally.ensures.small
