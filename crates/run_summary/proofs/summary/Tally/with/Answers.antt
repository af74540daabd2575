use Rattle.std.proofs.Common.{arith}
use Rattle.run_summary.proofs.SummaryLaws.{stroke-tallied, levels-tallied, latch-tallied, reset-tallied}
use Rattle.run_summary.proofs.summary.Tally.with.Goals as goal

pub returns-in-Stroke-clause-tally : goal.returns-in-Stroke-clause-tally
returns-in-Stroke-clause-tally c before is =
    let more = c.from.ensures in
    stroke-tallied before c.args.self c.args.made.now is _ _ _ _ _ _ _ _ c.in-Stroke.is (omega arith)

pub returns-in-Levels-clause-tally : goal.returns-in-Levels-clause-tally
returns-in-Levels-clause-tally c before is =
    let one = c.from-in-Levels.ensures in
    let two = c.from-in-Levels-2.ensures in
    let three = c.from-in-Levels-3.ensures in
    let four = c.from-in-Levels-4.ensures in
    levels-tallied before c.args.self c.args.made.now is _ _ _ _ _ _ c.in-Levels.is (omega arith)

pub returns-in-Latch-clause-tally : goal.returns-in-Latch-clause-tally
returns-in-Latch-clause-tally c before is = latch-tallied before c.args.self c.args.made.now is _ _ c.in-Latch.is

pub returns-in-WatchdogReset-clause-tally : goal.returns-in-WatchdogReset-clause-tally
returns-in-WatchdogReset-clause-tally c before is = reset-tallied before c.args.self c.args.made.now is _ c.in-WatchdogReset.is
