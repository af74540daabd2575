use Rattle.std.proofs.Common.{◌≡◌, ◌-◌}
use Rattle.catchup_engine.specs.Quiet.{passed}
use Rattle.catchup_engine.proofs.HorizonRuns.{AtHorizon}
use Rattle.catchup_engine.proofs.quiet.run_to_horizon.Given as goal

abbrev pub invariant-loop-goes_on : goal.invariant-loop-goes_on
invariant-loop-goes_on g l = record {
  at : AtHorizon l.tape l.limit (g.B.Breaks.conditions l.breaks) l.horizon l.fn.cpu l.fn.bus l.quiet.elapsed l.quiet.bus.now l.cpu l.goes_on;
  same : l.quiet.bus.ghost_name ≡ l.initial.quiet.bus.ghost_name;
}

abbrev pub decreases-loop-goes_on : goal.decreases-loop-goes_on
decreases-loop-goes_on g l = l.limit - (passed l.quiet.elapsed l.quiet.bus.now).peripherals.clock
