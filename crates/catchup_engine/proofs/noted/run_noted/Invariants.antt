use Rattle.std.proofs.Common.{◌≡◌, ◌-◌}
use Rattle.catchup_engine.specs.Quiet.{passed}
use Rattle.catchup_engine.proofs.NotedRuns.{AtNoted}
use Rattle.catchup_engine.proofs.noted.run_noted.Given as goal

abbrev pub invariant-loop-goes_on : goal.invariant-loop-goes_on
invariant-loop-goes_on g l = record {
  at : AtNoted g.T.Tracer.next g.T.Tracer.has_enough g.T.Tracer.plain g.T.Tracer.after_plain l.tape l.limit l.horizon l.together l.fn.cpu l.fn.bus
      l.noted.quiet.elapsed l.noted.quiet.bus.now l.cpu l.noted.reached.now l.goes_on;
  bus : l.noted.quiet.bus.ghost_name ≡ l.initial.noted.quiet.bus.ghost_name;
  reached : l.noted.reached.ghost_name ≡ l.initial.noted.reached.ghost_name;
}

abbrev pub decreases-loop-goes_on : goal.decreases-loop-goes_on
decreases-loop-goes_on g l = l.limit - (passed l.noted.quiet.elapsed l.noted.quiet.bus.now).peripherals.clock
