use Rattle.catchup_engine.specs.Bus.{Accepts}
use Rattle.catchup_engine.proofs.TracedRuns.{AtTraced, clocks_left}
use Rattle.catchup_engine.proofs.run.trace_turns.Given as goal

abbrev pub invariant-loop-enough : goal.invariant-loop-enough
invariant-loop-enough g l = record {
  at : AtTraced g.T.Tracer.next g.T.Tracer.has_enough l.tape.entries l.limit l.fn.cpu l.fn.bus l.bus l.cpu l.fn.tracer l.tracer l.enough;
  accepts : Accepts l.tape l.bus;
}

abbrev pub decreases-loop-enough : goal.decreases-loop-enough
decreases-loop-enough g l = clocks_left l.limit l.cpu l.bus
