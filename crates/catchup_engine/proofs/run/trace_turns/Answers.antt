use Rattle.std.proofs.Common.{ap, sym, ◌∙◌, subst}
use Rattle.board_base.specs.Cpu.{CpuValue}
use Rattle.catchup_engine.proofs.TracedRuns.{AtTraced, traced-to-horizon, traced-goes_on, traced-starts}
use Rattle.catchup_engine.proofs.run.trace_turns.Goals as goal

pub loop-enough-init : goal.loop-enough-init
loop-enough-init g c = record {
  at = traced-starts g.T.Tracer.next g.T.Tracer.has_enough c.args.tape.now.entries c.args.limit c.args.cpu c.args.bus.now c.args.tracer.now c.requires.ready.between c.requires.ready.range;
  accepts = c.requires.ready.accepts;
}

pub loop-enough-preserved-then-is_private : goal.loop-enough-preserved-then-is_private
loop-enough-preserved-then-is_private g c = record {
  at =
      traced-to-horizon g.T.Tracer.next g.T.Tracer.has_enough c.args.tape.now.entries c.args.limit c.args.cpu c.args.bus.now c.loop-enough.bus c.trace_to_horizon-turns.new.bus
      c.loop-enough.cpu c.trace_to_horizon-turns.result.cpu c.args.tracer.now c.loop-enough.tracer c.trace_to_horizon-turns.new.tracer c.trace_to_horizon-turns.result.enough
      (subst (λ f. AtTraced g.T.Tracer.next g.T.Tracer.has_enough c.args.tape.now.entries c.args.limit c.args.cpu c.args.bus.now c.loop-enough.bus c.loop-enough.cpu
      c.args.tracer.now c.loop-enough.tracer f) c.loop-enough-test.true c.loop-enough.invariant.at)
      c.trace_to_horizon-turns.ensures.on c.trace_to_horizon-turns.ensures.turns c.trace_to_horizon-turns.ensures.later;
  accepts = c.trace_to_horizon-turns.ensures.accepts;
}

pub loop-enough-preserved : goal.loop-enough-preserved
loop-enough-preserved g c = record {
  at =
      traced-goes_on g.T.Tracer.next g.T.Tracer.has_enough c.args.tape.now.entries c.args.limit c.args.cpu c.args.bus.now c.loop-enough.bus c.trace_running-trace.new.bus
      c.loop-enough.cpu c.trace_running-trace.new.cpu c.args.tracer.now c.loop-enough.tracer c.turn-enough.new.self c.trace_running-trace.result c.turn-enough.result
      c.requires.ready.within
      (subst (λ f. AtTraced g.T.Tracer.next g.T.Tracer.has_enough c.args.tape.now.entries c.args.limit c.args.cpu c.args.bus.now c.loop-enough.bus c.loop-enough.cpu
      c.args.tracer.now c.loop-enough.tracer f) c.loop-enough-test.true c.loop-enough.invariant.at)
      (sym c.is_done.ensures ∙ c.if-not-is_done.true) c.trace_running-trace.ensures.turned c.trace_running-trace.ensures.trace
      (c.turn-enough.ensures.next c.trace_running-trace.result c.of.ensures
      ∙ ap (λ (k : CpuValue). g.T.Tracer.next c.loop-enough.tracer c.trace_running-trace.result k.pc) (c.behind-cpu-else-goes_on.view_is ∙ c.state-else-goes_on.ensures.value))
      c.turn-enough.ensures.enough;
  accepts = c.trace_running-trace.ensures.accepts;
}
