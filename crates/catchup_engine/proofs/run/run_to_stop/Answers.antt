use Rattle.std.proofs.Common.{◌≡◌, not, is_some, ap, sym, ◌∙◌, arith}
use Rattle.board_base.specs.Cpu.{CpuValue}
use Rattle.catchup_engine.proofs.BreaksOn.{AtTurn, break-jammed, break-begins, break-ends}
use Rattle.catchup_engine.proofs.run.run_to_stop.Given
use Rattle.catchup_engine.proofs.run.run_to_stop.Goals as goal
use Rattle.catchup_engine.proofs.run.run_to_stop.Goals.{then-is_none, else-is_none}

-- the first turn is made unless the processor is jammed
first : (g : Given.Over) (c : goal.After-run_by_wiring g)
    → AtTurn c.args.tape.now.entries c.args.limit c.args.stops.now c.args.cpu c.args.bus.now c.if-is_none.bus c.if-is_none.cpu
first g c =
    let jammed : is_some c.args.cpu.jam ≡ not c.is_none.result =
    ap (λ (k : CpuValue). is_some k.jam) (sym (c.behind-cpu.view_is ∙ c.state.ensures.value)) ∙ c.is_none.ensures in
    elim c.if-is_none.branch [
      | then-is_none w ↦
          rw (w.cpu-is, w.bus-is)
          (break-begins c.args.tape.now.entries c.args.limit c.args.stops.now c.args.cpu c.args.bus.now w.step_slow-cpu.new.bus w.step_slow-cpu.result c.requires.ready.between
          (jammed ∙ ap not w.if-is_none.true) (omega arith) (rw c.state.ensures.value at c.state.ensures.place) c.requires.ready.range w.step_slow-cpu.ensures.turned)
      | else-is_none w ↦
          rw (w.cpu-is, w.bus-is)
          (break-jammed c.args.tape.now.entries c.args.limit c.args.stops.now c.args.cpu c.args.bus.now c.requires.ready.between
          (jammed ∙ ap not w.if-is_none.false) (rw c.state.ensures.value at c.state.ensures.place) c.requires.ready.range)
    ]

pub returns : goal.returns
returns g c = record {
  runs =
      break-ends c.args.tape.now.entries c.args.limit c.args.stops.now c.args.cpu c.args.bus.now c.if-is_none.bus c.run_by_wiring.new.bus c.if-is_none.cpu c.run_by_wiring.result
      (first g c) c.run_by_wiring.ensures.runs;
}
