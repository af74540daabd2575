use Rattle.std.proofs.Common.{◌≡◌, ◌-◌, ap, sym, ◌∙◌, arith}
use Rattle.board_base.specs.Cpu.{CpuValue}
use Rattle.lockstep_board.specs.Peripherals.{byte_read}
use Rattle.catchup_engine.specs.Runs.{over_bus}
use Rattle.catchup_engine.proofs.NotedRuns.{single-ends, together-ends}
use Rattle.catchup_engine.proofs.noted.trace_to_horizon.Goals as goal
use Rattle.catchup_engine.proofs.noted.trace_to_horizon.Goals.{then-together, else-together}

pub overflow_cast-note : goal.overflow_cast-note
overflow_cast-note g c =
    let few = ((c.run_noted-cpu.ensures.turns c.args.tracer.now).single c.if-together.false).few in
    let from = c.clock-start.ensures.value in
    let to = c.clock.ensures.value in
    omega (arith, few, from, to)

pub invariant_of-note : goal.invariant_of-note
invariant_of-note g c =
    let few = ((c.run_noted-cpu.ensures.turns c.args.tracer.now).single c.if-together.false).few in
    let from = c.clock-start.ensures.value in
    let to = c.clock.ensures.value in
    record { clocks = omega (arith, few, from, to) }

pub returns-clause-turns : goal.returns-clause-turns
returns-clause-turns g c =
    let run = c.run_noted-cpu.ensures.turns c.args.tracer.now in
    let clocks : c.clock.result - c.clock-start.result ≡ c.run_noted-cpu.new.bus.peripherals.clock - c.args.bus.now.peripherals.clock =
    ap (λ k. k - c.clock-start.result) c.clock.ensures.value ∙ ap (λ k. c.run_noted-cpu.new.bus.peripherals.clock - k) c.clock-start.ensures.value in
    elim c.if-together.branch [
      | then-together w ↦ together-ends g.T.Tracer.next g.T.Tracer.has_enough g.T.Tracer.after_plain c.args.tape.now.entries c.args.limit c.is_plain-together.result
          (over_bus c.args.cpu c.args.bus.now) (over_bus c.run_noted-cpu.result.cpu c.run_noted-cpu.new.bus) c.run_noted-cpu.result.reached c.args.tracer.now c.if-together.tracer
          c.if-together.enough (c.clock.result - c.clock-start.result) w.accesses.result w.starts.result.now run w.if-together.true clocks w.accesses.ensures w.starts.ensures.value
          (w.tracer-is ∙ w.plain_turns-enough.ensures.next) (w.enough-is ∙ w.plain_turns-enough.ensures.enough ∙ ap g.T.Tracer.has_enough (sym w.tracer-is))
      | else-together w ↦ single-ends g.T.Tracer.next g.T.Tracer.has_enough g.T.Tracer.after_plain c.args.tape.now.entries c.args.limit c.is_plain-together.result
          (over_bus c.args.cpu c.args.bus.now) (over_bus c.run_noted-cpu.result.cpu c.run_noted-cpu.new.bus) c.run_noted-cpu.result.reached c.args.tracer.now c.if-together.tracer
          c.if-together.enough c.private_byte-opcode.result (c.clock.result - c.clock-start.result) run w.if-together.false clocks
          (λ k ram program. c.private_byte-opcode.ensures k ram program ∙ ap (λ (m : CpuValue). byte_read m.pc k) (c.behind-cpu.view_is ∙ c.state.ensures.value))
          (λ trace is. w.tracer-is ∙ w.turn-enough.ensures.next trace is
          ∙ ap (λ (m : CpuValue). g.T.Tracer.next c.args.tracer.now trace m.pc) (w.behind-cpu-else-together.view_is ∙ w.state-else-together.ensures.value))
          (w.enough-is ∙ w.turn-enough.ensures.enough ∙ ap g.T.Tracer.has_enough (sym w.tracer-is))
    ]
