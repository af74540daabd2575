use Rattle.std.proofs.Common.{◌≡◌, is_some, ap, sym, ◌∙◌}
use Rattle.board_base.specs.Cpu.{CpuValue}
use Rattle.catchup_engine.proofs.RunsOn.{AtBoundary, boundary-starts, boundary-resumes, boundary-turns, some-of, none-is}
use Rattle.catchup_engine.proofs.run.run_until.Given
use Rattle.catchup_engine.proofs.run.run_until.Goals as goal
use Rattle.catchup_engine.proofs.run.run_until.Goals.{then-is_some, else-is_some}

-- a sequence under way is ended first
first : (g : Given.Over) (c : goal.After-run_by_wiring g) → AtBoundary c.args.tape.now.entries c.args.limit c.args.cpu c.args.bus.now c.if-is_some.bus c.if-is_some.cpu
first g c =
    let middle : is_some c.args.cpu.mid ≡ c.is_some.result =
    ap (λ (k : CpuValue). is_some k.mid) (sym (c.behind-cpu.view_is ∙ c.state.ensures.value)) ∙ sym c.is_some.ensures in
    elim c.if-is_some.branch [
      | then-is_some w ↦
          rw (w.cpu-is, w.bus-is)
          (boundary-resumes c.args.tape.now.entries c.args.limit c.args.cpu c.args.bus.now w.step_slow-cpu.new.bus w.step_slow-cpu.result c.requires.ready.between
          (some-of c.args.cpu.mid (middle ∙ w.if-is_some.true)) (rw c.state.ensures.value at c.state.ensures.place) c.requires.ready.range w.step_slow-cpu.ensures.turned)
      | else-is_some w ↦
          rw (w.cpu-is, w.bus-is)
          (boundary-starts c.args.tape.now.entries c.args.limit c.args.cpu c.args.bus.now c.requires.ready.between
          (none-is c.args.cpu.mid (middle ∙ w.if-is_some.false)) c.requires.ready.range)
    ]

pub returns : goal.returns
returns g c = record {
  runs =
      boundary-turns c.args.tape.now.entries c.args.limit c.args.cpu c.args.bus.now c.if-is_some.bus c.run_by_wiring.new.bus c.if-is_some.cpu c.run_by_wiring.result
      (first g c)
      c.run_by_wiring.ensures.runs;
}
