use Rattle.std.proofs.Common.{ap, ◌∙◌}
use Rattle.board_base.specs.Cpu.{CpuValue}
use Rattle.outside_io.proofs.GatherLaws.{takes-cut}
use Rattle.outside_io.proofs.TakesLaws.{took_first, takes-then}
use Rattle.run_log.specs.Slices.{cost_line}
use Rattle.run_log.proofs.slices.write_ending.Goals as goal

pub returns-in_err-write_last-clause-taken : goal.returns-in_err-write_last-clause-taken
returns-in_err-write_last-clause-taken g c =
    let cpu = c.cpu.view_is ∙ c.cpu-cpu.ensures in
    takes-cut _ _ _ c.from_residual.result c.from_residual.ensures.0
    (took_first _ _ _ _
    (rw (c.clock.ensures, ap (λ (r : CpuValue). r.pc) cpu, ap (λ (r : CpuValue). r.jam) cpu, c.machine-machine.ensures.value) at c.in_err-write_last.ensures.taken))

pub returns-clause-taken : goal.returns-clause-taken
returns-clause-taken g c =
    let cpu = c.cpu.view_is ∙ c.cpu-cpu.ensures in
    takes-then _ _ _ _ (cost_line c.args.wanted.cost (g.M.Machine.value c.args.synced.now.machine.now).calls) c.write_calls.result
    (rw (c.clock.ensures, ap (λ (r : CpuValue). r.pc) cpu, ap (λ (r : CpuValue). r.jam) cpu, c.machine-machine.ensures.value) at c.in_ok-write_last.ensures.taken)
    (rw (c.calls.ensures, c.machine-machine.ensures.value) at c.write_calls.ensures.taken)
