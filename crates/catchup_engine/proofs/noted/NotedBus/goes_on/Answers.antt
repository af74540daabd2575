use Rattle.std.proofs.Common.{◌≡◌, IfSome, ◌∙◌, subst}
use Rattle.board_base.specs.Cpu.{CpuValue}
use Rattle.lockstep_board.specs.Peripherals.{byte_read}
use Rattle.catchup_engine.proofs.noted.NotedBus.goes_on.Goals as goal

pub returns-then-has_no_starts-clause-plain : goal.returns-then-has_no_starts-clause-plain
returns-then-has_no_starts-clause-plain g c = λ is w ram program.
    c.is_plain.ensures is (byte_read c.args.cpu.now.pc w)
    (subst (λ (k : CpuValue). IfSome c.opcode_at.result (λ opcode. opcode ≡ byte_read k.pc w)) (c.behind-cpu.view_is ∙ c.state.ensures.value) (c.opcode_at.ensures w ram program))
