use Rattle.std.proofs.Common.{◌≡◌, ◌≢◌, refl}
use Rattle.board_base.specs.declared.cpu.Sequence.{Sequence}
use Rattle.board_base.specs.declared.cpu.Sequence.TheVariants.{Opcode, Interrupt, Reset}
use Rattle.catchup_engine.proofs.turn.perform.Goals as goal

-- what is no reset and no interrupt is an instruction
opcode-left : (q : Sequence) → q ≢ Reset → q ≢ Interrupt → q ≡ Opcode
opcode-left Opcode no_reset no_interrupt = refl
opcode-left Interrupt no_reset no_interrupt = absurd (no_interrupt refl)
opcode-left Reset no_reset no_interrupt = absurd (no_reset refl)

pub returns-in-Interrupt-clause-runs : goal.returns-in-Interrupt-clause-runs
returns-in-Interrupt-clause-runs g c = rw c.in-Interrupt.is c.take_irq.ensures.runs

pub returns-in_default-clause-runs : goal.returns-in_default-clause-runs
returns-in_default-clause-runs g c =
    rw (opcode-left c.args.sequence c.requires.no_reset c.in_default.not-Interrupt) c.instruction-fetched.ensures.runs
