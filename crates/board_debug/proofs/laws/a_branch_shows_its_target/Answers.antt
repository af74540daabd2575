use Rattle.std.proofs.Common.{pos}
use Rattle.asm_cpu.specs.Encodings.{operand_number}
use Rattle.cpu_table.specs.declared.instruction.Mode.TheVariants.{Relative}
use Rattle.board_debug.proofs.ListedLaws.{target-back}
use Rattle.board_debug.proofs.laws.a_branch_shows_its_target.Goals as goal

pub returns : goal.returns
returns c = λ at target small taken.
    target-back at (operand_number Relative at (pos target)) target small (c.branch_to_its_target.ensures at (pos target) taken)
