use Rattle.asm_core.specs.Cells.{cells_bytes}
use Rattle.asm_cpu.specs.Encodings.{operand_number}
use Rattle.board_debug.proofs.ListedLaws.{reads}
use Rattle.board_debug.proofs.laws.an_assembled_operand_is_shown.Goals as goal

pub returns : goal.returns
returns c = λ names op at mode e value cells gives is.
    reads at (operand_number mode at value) (cells_bytes names cells) op mode (c.bytes_of_an_operand.ensures names op at mode e value cells gives is).these
