use Rattle.asm_core.specs.Cells.{cells_bytes}
use Rattle.board_debug.proofs.ListedLaws.{reads}
use Rattle.board_debug.proofs.laws.an_assembled_instruction_is_shown.Goals as goal

pub returns : goal.returns
returns c = λ names later at op words cells gives known.
    (let (mode, operand, encodes) = c.bytes_of_an_instruction.ensures names later at op words cells gives known in
    (mode, operand, reads at operand (cells_bytes later cells) op mode encodes.these))
