use Rattle.asm_core.specs.Cells.{cells_bytes}
use Rattle.board_debug.proofs.ListedLaws.{reads}
use Rattle.board_debug.proofs.laws.an_assembled_opcode_is_shown.Goals as goal

pub returns : goal.returns
returns c = λ names at op mode cells one gives. reads at 0 (cells_bytes names cells) op mode (c.bytes_of_an_opcode.ensures names op mode cells one gives).these
