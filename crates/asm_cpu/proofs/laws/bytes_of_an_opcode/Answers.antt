use Rattle.asm_cpu.proofs.Encodings.{bare-alone}
use Rattle.asm_cpu.proofs.laws.bytes_of_an_opcode.Goals as goal

pub returns : goal.returns
returns c = bare-alone
