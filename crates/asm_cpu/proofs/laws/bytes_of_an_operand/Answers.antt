use Rattle.asm_cpu.proofs.Encodings.{mode-alone}
use Rattle.asm_cpu.proofs.laws.bytes_of_an_operand.Goals as goal

pub returns : goal.returns
returns c = mode-alone
