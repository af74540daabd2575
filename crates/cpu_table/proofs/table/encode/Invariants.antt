use Rattle.std.proofs.Common.{◌≢◌, ℕ, ◌<◌, Some}
use Rattle.cpu_table.specs.Opcodes.{row_of}
use Rattle.cpu_table.proofs.table.encode.Given as goal

abbrev pub invariant-loop-opcode : goal.invariant-loop-opcode
invariant-loop-opcode l = (o : ℕ) → o < l.opcode → row_of o ≢ Some (l.op, l.mode)
