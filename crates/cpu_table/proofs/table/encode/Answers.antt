use Rattle.std.proofs.Common.{arith}
use Rattle.cpu_table.proofs.Rows.{missed_back, missed_opcode}
use Rattle.cpu_table.proofs.table.encode.Goals as goal

-- opcode 255 was the last one
pub returns-else-has_row-clause-opcode : goal.returns-else-has_row-clause-opcode
returns-else-has_row-clause-opcode c = missed_opcode c.loop-opcode.opcode _ _ (omega arith) c.loop-opcode.invariant c.if-has_row.ensures

pub returns-else-has_row-clause-row : goal.returns-else-has_row-clause-row
returns-else-has_row-clause-row c = missed_back c.loop-opcode.opcode _ _ (omega arith) c.loop-opcode.invariant c.if-has_row.ensures
