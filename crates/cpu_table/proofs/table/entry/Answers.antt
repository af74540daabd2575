use Rattle.std.proofs.Common.{arith}
use Rattle.cpu_table.proofs.Rows.{entry_encoded, entry_is_row}
use Rattle.cpu_table.proofs.table.entry.Goals as goal

pub returns-clause-row : goal.returns-clause-row
returns-clause-row c = entry_is_row c.args.opcode _ (omega arith)

pub returns-clause-encoded : goal.returns-clause-encoded
returns-clause-encoded c = entry_encoded c.args.opcode _ (entry_is_row c.args.opcode _ (omega arith))
