use Rattle.cpu_table.proofs.Rows.{has_row_is}
use Rattle.cpu_table.proofs.table.has_row.Goals as goal

pub returns : goal.returns
returns c = has_row_is _ _ _ _ _ c.entry.ensures.row c.eq.ensures
