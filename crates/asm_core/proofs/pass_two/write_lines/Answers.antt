use Rattle.asm_core.proofs.Covering.{size-some}
use Rattle.asm_core.proofs.pass_two.write_lines.Goals as goal

pub list_line-requires-clause-some : goal.list_line-requires-clause-some
list_line-requires-clause-some c =
    size-some c.placed-item.result.cells (rw (← c.placed-item.is) at (c.requires.lines c.lines.placed-index c.placed-item.result c.lines-test.true)).cells
