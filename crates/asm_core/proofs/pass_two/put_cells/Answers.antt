use Rattle.std.proofs.Common.{◌+◌, drop, arith}
use Rattle.std.proofs.lemmas.List.{drop_more}
use Rattle.std.proofs.lemmas.List.Sums.{sum_by-cons}
use Rattle.asm_core.specs.declared.cell.Cell.{Cell}
use Rattle.asm_core.proofs.Putting.{bytes}
use Rattle.asm_core.proofs.pass_two.put_cells.Goals as goal

pub cells-preserved : goal.cells-preserved
cells-preserved c = record {
  bytes = grind (arith, bytes);
  low = omega (arith, c.cells.invariant.low);
  addr =
      let size = rw (drop_more c.args.cells.now c.cells.cell-index c.cell-item.result c.cells-test.true, ← c.cell-item.is) at c.cells.invariant.addr in
      omega (arith, size, sum_by-cons (λ (cell : Cell). cell.size) c.cell-item.result (drop (c.cells.cell-index + 1) c.args.cells.now), c.from-addr.ensures);
}
