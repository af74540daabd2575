use Rattle.std.proofs.Common.{◌≡◌, ◌+◌, ◌≤◌, drop}
use Rattle.asm_core.specs.Cells.{cells_bytes, size_of}
use Rattle.asm_core.specs.Images.{with_bytes}
use Rattle.asm_core.proofs.pass_two.put_cells.Given as goal

abbrev pub invariant-cells : goal.invariant-cells
invariant-cells l = record {
  bytes : with_bytes l.addr (cells_bytes l.names (drop l.cell-index l.cells)) l.image ≡ with_bytes l.at (cells_bytes l.names l.cells) l.fn.image;
  low : l.at ≤ l.addr;
  addr : l.addr + size_of (drop l.cell-index l.cells) ≡ l.at + size_of l.cells;
}
