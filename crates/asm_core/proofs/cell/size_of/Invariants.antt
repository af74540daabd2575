use Rattle.std.proofs.Common.{◌≡◌, ◌*◌, ◌≤◌, take}
use Rattle.asm_core.specs.Cells.{size_of}
use Rattle.asm_core.proofs.cell.size_of.Given as goal

abbrev pub invariant-loop-cell : goal.invariant-loop-cell
invariant-loop-cell l = record {
  size : l.size ≡ size_of (take l.cell-index l.cells);
  small : l.size ≤ 255 * l.cell-index;
}
