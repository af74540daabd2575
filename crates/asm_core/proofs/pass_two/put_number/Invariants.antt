use Rattle.std.proofs.Common.{◌≡◌, ◌+◌, ◌≤◌}
use Rattle.asm_core.specs.Cells.{low_bytes}
use Rattle.asm_core.specs.Images.{with_bytes}
use Rattle.asm_core.proofs.pass_two.put_number.Given as goal

abbrev pub invariant-bytes : goal.invariant-bytes
invariant-bytes l = record {
  bytes : with_bytes l.addr (low_bytes l.left l.rest) l.image ≡ with_bytes l.at (low_bytes l.size l.number) l.fn.image;
  low : l.at ≤ l.addr;
  addr : l.addr + l.left ≡ l.at + l.size;
}

abbrev pub decreases-bytes : goal.decreases-bytes
decreases-bytes l = l.left
