use Rattle.std.proofs.Common.{◌≡◌, length}
use Rattle.board_debug.specs.Bytes.{bytes_from}
use Rattle.board_debug.specs.Session.{seen_in}
use Rattle.board_debug.proofs.listings.row.Given as goal

abbrev pub invariant-loop-i : goal.invariant-loop-i
invariant-loop-i g l = record {
  items : l.bytes.items ≡ bytes_from (seen_in (g.M.Machine.value l.fn.machine).board) l.fn.address l.i;
  len : length l.bytes.items ≡ l.i;
}
