use Rattle.std.proofs.Common.{◌≡◌, ◌-◌, ◌++◌, length}
use Rattle.board_debug.specs.Bytes.{further}
use Rattle.board_debug.specs.Instructions.{readable}
use Rattle.board_debug.specs.Session.{seen_in}
use Rattle.board_debug.proofs.listings.instruction_bytes.Given as goal

abbrev pub invariant-loop-i : goal.invariant-loop-i
invariant-loop-i g l = record {
  items : readable (seen_in (g.M.Machine.value l.fn.machine).board) l.fn.address 3
      ≡ l.bytes.items ++ readable (seen_in (g.M.Machine.value l.fn.machine).board) (further l.fn.address l.i) (3 - l.i);
  len : length l.bytes.items ≡ l.i;
}
