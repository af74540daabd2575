use Rattle.std.proofs.Common.{◌≡◌}
use Rattle.board_debug.specs.Session.{until_from}
use Rattle.board_debug.proofs.Turning.{left}
use Rattle.board_debug.proofs.turns.until.Given as goal

abbrev pub invariant-windows : goal.invariant-windows
invariant-windows g l = record {
  loan : l.synced.machine.ghost_name ≡ l.fn.synced.machine.ghost_name;
  same : until_from l.tape l.clock (g.M.Machine.value l.fn.synced.machine.now).board ≡ until_from l.tape l.clock (g.M.Machine.value l.synced.machine.now).board;
}

abbrev pub decreases-windows : goal.decreases-windows
decreases-windows g l = left l.clock (g.M.Machine.value l.synced.machine.now).board
