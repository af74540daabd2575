use Rattle.std.proofs.Common.{◌≡◌, ◌-◌, None}
use Rattle.board_debug.specs.Looks.{look_before}
use Rattle.board_debug.specs.Session.{go_from}
use Rattle.board_debug.proofs.turns.go.Given as goal

abbrev pub invariant-windows : goal.invariant-windows
invariant-windows g l = record {
  loan : l.synced.machine.ghost_name ≡ l.fn.synced.machine.ghost_name;
  open_yet : None ≡ look_before l.end (g.M.Machine.value l.synced.machine.now).board;
  same : go_from l.tape l.stops (g.M.Machine.value l.fn.synced.machine.now).board ≡ go_from l.tape l.stops (g.M.Machine.value l.synced.machine.now).board;
}

abbrev pub decreases-windows : goal.decreases-windows
decreases-windows g l = l.end - (g.M.Machine.value l.synced.machine.now).board.peripherals.clock
