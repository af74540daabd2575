use Rattle.std.proofs.Common.{◌≡◌, ◌-◌}
use Rattle.run_windows.specs.Windows.{clock_in, end_of}
use Rattle.run_stretch.proofs.WatchingLaws.{KeepsUp}
use Rattle.run_stretch.proofs.watching.watch_within.Given as goal

abbrev pub invariant-windows : goal.invariant-windows
invariant-windows g l = record {
  same : l.synced.machine.ghost_name ≡ l.fn.synced.machine.ghost_name;
  kept : KeepsUp g.W.RecordObserver.can_take g.W.RecordObserver.writes g.W.RecordObserver.next l.fn.room (g.M.Machine.value l.synced.machine.now).board.peripherals.clock
      (end_of l.tape.entries l.fn.until (g.M.Machine.value l.fn.synced.machine.now).board)
      (end_of l.tape.entries l.fn.until (g.M.Machine.value l.synced.machine.now).board) l.fn.observer l.observer l.kept;
}

abbrev pub decreases-windows : goal.decreases-windows
decreases-windows g l = clock_in l.fn.until - (g.M.Machine.value l.synced.machine.now).board.peripherals.clock
