use Rattle.std.proofs.Common.{◌≡◌, ◌+◌, ◌-◌, ◌≤◌}
use Rattle.run_windows.specs.Windows.{clock_in, end_of, price_to}
use Rattle.run_windows.proofs.WatchLaws.{Watched}
use Rattle.run_windows.proofs.synced.SyncedMachine.watch.Given as goal

abbrev pub invariant-windows : goal.invariant-windows
invariant-windows g l = record {
  same : l.self.machine.ghost_name ≡ l.fn.self.machine.ghost_name;
  watched : Watched g.W.RecordObserver.can_take g.W.RecordObserver.writes g.W.RecordObserver.next
      (g.M.Machine.value l.self.machine.now).board.peripherals.clock (end_of l.tape.entries l.fn.until (g.M.Machine.value l.fn.self.machine.now).board)
      (end_of l.tape.entries l.fn.until (g.M.Machine.value l.self.machine.now).board) l.fn.observer l.observer (g.O.Sink.taken l.fn.out) (g.O.Sink.taken l.out)
      (g.O.Sink.faults l.fn.out) (g.O.Sink.faults l.out);
  paid : (g.M.Machine.value l.self.machine.now).calls + price_to l.tape.entries l.fn.until (g.M.Machine.value l.self.machine.now).board
      ≤ (g.M.Machine.value l.fn.self.machine.now).calls + price_to l.tape.entries l.fn.until (g.M.Machine.value l.fn.self.machine.now).board;
  more : (g.M.Machine.value l.fn.self.machine.now).calls ≤ (g.M.Machine.value l.self.machine.now).calls;
  done : (g.M.Machine.value l.self.machine.now).done + (g.M.Machine.value l.fn.self.machine.now).board.peripherals.clock
      ≤ (g.M.Machine.value l.fn.self.machine.now).done + (g.M.Machine.value l.self.machine.now).board.peripherals.clock;
}

abbrev pub decreases-windows : goal.decreases-windows
decreases-windows g l = clock_in l.fn.until - (g.M.Machine.value l.self.machine.now).board.peripherals.clock
