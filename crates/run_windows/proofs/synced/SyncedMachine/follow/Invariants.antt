use Rattle.std.proofs.Common.{◌≡◌}
use Rattle.run_windows.proofs.FollowLaws.{Followed, clocks_left}
use Rattle.run_windows.proofs.synced.SyncedMachine.follow.Given as goal

abbrev pub invariant-parts : goal.invariant-parts
invariant-parts g l = record {
  same : l.self.machine.ghost_name ≡ l.fn.self.machine.ghost_name;
  followed : Followed g.F.TurnObserver.can_follow g.F.TurnObserver.writes g.F.TurnObserver.after_run
      l.tape.entries l.limit (g.M.Machine.value l.fn.self.machine.now).board (g.M.Machine.value l.self.machine.now).board l.fn.observer l.observer (g.O.Sink.taken l.fn.out) (g.O.Sink.taken l.out)
      (g.O.Sink.faults l.fn.out) (g.O.Sink.faults l.out);
}

abbrev pub decreases-parts : goal.decreases-parts
decreases-parts g l = clocks_left l.limit (g.M.Machine.value l.self.machine.now).board
