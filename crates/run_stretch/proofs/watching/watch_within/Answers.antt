use Rattle.std.proofs.Common.{Some, ap, ◌∙◌, refl}
use Rattle.lockstep_board.specs.Run.{cause_of}
use Rattle.run_windows.specs.Windows.{clock_in}
use Rattle.run_windows.proofs.WatchLaws.{board-last, last-window}
use Rattle.run_stretch.proofs.WatchingLaws.{keeps-last, keeps-room, keeps-start, keeps-window, ok-holds}
use Rattle.run_stretch.proofs.watching.watch_within.Goals as goal

pub windows-init : goal.windows-init
windows-init g c = record {
  same = refl;
  kept = keeps-start g.W.RecordObserver.can_take g.W.RecordObserver.writes g.W.RecordObserver.next c.args.room _ _ _ _ c.requires.room c.in_ok-kept.ensures;
}

pub window-requires-clause-room : goal.window-requires-clause-room
window-requires-clause-room g c =
    keeps-room _ _ _ g.met.W.RecordObserver.in_parts c.args.tape.now.entries c.args.until _ _ (g.M.Machine.value c.windows.synced.machine.now).board _ _ _
    c.windows.invariant.kept c.windows.synced.is_synced.placed c.windows.synced.is_synced.empty

pub windows-preserved : goal.windows-preserved
windows-preserved g c = record {
  same = c.window.ensures.same ∙ c.windows.invariant.same;
  kept =
      keeps-window _ _ _ g.met.W.RecordObserver.in_parts c.args.tape.now.entries c.args.until _ _ (g.M.Machine.value c.windows.synced.machine.now).board _ _ _
      c.windows.invariant.kept c.windows.synced.is_synced.placed c.windows.synced.is_synced.empty (g.M.Machine.value c.window.new.self.machine.now).board _ _ _ _
      c.window.ensures.board c.in-Ok.ensures.next c.clear.ensures (ap Some c.bytes.ensures ∙ c.in-Ok.ensures.taken)
      (λ room text before. ok-holds _ _ _ c.in_ok-take.was (c.take.ensures room text before));
}

pub returns-in_default-stop : goal.returns-in_default-stop
returns-in_default-stop g c =
    let last = last-window c.args.tape.now.entries c.args.until (g.M.Machine.value c.windows.synced.machine.now).board (g.M.Machine.value c.window.new.self.machine.now).board
    c.windows.synced.is_synced.placed c.window.ensures.board c.window.ensures.ends
    (λ w. c.in_default-stop.not-Window (◌∙◌ {b = cause_of (clock_in c.args.until) (g.M.Machine.value c.window.new.self.machine.now).board} c.in-Ok.ensures.stop w)) in
    record {
      same = c.window.ensures.same ∙ c.windows.invariant.same;
      kept =
          keeps-last _ _ _ c.args.room _ _ _ _ _ _ _ _ _ _ c.windows.invariant.kept last c.clear.ensures
          (ap Some c.bytes.ensures ∙ c.in-Ok.ensures.taken) (λ room text before. ok-holds _ _ _ c.in_ok-take.was (c.take.ensures room text before));
      board = board-last _ _ _ _ _ _ _ _ _ _ _ _ _ c.windows.invariant.kept.watched last _ c.window.ensures.board;
    }
