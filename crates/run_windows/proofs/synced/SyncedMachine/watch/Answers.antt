use Rattle.std.proofs.Common.{Ok, ap, ◌∙◌, arith, refl}
use Rattle.outside_io.proofs.GatherLaws.{takes-cut}
use Rattle.lockstep_board.specs.Run.{cause_of}
use Rattle.run_windows.specs.Windows.{clock_in}
use Rattle.run_windows.proofs.WatchLaws.{board-last, cut-window, last-window, room-window, state-last, took-last, watched-start, watched-window, window-done, window-paid, wrap-paid}
use Rattle.run_windows.proofs.synced.SyncedMachine.watch.Goals as goal

pub windows-init : goal.windows-init
windows-init g c = record {
  same = refl;
  watched = watched-start g.W.RecordObserver.can_take g.W.RecordObserver.writes g.W.RecordObserver.next _ _ _ _ _ c.requires.room;
  paid = omega arith;
  more = omega arith;
  done = omega arith;
}

pub window-requires-clause-room : goal.window-requires-clause-room
window-requires-clause-room g c =
    room-window _ _ _ g.met.W.RecordObserver.in_parts c.args.tape.now.entries c.args.until _ (g.M.Machine.value c.windows.self.machine.now).board _ _ _ _ _ _
    c.windows.invariant.watched c.windows.self.is_synced.placed c.windows.self.is_synced.empty

pub returns-in_err-stop-clause-taken : goal.returns-in_err-stop-clause-taken
returns-in_err-stop-clause-taken g c =
    takes-cut _ _ _ c.from_residual.result c.from_residual.ensures.0
    (cut-window _ _ _ g.met.W.RecordObserver.in_parts c.args.tape.now.entries c.args.until _ (g.M.Machine.value c.windows.self.machine.now).board _ _ _ _ _ _
    c.windows.invariant.watched c.windows.self.is_synced.placed c.windows.self.is_synced.empty _ c.in_err-stop.ensures.taken)

pub returns-in_err-stop-clause-calls : goal.returns-in_err-stop-clause-calls
returns-in_err-stop-clause-calls g c =
    let paid = c.windows.invariant.paid in
    let most = window-paid c.args.tape.now.entries c.args.until (g.M.Machine.value c.windows.self.machine.now) (g.M.Machine.value c.window.new.self.machine.now).calls c.windows.self.is_synced
    c.window.ensures.calls in
    omega arith

pub returns-in_err-stop-clause-done : goal.returns-in_err-stop-clause-done
returns-in_err-stop-clause-done g c =
    let so_far = c.windows.invariant.done in
    let more = window-done c.args.tape.now.entries c.args.until (g.M.Machine.value c.windows.self.machine.now).board (g.M.Machine.value c.window.new.self.machine.now).board _ _
    c.window.ensures.board c.window.ensures.done in
    omega (arith, so_far, more)

pub windows-preserved : goal.windows-preserved
windows-preserved g c =
    let far = c.window.ensures.wrap (c.in_ok-stop.was ∙ ap Ok c.in-Window.is) in
    let paid = wrap-paid c.args.tape.now.entries c.args.until (g.M.Machine.value c.windows.self.machine.now) (g.M.Machine.value c.window.new.self.machine.now) c.windows.self.is_synced
    c.window.ensures.board far c.window.ensures.calls in
    let before = c.windows.invariant.paid in
    let first = c.windows.invariant.more in
    let then_ = c.window.ensures.more in
    let counted = c.windows.invariant.done in
    let window_counted = window-done c.args.tape.now.entries c.args.until (g.M.Machine.value c.windows.self.machine.now).board (g.M.Machine.value c.window.new.self.machine.now).board _ _
    c.window.ensures.board c.window.ensures.done in
    record {
      same = c.window.ensures.same ∙ c.windows.invariant.same;
      watched =
          watched-window _ _ _ g.met.W.RecordObserver.in_parts c.args.tape.now.entries c.args.until _ (g.M.Machine.value c.windows.self.machine.now).board _ _ _ _ _ _
          c.windows.invariant.watched c.windows.self.is_synced.placed c.windows.self.is_synced.empty (g.M.Machine.value c.window.new.self.machine.now).board _ _ _
          c.window.ensures.board c.in_ok-stop.ensures.next c.in_ok-stop.ensures.taken c.in_ok-stop.ensures.cause;
      paid = omega arith;
      more = omega arith;
      done = omega (arith, counted, window_counted);
    }

pub returns-in_default : goal.returns-in_default
returns-in_default g c =
    let paid = c.windows.invariant.paid in
    let calls = window-paid c.args.tape.now.entries c.args.until (g.M.Machine.value c.windows.self.machine.now) (g.M.Machine.value c.window.new.self.machine.now).calls c.windows.self.is_synced
    c.window.ensures.calls in
    let first = c.windows.invariant.more in
    let then_ = c.window.ensures.more in
    let counted = c.windows.invariant.done in
    let window_counted = window-done c.args.tape.now.entries c.args.until (g.M.Machine.value c.windows.self.machine.now).board (g.M.Machine.value c.window.new.self.machine.now).board _ _
    c.window.ensures.board c.window.ensures.done in
    let last = last-window c.args.tape.now.entries c.args.until (g.M.Machine.value c.windows.self.machine.now).board (g.M.Machine.value c.window.new.self.machine.now).board
    c.windows.self.is_synced.placed c.window.ensures.board c.window.ensures.ends
    (λ w. c.in_default.not-Window (◌∙◌ {b = cause_of (clock_in c.args.until) (g.M.Machine.value c.window.new.self.machine.now).board} c.in_ok-stop.ensures.stop w)) in
    record {
      same = c.window.ensures.same ∙ c.windows.invariant.same;
      taken = took-last _ _ _ _ _ _ _ _ _ _ _ _ _ c.windows.invariant.watched last _ c.in_ok-stop.ensures.taken;
      cause = c.in_ok-stop.ensures.cause ∙ c.windows.invariant.watched.sound;
      next = state-last _ _ _ _ _ _ _ _ _ _ _ _ _ c.windows.invariant.watched last _ c.in_ok-stop.ensures.next;
      board = board-last _ _ _ _ _ _ _ _ _ _ _ _ _ c.windows.invariant.watched last _ c.window.ensures.board;
      stop = c.in_ok-stop.ensures.stop;
      calls = omega arith;
      more = omega arith;
      done = omega (arith, counted, window_counted);
    }
