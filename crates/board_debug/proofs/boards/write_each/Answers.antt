use Rattle.std.proofs.Common.{refl, ap, ◌∙◌, get_or}
use Rattle.std.proofs.lemmas.Result.{err_from_is_err_and}
use Rattle.lockstep_board.specs.Peripherals.{board_of}
use Rattle.catchup_engine.specs.EngineValue.{EngineValue}
use Rattle.keyframes.specs.Seeking.{run_start}
use Rattle.board_debug.proofs.BoardsLaws.{board-last, board-on}
use Rattle.board_debug.proofs.OneRunLaws.{reached-free}
use Rattle.board_debug.proofs.ListingLaws.{none-taken, piece-cut, piece-taken, whole-taken}
use Rattle.board_debug.proofs.boards.write_each.Goals as goal

pub loop-clock-init : goal.loop-clock-init
loop-clock-init g c = record {
  text = none-taken _ _ _ refl;
  faults = refl;
  loan = c.keep_each.ensures.loan;
  same = c.keep_each.ensures.same;
  along = c.keep_each.ensures.along;
  reached = c.keep_each.ensures.reached;
  done = c.keep_each.ensures.done;
}

pub returns-in_err-write_board-clause-taken : goal.returns-in_err-write_board-clause-taken
returns-in_err-write_board-clause-taken g c =
    let p = err_from_is_err_and c.from_residual.result c.from_residual.ensures.1 in
    rw p.1 (piece-cut _ _ _ _ _ _ _
    (board-on c.args.tape.now.entries c.args.clocks.now c.loop-clock.clock-index 0 (run_start c.args.keys.now.kept (g.M.Machine.value c.args.synced.now.machine.now).board)
    (run_start c.keep_each.new.keys.kept (g.M.Machine.value c.loop-clock.synced.machine.now).board)
    (g.M.Machine.value c.go_to.new.synced.machine.now).board c.state.new.into c.loop-clock-test.true c.go_to.ensures.board
    c.loop-clock.invariant.same
    (c.state.ensures.board ∙ ap (λ (e : EngineValue). board_of e.board.cpu e.board.peripherals) c.machine.ensures.value))
    c.in_err-write_board.ensures.taken c.loop-clock.invariant.text)

pub loop-clock-preserved : goal.loop-clock-preserved
loop-clock-preserved g c = record {
  text = piece-taken _ _ _ _ _ _ _
      (board-on c.args.tape.now.entries c.args.clocks.now c.loop-clock.clock-index 0 (run_start c.args.keys.now.kept (g.M.Machine.value c.args.synced.now.machine.now).board)
      (run_start c.keep_each.new.keys.kept (g.M.Machine.value c.loop-clock.synced.machine.now).board)
      (g.M.Machine.value c.go_to.new.synced.machine.now).board c.state.new.into c.loop-clock-test.true c.go_to.ensures.board
      c.loop-clock.invariant.same
      (c.state.ensures.board ∙ ap (λ (e : EngineValue). board_of e.board.cpu e.board.peripherals) c.machine.ensures.value))
      c.in_ok-write_board.ensures.taken c.loop-clock.invariant.text;
  faults = c.in_ok-write_board.ensures.cause ∙ c.loop-clock.invariant.faults;
  loan = c.go_to.ensures.loan ∙ c.loop-clock.invariant.loan;
  same = c.go_to.ensures.same ∙ c.loop-clock.invariant.same;
  along = c.go_to.ensures.along;
  reached = c.loop-clock.invariant.reached;
  done = λ room most all.
      reached-free c.args.tape.now.entries _ _ (g.M.Machine.value c.go_to.new.synced.machine.now).board c.keep_each.new.keys.kept (get_or c.args.clocks.now c.loop-clock.clock-index 0)
      (g.M.Machine.value c.loop-clock.synced.machine.now).done (g.M.Machine.value c.go_to.new.synced.machine.now).done _ c.loop-clock.invariant.same c.go_to.ensures.board
      (c.loop-clock.invariant.reached room c.loop-clock.clock-index 0 c.loop-clock-test.true) c.go_to.ensures.done c.go_to.ensures.before (c.loop-clock.invariant.done room most all);
}

pub returns-clause-taken : goal.returns-clause-taken
returns-clause-taken g c =
    whole-taken _ _ _ _ (board-last c.args.tape.now.entries c.args.clocks.now c.loop-clock.clock-index (run_start c.args.keys.now.kept (g.M.Machine.value c.args.synced.now.machine.now).board)
    c.loop-clock-test.false) c.loop-clock.invariant.text

pub returns-in_err-write_board-clause-done : goal.returns-in_err-write_board-clause-done
returns-in_err-write_board-clause-done g c = λ room most all.
    reached-free c.args.tape.now.entries _ _ (g.M.Machine.value c.go_to.new.synced.machine.now).board c.keep_each.new.keys.kept (get_or c.args.clocks.now c.loop-clock.clock-index 0)
    (g.M.Machine.value c.loop-clock.synced.machine.now).done (g.M.Machine.value c.go_to.new.synced.machine.now).done _ c.loop-clock.invariant.same c.go_to.ensures.board
    (c.loop-clock.invariant.reached room c.loop-clock.clock-index 0 c.loop-clock-test.true) c.go_to.ensures.done c.go_to.ensures.before (c.loop-clock.invariant.done room most all)

pub returns-clause-done : goal.returns-clause-done
returns-clause-done g c = c.loop-clock.invariant.done
