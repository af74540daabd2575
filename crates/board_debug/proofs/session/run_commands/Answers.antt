use Rattle.std.proofs.Common.{◌+◌, get_or, drop, refl, sym, ap, subst, ◌∙◌}
use Rattle.std.proofs.lemmas.Result.{err_from_is_err_and}
use Rattle.debug_script.specs.declared.command.Command.TheVariants.{Break}
use Rattle.debug_script.specs.Breakpoints.{Fit, StopsValue}
use Rattle.board_debug.specs.Session.{session_board, session_text}
use Rattle.board_debug.proofs.ListingLaws.{none-taken, piece-cut, piece-taken, whole-taken}
use Rattle.board_debug.proofs.SessionLaws.{board-last, board-on, fit-now, text-last, text-now, text-on}
use Rattle.board_debug.proofs.session.run_commands.Goals as goal

pub loop-command-init : goal.loop-command-init
loop-command-init g c = record {
  text = none-taken _ _ _ (ap (λ (s : StopsValue). session_text c.args.tape.now s c.args.commands.now (g.M.Machine.value c.args.synced.now.machine.now).board) (sym c.new-stops.ensures));
  board = ap (λ (s : StopsValue). session_board c.args.tape.now s c.args.commands.now (g.M.Machine.value c.args.synced.now.machine.now).board) (sym c.new-stops.ensures);
  faults = refl;
  fit = subst (λ (s : StopsValue). Fit s c.args.commands.now) (sym c.new-stops.ensures) c.requires.fit;
  loan = refl;
}

pub returns-in_err-perform-clause-taken : goal.returns-in_err-perform-clause-taken
returns-in_err-perform-clause-taken g c =
    let command = get_or c.args.commands.now c.loop-command.command-index (Break 0) in
    let p = err_from_is_err_and c.from_residual.result c.from_residual.ensures.1 in
    rw p.1 (piece-cut _ _ _ _ _ _ _
    (text-now c.args.tape.now c.loop-command.stops c.args.commands.now c.loop-command.command-index command (Break 0) (g.M.Machine.value c.loop-command.synced.machine.now).board
    c.loop-command-test.true refl)
    c.in_err-perform.ensures.taken c.loop-command.invariant.text)

pub loop-command-preserved : goal.loop-command-preserved
loop-command-preserved g c =
    let command = get_or c.args.commands.now c.loop-command.command-index (Break 0) in
    record {
      text = piece-taken _ _ _ _ _ _ _
          (text-on c.args.tape.now c.loop-command.stops c.note.new.self c.args.commands.now c.loop-command.command-index command (Break 0) (g.M.Machine.value c.loop-command.synced.machine.now).board
          (g.M.Machine.value c.perform.new.synced.machine.now).board c.loop-command-test.true refl c.note.ensures c.in_ok-perform.ensures.board)
          c.in_ok-perform.ensures.taken c.loop-command.invariant.text;
      board = c.loop-command.invariant.board
          ∙ board-on c.args.tape.now c.loop-command.stops c.note.new.self c.args.commands.now c.loop-command.command-index command (Break 0) (g.M.Machine.value c.loop-command.synced.machine.now).board
          (g.M.Machine.value c.perform.new.synced.machine.now).board c.loop-command-test.true refl c.note.ensures c.in_ok-perform.ensures.board;
      faults = c.in_ok-perform.ensures.cause ∙ c.loop-command.invariant.faults;
      fit = subst (λ (s : StopsValue). Fit s (drop (c.loop-command.command-index + 1) c.args.commands.now)) (sym c.note.ensures)
          (fit-now c.loop-command.stops c.args.commands.now c.loop-command.command-index command (Break 0) c.loop-command-test.true refl c.loop-command.invariant.fit).1;
      loan = c.in_ok-perform.ensures.same ∙ c.loop-command.invariant.loan;
    }

pub returns-clause-taken : goal.returns-clause-taken
returns-clause-taken g c =
    whole-taken _ _ _ _ (text-last c.args.tape.now c.loop-command.stops c.args.commands.now c.loop-command.command-index (g.M.Machine.value c.loop-command.synced.machine.now).board
    c.loop-command-test.false) c.loop-command.invariant.text

pub returns-clause-board : goal.returns-clause-board
returns-clause-board g c =
    sym (c.loop-command.invariant.board ∙ board-last c.args.tape.now c.loop-command.stops c.args.commands.now c.loop-command.command-index
    (g.M.Machine.value c.loop-command.synced.machine.now).board c.loop-command-test.false)
