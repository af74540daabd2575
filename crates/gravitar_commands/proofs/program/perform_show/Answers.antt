use Rattle.std.proofs.Common.{refl}
use Rattle.std.proofs.lemmas.Result.{err_from_is_err_and}
use Rattle.outside_io.proofs.EventLaws.{did-sending, did-first-sending}
use Rattle.gravitar_commands.proofs.StageLaws.{done-ends, show-comes, show-stopped, stopped-ends}
use Rattle.gravitar_commands.proofs.program.perform_show.Goals as goal

pub returns-in_err-board-clause-outcome : goal.returns-in_err-board-clause-outcome
returns-in_err-board-clause-outcome g c =
    let p = err_from_is_err_and c.from_residual.result c.from_residual.ensures.1 in
    rw (p.1, p.2) (show-stopped (g.S.Shelf.files c.args.host.now.shelf.now) c.args.name.now _ _ _ (refl, c.load_state.ensures.stores) c.in_err-board.ensures.content)

pub returns-in_err-write_board-clause-outcome : goal.returns-in_err-write_board-clause-outcome
returns-in_err-write_board-clause-outcome g c =
    let p = err_from_is_err_and c.from_residual-in_err-write_board.result c.from_residual-in_err-write_board.ensures.1 in
    rw (p.1, p.2) (show-comes (g.S.Shelf.files c.args.host.now.shelf.now) c.args.name.now c.in_ok-board.board _ c.in_ok-board.ensures.content
    (stopped-ends _ _ _ (did-first-sending _ _ _ _ _ c.in_err-write_board.ensures.taken c.load_state.ensures.stores)))

pub returns-clause-outcome : goal.returns-clause-outcome
returns-clause-outcome g c =
    show-comes (g.S.Shelf.files c.args.host.now.shelf.now) c.args.name.now c.in_ok-board.board _ c.in_ok-board.ensures.content
    (done-ends _ _ _ refl refl (did-sending _ _ _ _ _ c.in_ok-write_board.ensures.taken c.load_state.ensures.stores))
