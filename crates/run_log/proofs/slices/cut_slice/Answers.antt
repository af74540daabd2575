use Rattle.std.proofs.Common.{refl, ap, ◌∙◌}
use Rattle.std.proofs.lemmas.Result.{err_from_is_err_and}
use Rattle.catchup_engine.specs.EngineValue.{EngineValue}
use Rattle.lockstep_board.specs.Run.{to_clock}
use Rattle.run_log.specs.Slices.{cut_events}
use Rattle.outside_io.proofs.EventLaws.{did-sending, did-first-sending, did-first-of, did-nothing, did-storing, did-then, did-then-first}
use Rattle.run_log.proofs.SlicesLaws.{at-cut, saved-cleared}
use Rattle.run_log.proofs.slices.cut_slice.Goals as goal

pub returns-in_err-run_slice-clause-stopped : goal.returns-in_err-run_slice-clause-stopped
unfolding cut_events
returns-in_err-run_slice-clause-stopped g c =
    rw (err_from_is_err_and c.from_residual.result c.from_residual.ensures.1).1
    (did-first-of _ _ _ _ _ _ (did-first-sending _ _ _ _ _ c.in_err-run_slice.ensures.taken refl))

pub returns-in_err-store_under-clause-stopped : goal.returns-in_err-store_under-clause-stopped
unfolding cut_events
returns-in_err-store_under-clause-stopped g c =
    rw (err_from_is_err_and c.from_residual-in_err-store_under.result c.from_residual-in_err-store_under.ensures.1).1
    (did-then-first _ _ _ _ _ _ _ _ (did-sending _ _ _ _ _ c.in_ok-run_slice.ensures.taken refl)
    (did-nothing _ _ _ _ _ refl c.in_err-store_under.ensures.not_stored))

pub returns-clause-done : goal.returns-clause-done
unfolding cut_events
returns-clause-done g c =
    let is = at-cut _ _ _ _ c.in_ok-run_slice.ensures.board in
    let held = saved-cleared (to_clock c.args.tape.now.entries c.args.cut (g.M.Machine.value c.args.synced.now.machine.now).board) _ _ is c.save.ensures.bytes in
    did-then _ _ _ _ _ _ _ _ (did-sending _ _ _ _ _ c.in_ok-run_slice.ensures.taken refl)
    (did-storing _ _ _ _ _ _ _ held refl c.in_ok-store_under.ensures.stored)

pub returns-clause-board : goal.returns-clause-board
returns-clause-board g c =
    at-cut c.args.tape.now.entries c.args.cut (g.M.Machine.value c.args.synced.now.machine.now).board (g.M.Machine.value c.load_saved.new.synced.machine.now).board
    (ap (λ (e : EngineValue). e.board) c.load_saved.ensures.value ∙ c.in_ok-run_slice.ensures.board)
