use Rattle.std.proofs.Common.{refl}
use Rattle.std.proofs.lemmas.Result.{err_from_is_err_and}
use Rattle.lockstep_board.specs.Run.{to_boundary}
use Rattle.run_log.specs.Slices.{last_events, wanted_in}
use Rattle.outside_io.proofs.EventLaws.{did-sending, did-first-sending, did-first-of, did-nothing, did-storing, did-then, did-then-first}
use Rattle.run_log.proofs.SlicesLaws.{at-end, ending-cleared, saved-cleared, cells-cleared}
use Rattle.run_log.proofs.slices.end_slice.Goals as goal

pub returns-in_err-run_slice-clause-stopped : goal.returns-in_err-run_slice-clause-stopped
unfolding last_events
returns-in_err-run_slice-clause-stopped g c =
    rw (err_from_is_err_and c.from_residual.result c.from_residual.ensures.1).1
    (did-first-of _ _ _ _ _ _ (did-first-sending _ _ _ _ _ c.in_err-run_slice.ensures.taken refl))

pub returns-in_err-write_ending-clause-stopped : goal.returns-in_err-write_ending-clause-stopped
unfolding last_events
returns-in_err-write_ending-clause-stopped g c =
    let last = to_boundary c.args.tape.now.entries c.args.limit (g.M.Machine.value c.args.synced.now.machine.now).board in
    let is = at-end _ _ _ _ c.in_ok-run_slice.ensures.board in
    let text = ending-cleared (wanted_in c.args.wanted) (g.M.Machine.value c.run_slice.new.synced.machine.now).calls last _ is in
    rw (err_from_is_err_and c.from_residual-in_err-write_ending.result c.from_residual-in_err-write_ending.ensures.1).1
    (did-then-first _ _ _ _ _ _ _ _ (did-sending _ _ _ _ _ c.in_ok-run_slice.ensures.taken refl)
    (did-first-of _ _ _ _ _ _ (did-first-sending _ _ _ _ _ (rw text at c.in_err-write_ending.ensures.taken) refl)))

pub returns-in_err-store_under-clause-stopped : goal.returns-in_err-store_under-clause-stopped
unfolding last_events
returns-in_err-store_under-clause-stopped g c =
    let last = to_boundary c.args.tape.now.entries c.args.limit (g.M.Machine.value c.args.synced.now.machine.now).board in
    let is = at-end _ _ _ _ c.in_ok-run_slice.ensures.board in
    let text = ending-cleared (wanted_in c.args.wanted) (g.M.Machine.value c.run_slice.new.synced.machine.now).calls last _ is in
    rw (err_from_is_err_and c.from_residual-in_err-store_under.result c.from_residual-in_err-store_under.ensures.1).1
    (did-then-first _ _ _ _ _ _ _ _ (did-sending _ _ _ _ _ c.in_ok-run_slice.ensures.taken refl)
    (did-then-first _ _ _ _ _ _ _ _ (did-sending _ _ _ _ _ (rw text at c.in_ok-write_ending.ensures.taken) refl)
    (did-nothing _ _ _ _ _ refl c.in_err-store_under.ensures.not_stored)))

pub returns-in_err-store_under-2-clause-stopped : goal.returns-in_err-store_under-2-clause-stopped
unfolding last_events
returns-in_err-store_under-2-clause-stopped g c =
    let last = to_boundary c.args.tape.now.entries c.args.limit (g.M.Machine.value c.args.synced.now.machine.now).board in
    let is = at-end _ _ _ _ c.in_ok-run_slice.ensures.board in
    let text = ending-cleared (wanted_in c.args.wanted) (g.M.Machine.value c.run_slice.new.synced.machine.now).calls last _ is in
    let held = saved-cleared last _ _ is c.of.ensures.bytes in
    rw (err_from_is_err_and c.from_residual-in_err-store_under-2.result c.from_residual-in_err-store_under-2.ensures.1).1
    (did-then-first _ _ _ _ _ _ _ _ (did-sending _ _ _ _ _ c.in_ok-run_slice.ensures.taken refl)
    (did-then-first _ _ _ _ _ _ _ _ (did-sending _ _ _ _ _ (rw text at c.in_ok-write_ending.ensures.taken) refl)
    (did-then-first _ _ _ _ _ _ _ _ (did-storing _ _ _ _ _ _ _ held refl c.in_ok-store_under.ensures.stored)
    (did-nothing _ _ _ _ _ refl c.in_err-store_under-2.ensures.not_stored))))

pub returns-clause-done : goal.returns-clause-done
unfolding last_events
returns-clause-done g c =
    let last = to_boundary c.args.tape.now.entries c.args.limit (g.M.Machine.value c.args.synced.now.machine.now).board in
    let is = at-end _ _ _ _ c.in_ok-run_slice.ensures.board in
    let text = ending-cleared (wanted_in c.args.wanted) (g.M.Machine.value c.run_slice.new.synced.machine.now).calls last _ is in
    let held = saved-cleared last _ _ is c.of.ensures.bytes in
    let cells = cells-cleared last _ _ is c.cells_of.ensures in
    did-then _ _ _ _ _ _ _ _ (did-sending _ _ _ _ _ c.in_ok-run_slice.ensures.taken refl)
    (did-then _ _ _ _ _ _ _ _ (did-sending _ _ _ _ _ (rw text at c.in_ok-write_ending.ensures.taken) refl)
    (did-then _ _ _ _ _ _ _ _ (did-storing _ _ _ _ _ _ _ held refl c.in_ok-store_under.ensures.stored)
    (did-storing _ _ _ _ _ _ _ cells refl c.in_ok-store_under-2.ensures.stored)))

pub returns-clause-board : goal.returns-clause-board
returns-clause-board g c = at-end c.args.tape.now.entries c.args.limit (g.M.Machine.value c.args.synced.now.machine.now).board
    (g.M.Machine.value c.run_slice.new.synced.machine.now).board c.in_ok-run_slice.ensures.board
