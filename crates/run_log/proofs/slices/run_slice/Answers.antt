use Rattle.outside_io.proofs.GatherLaws.{takes-cut}
use Rattle.run_log.proofs.SliceLaws.{run-text, run-trails}
use Rattle.run_log.proofs.slices.run_slice.Goals as goal

pub watch-requires-clause-room : goal.watch-requires-clause-room
watch-requires-clause-room g c =
    run-trails c.args.tape.now.entries c.args.until (g.M.Machine.value c.args.synced.now.machine.now).board c.args.synced.now.is_synced.empty

pub returns-clause-taken : goal.returns-clause-taken
returns-clause-taken g c =
    rw (run-text c.args.tape.now.entries c.args.until (g.M.Machine.value c.args.synced.now.machine.now).board c.args.synced.now.is_synced.empty) at c.in_ok-watch.ensures.taken

pub returns-in_err-watch-clause-taken : goal.returns-in_err-watch-clause-taken
returns-in_err-watch-clause-taken g c =
    takes-cut _ _ _ c.from_residual.result c.from_residual.ensures.0
    (rw (run-text c.args.tape.now.entries c.args.until (g.M.Machine.value c.args.synced.now.machine.now).board c.args.synced.now.is_synced.empty) at c.in_err-watch.ensures.taken)
