use Rattle.outside_io.proofs.GatherLaws.{takes-cut}
use Rattle.lockstep_board.specs.Run.{to_boundary}
use Rattle.run_samples.proofs.SampleLaws.{run-room, run-sampled}
use Rattle.run_samples.proofs.samples.run_sampled.Goals as goal

pub watch-requires-clause-room : goal.watch-requires-clause-room
unfolding to_boundary
watch-requires-clause-room g c =
    run-room c.args.tape.now.entries _ c.args.synced.now.is_synced.empty c.args.limit c.args.per _ c.requires.limit c.of-sampler.ensures.clock c.of-sampler.ensures.begins

pub returns-clause-taken : goal.returns-clause-taken
unfolding to_boundary
returns-clause-taken g c =
    rw (run-sampled c.args.tape.now.entries _ c.args.synced.now.is_synced.empty c.args.limit c.args.per _ c.requires.some c.of-sampler.ensures.begins) at c.in_ok-watch.ensures.taken

pub returns-clause-board : goal.returns-clause-board
unfolding to_boundary
returns-clause-board g c = c.in_ok-watch.ensures.board

pub returns-in_err-watch-clause-taken : goal.returns-in_err-watch-clause-taken
unfolding to_boundary
returns-in_err-watch-clause-taken g c =
    takes-cut _ _ _ c.from_residual.result c.from_residual.ensures.0
    (rw (run-sampled c.args.tape.now.entries _ c.args.synced.now.is_synced.empty c.args.limit c.args.per _ c.requires.some c.of-sampler.ensures.begins) at c.in_err-watch.ensures.taken)
