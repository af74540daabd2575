use Rattle.lockstep_board.specs.Run.{to_clock}
use Rattle.keyframes.proofs.AlongLaws.{part-image, part-on_run, start-same}
use Rattle.keyframes.proofs.seeking.run_on.Goals as goal

pub returns-clause-board : goal.returns-clause-board
unfolding to_clock
returns-clause-board g c = c.in-Ok.ensures.board

pub returns-clause-on_run : goal.returns-clause-on_run
returns-clause-on_run g c = λ b on.
    part-on_run c.args.tape.now.entries (g.M.Machine.value c.args.synced.now.machine.now).board (g.M.Machine.value c.watch.new.self.machine.now).board c.args.clock
    (returns-clause-board g c) b on

pub returns-clause-same : goal.returns-clause-same
returns-clause-same g c = λ kept some.
    start-same kept (g.M.Machine.value c.watch.new.self.machine.now).board (g.M.Machine.value c.args.synced.now.machine.now).board some
    (part-image c.args.tape.now.entries (g.M.Machine.value c.args.synced.now.machine.now).board (g.M.Machine.value c.watch.new.self.machine.now).board c.args.clock (returns-clause-board g c))
