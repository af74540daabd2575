use Rattle.lockstep_board.proofs.TurnLaws.{turn-later}
use Rattle.run_windows.proofs.synced.SyncedMachine.turn.Goals as goal

pub returns-clause-later : goal.returns-clause-later
returns-clause-later g c = λ running.
    rw (c.forget_records.ensures.value, c.settle.ensures.settles.value, c.step-stop.ensures.runs.board)
    (turn-later c.args.tape.now.entries (g.M.Machine.value c.args.self.now.machine.now).board running)
