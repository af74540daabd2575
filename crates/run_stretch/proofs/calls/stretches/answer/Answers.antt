use Rattle.run_stretch.proofs.calls.stretches.answer.Goals as goal

pub returns-in-Err : goal.returns-in-Err
returns-in-Err c = rw c.in-Err.is (c.report_fault.ensures c.args.board.now)
