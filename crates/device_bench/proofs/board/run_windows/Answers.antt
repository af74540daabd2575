use Rattle.lockstep_board.specs.Run.{to_boundary}
use Rattle.device_bench.proofs.board.run_windows.Goals as goal

pub returns-clause-board : goal.returns-clause-board
unfolding to_boundary
returns-clause-board g c = c.in-Ok.ensures.board

pub returns-clause-tally : goal.returns-clause-tally
unfolding to_boundary
returns-clause-tally g c = rw c.new-tally.ensures at c.in-Ok.ensures.next
