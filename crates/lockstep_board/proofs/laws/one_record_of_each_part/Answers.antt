-- The runs keep the order of the records.
use Rattle.lockstep_board.specs.Run.{to_clock, to_cut, clock_steps, cut_steps}
use Rattle.lockstep_board.proofs.InOrder.{stepped-made, to_boundary-made}
use Rattle.lockstep_board.proofs.laws.one_record_of_each_part.Goals as goal

pub returns-clause-clock : goal.returns-clause-clock
unfolding to_clock
returns-clause-clock c = λ entries from cut b m. stepped-made entries from (clock_steps entries cut b) b m

pub returns-clause-boundary : goal.returns-clause-boundary
returns-clause-boundary c = to_boundary-made

pub returns-clause-cut : goal.returns-clause-cut
unfolding to_cut
returns-clause-cut c = λ entries from cut wrap b m. stepped-made entries from (cut_steps entries cut wrap b) b m
