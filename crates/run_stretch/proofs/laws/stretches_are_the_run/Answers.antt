use Rattle.run_stretch.proofs.JoinedLaws.{joined}
use Rattle.run_stretch.proofs.laws.stretches_are_the_run.Goals as goal

pub returns : goal.returns
returns c = joined
