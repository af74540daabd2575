use Rattle.run_samples.proofs.SampleLaws.{eight-levels}
use Rattle.run_samples.proofs.samples.mixer_of.Goals as goal

pub new-requires-clause-levels : goal.new-requires-clause-levels
new-requires-clause-levels c = eight-levels c.args.first c.args.second c.requires.first c.requires.second
