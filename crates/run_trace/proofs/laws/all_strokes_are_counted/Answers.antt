use Rattle.run_trace.proofs.StrokeLaws.{all_told}
use Rattle.run_trace.proofs.laws.all_strokes_are_counted.Goals as goal

pub returns : goal.returns
returns c = all_told
