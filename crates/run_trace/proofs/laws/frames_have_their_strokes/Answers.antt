use Rattle.run_trace.proofs.StrokeLaws.{frames_of_a_run}
use Rattle.run_trace.proofs.laws.frames_have_their_strokes.Goals as goal

pub returns : goal.returns
returns c = frames_of_a_run
