use Rattle.frame_list.proofs.ExtentLaws.{frames_count_strokes}
use Rattle.frame_list.proofs.laws.frames_count_strokes.Goals as goal

pub returns : goal.returns
returns c = frames_count_strokes
