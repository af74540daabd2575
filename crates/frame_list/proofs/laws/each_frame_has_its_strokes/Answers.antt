use Rattle.frame_list.proofs.InFrameLaws.{each_frame_has_its_strokes}
use Rattle.frame_list.proofs.laws.each_frame_has_its_strokes.Goals as goal

pub returns : goal.returns
returns c = each_frame_has_its_strokes
