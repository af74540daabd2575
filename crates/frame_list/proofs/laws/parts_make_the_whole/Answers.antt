use Rattle.frame_list.proofs.WholeLaws as laws
use Rattle.frame_list.proofs.laws.parts_make_the_whole.Goals as goal

pub returns : goal.returns
returns c = laws.parts_make_the_whole
