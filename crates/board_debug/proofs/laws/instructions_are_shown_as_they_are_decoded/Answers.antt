use Rattle.board_debug.proofs.ListedLaws.{reads}
use Rattle.board_debug.proofs.laws.instructions_are_shown_as_they_are_decoded.Goals as goal

pub returns : goal.returns
returns c = reads
