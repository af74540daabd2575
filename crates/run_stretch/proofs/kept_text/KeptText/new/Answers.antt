use Rattle.std.proofs.Common.{refl}
use Rattle.run_stretch.proofs.KeptLaws.{kept-nothing}
use Rattle.run_stretch.proofs.kept_text.KeptText.new.Goals as goal

pub returns : goal.returns
returns c = kept-nothing c.args.room _ refl c.in_ok-with_capacity.ensures.items refl
