use Rattle.std.proofs.Common.{refl, arith}
use Rattle.run_stretch.proofs.KeptLaws.{kept-longer, kept-too-long}
use Rattle.run_stretch.proofs.kept_text.KeptText.take.Goals as goal

pub returns-then-wanted-self : goal.returns-then-wanted-self
returns-then-wanted-self c = λ room text before.
    let longer = c.if-wanted-self.true in
    kept-too-long room text c.args.more.now c.args.self.now _ before refl c.clear.ensures.items c.in-Some.ensures.1 (omega arith)

pub returns : goal.returns
returns c = λ room text before.
    let fits = c.if-wanted-self.false in
    kept-longer room text c.args.more.now c.args.self.now _ before refl c.in_ok-extend_from_slice.ensures.items c.in-Some.ensures.1 (omega arith)
