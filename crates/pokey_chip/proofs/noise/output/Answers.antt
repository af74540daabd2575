use Rattle.std.proofs.Common.{◌∙◌}
use Rattle.pokey_chip.proofs.NoiseLaws.{output-held, output-runs}
use Rattle.pokey_chip.proofs.noise.output.Goals as goal

pub returns-then-held : goal.returns-then-held
returns-then-held c = λ r n is some. output-held c.args.held c.args.poly r n c.if-held.true some

pub returns-else-held : goal.returns-else-held
returns-else-held c = λ r n is some. c.output.ensures ∙ output-runs c.args.held c.args.poly r c.args.word c.args.k n c.if-held.false is
