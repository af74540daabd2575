use Rattle.std.proofs.Common.{◌∙◌}
use Rattle.pokey_chip.proofs.NoiseLaws.{register-held, register-runs}
use Rattle.pokey_chip.proofs.noise.register.Goals as goal

pub returns-then-held-clause-value : goal.returns-then-held-clause-value
returns-then-held-clause-value c = λ r n is some. c.all_ones.ensures ∙ register-held c.args.held c.args.poly r n c.if-held.true some

pub returns-else-held-clause-value : goal.returns-else-held-clause-value
returns-else-held-clause-value c =
    λ r n is some. c.window.ensures.value ∙ register-runs c.args.held c.args.poly r c.args.word c.args.k n c.if-held.false is
