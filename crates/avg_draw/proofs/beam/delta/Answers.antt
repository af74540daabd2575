-- The product is exact in 32 bits.
use Rattle.std.proofs.Common.{◌≡◌, pos, ap, ◌∙◌, arith}
use Rattle.std.proofs.lemmas.Int.{ints}
use Rattle.avg_draw.specs.Beam.{delta_of}
use Rattle.avg_draw.proofs.Scales.{delta_fits, delta_low, scale_bound}
use Rattle.avg_draw.proofs.beam.delta.Goals as goal

pub returns-clause-value : goal.returns-clause-value
unfolding delta_of
returns-clause-value c =
    let same : c.from.result ≡ c.args.d = omega (arith, ints) in
    delta_fits c.args.d _ _ _ c.requires.low c.requires.high (scale_bound c.args.lin c.args.bin) same (c.from-2.ensures ∙ ap pos c.scale.ensures.value)

pub returns-clause-low : goal.returns-clause-low
returns-clause-low c =
    let same : c.from.result ≡ c.args.d = omega (arith, ints) in
    rw (delta_fits c.args.d _ _ _ c.requires.low c.requires.high c.scale.ensures.wide same c.from-2.ensures)
    (delta_low c.args.d _ c.requires.low c.requires.high c.scale.ensures.wide)
