use Rattle.std.proofs.Common.{arith}
use Rattle.avg_draw.proofs.Scales.{digits_are, digits_few}
use Rattle.avg_draw.proofs.beam.digits.Goals as goal

pub returns-clause-few : goal.returns-clause-few
returns-clause-few c =
    omega (arith, digits_are c.args.n c.ilog2.result (omega arith) c.ilog2.ensures.power_le c.ilog2.ensures.next_power_gt, digits_few c.args.n c.requires)
