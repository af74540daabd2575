use Rattle.std.proofs.Common.{ℕ, arith}
use Rattle.pokey_poly.specs.declared.poly.Poly.TheVariants.{Seventeen}
use Rattle.pokey_poly.specs.Shift.{IsAhead}
use Rattle.pokey_poly.proofs.LeapLaws.{doubled, longer, seventeen-start, seventeen-sums, AreSums}
use Rattle.pokey_poly.proofs.poly.seventeen_on.Goals as goal

pub returns : goal.returns
returns c =
    let r : ℕ = c.args.r in
    let single : AreSums Seventeen r 17 5 = seventeen-sums r c.requires.in_range in
    let start : IsAhead Seventeen r 17 c.from-ahead.result = rw c.from-ahead.ensures (seventeen-start r c.requires.in_range) in
    let first : IsAhead Seventeen r 29 c.lengthened-ahead.result = longer single start c.lengthened-ahead.ensures.low c.lengthened-ahead.ensures.high (omega arith) in
    let second : IsAhead Seventeen r 41 c.lengthened-ahead-2.result = longer single first c.lengthened-ahead-2.ensures.low c.lengthened-ahead-2.ensures.high (omega arith) in
    record { ahead = longer (doubled single) second c.lengthened.ensures.low c.lengthened.ensures.high (omega arith) }
