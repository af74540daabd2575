use Rattle.std.proofs.Common.{ℕ, arith}
use Rattle.pokey_poly.specs.declared.poly.Poly.TheVariants.{Nine}
use Rattle.pokey_poly.specs.Shift.{IsAhead}
use Rattle.pokey_poly.proofs.LeapLaws.{doubled, longer, nine-start, nine-sums, AreSums}
use Rattle.pokey_poly.proofs.poly.nine_on.Goals as goal

pub returns : goal.returns
returns c =
    let r : ℕ = c.args.r in
    let single : AreSums Nine r 9 4 = nine-sums r c.requires.in_range in
    let double : AreSums Nine r 18 8 = doubled single in
    let start : IsAhead Nine r 9 c.from-ahead.result = rw c.from-ahead.ensures (nine-start r c.requires.in_range) in
    let first : IsAhead Nine r 14 c.lengthened-ahead.result = longer single start c.lengthened-ahead.ensures.low c.lengthened-ahead.ensures.high (omega arith) in
    let second : IsAhead Nine r 19 c.lengthened-ahead-2.result = longer single first c.lengthened-ahead-2.ensures.low c.lengthened-ahead-2.ensures.high (omega arith) in
    let third : IsAhead Nine r 29 c.lengthened-ahead-3.result = longer double second c.lengthened-ahead-3.ensures.low c.lengthened-ahead-3.ensures.high (omega arith) in
    let fourth : IsAhead Nine r 39 c.lengthened-ahead-4.result = longer double third c.lengthened-ahead-4.ensures.low c.lengthened-ahead-4.ensures.high (omega arith) in
    record { ahead = longer (doubled double) fourth c.lengthened.ensures.low c.lengthened.ensures.high (omega arith) }
