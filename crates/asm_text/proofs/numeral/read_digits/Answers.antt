-- A number that is too great stays so.
use Rattle.std.proofs.Common.{◌≡◌, ℕ, ◌+◌, ◌<◌, Bool, leb, ◌&&◌, cond, Some, None, arith}
use Rattle.std.specs.Str.Parse.{digits_value}
use Rattle.std.proofs.lemmas.Bool.Decides.{nat_tests}
use Rattle.std.proofs.lemmas.Int.Digits.{digits_value_more}
use Rattle.std.proofs.lemmas.Str.Parse.{digits_value-take-le}
use Rattle.asm_text.proofs.numeral.read_digits.Goals as goal

none_above : (valid : Bool) (value : ℕ) → 65535 < value → None ≡ cond (valid && leb value 65535) (Some value) None
none_above valid value high = grind (arith, nat_tests)

pub returns-then-value-gt65535 : goal.returns-then-value-gt65535
returns-then-value-gt65535 c =
    let next = digits_value_more c.args.base c.args.digits.now c.loop-byte.byte-index c.loop-byte-test.true in
    let whole = digits_value-take-le c.args.base c.args.digits.now (c.loop-byte.byte-index + 1) (omega arith) in
    none_above _ (digits_value c.args.base c.args.digits.now) (omega (arith, rw (next, ← c.loop-byte.invariant.value, ← c.in_ok-value.ensures.value.1) at whole))
