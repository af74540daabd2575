-- One digit more makes the number ten times as great, and adds the digit.
use Rattle.std.proofs.Common.{◌≡◌, true, get_or, arith}
use Rattle.std.specs.Char.{is_ascii_digit}
use Rattle.std.proofs.lemmas.Grind.{common_steps}
use Rattle.plain_text.proofs.Digits.{digits_value-next}
use Rattle.plain_text.proofs.number.read_digits.Goals as goal

pub loop-digit-preserved : goal.loop-digit-preserved
loop-digit-preserved c =
    let digit : is_ascii_digit (get_or c.args.word.now c.loop-digit.digit-index 0) ≡ true = cc in
    record {
      digits = grind (arith, common_steps);
      value = omega (arith, digits_value-next c.args.word.now c.loop-digit.digit-index c.loop-digit-test.true digit, c.loop-digit.invariant.value);
    }
