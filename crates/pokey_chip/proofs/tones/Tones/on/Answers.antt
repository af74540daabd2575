use Rattle.std.proofs.Common.{arith}
use Rattle.pokey_chip.proofs.ToneLaws.{is_bit-and, is_bit-not, is_bit-or, place-few}
use Rattle.pokey_chip.proofs.tones.Tones.on.Goals as goal

pub returns : goal.returns
returns c = λ ch. grind (arith, is_bit-and, is_bit-not, is_bit-or, place-few ch)
