use Rattle.std.proofs.Common.{arith, ap, ◌∙◌, Bool, if◌then◌else◌}
use Rattle.bit_words.specs.Bits.{is_bit}
use Rattle.pokey_chip.specs.Channels.{place}
use Rattle.pokey_chip.proofs.ToneLaws.{is_bit-and, is_bit-not, is_bit-or, place-few, two-up}
use Rattle.pokey_chip.proofs.tones.Tones.after.Goals as goal

pub returns-clause-tone : goal.returns-clause-tone
returns-clause-tone c = λ ch. grind (arith, is_bit-and, is_bit-not, is_bit-or, place-few ch)

pub returns-clause-pass : goal.returns-clause-pass
returns-clause-pass c =
    λ k below.
    c.pick.ensures.bits k (omega arith)
    ∙ ap (λ (b : Bool). if b then is_bit c.pick-tone.result k else is_bit c.args.self.pass k) (two-up c.args.due k)

pub returns-clause-underflowed : goal.returns-clause-underflowed
returns-clause-underflowed c = λ ch. is_bit-or c.args.self.underflowed c.args.due (place ch)
