use Rattle.std.proofs.Common.{◌≡◌, true, sym, ap, ◌∙◌}
use Rattle.bit_words.specs.Bits.{is_bit}
use Rattle.board_base.specs.Pokey.{PokeyValue}
use Rattle.pokey_chip.specs.Tick.{is_held}
use Rattle.pokey_chip.proofs.NoiseLaws.{nine-for}
use Rattle.pokey_chip.proofs.noise.Noise.nine.Goals as goal

pub returns-then-is_set-clause-value : goal.returns-then-is_set-clause-value
returns-then-is_set-clause-value c =
    let held : c.is_held-held.result ≡ is_held c.args.start.now.skctl = c.is_held-held.ensures ∙ ap (λ (q : PokeyValue). is_held q.skctl) c.start.view_is in
    let chosen : is_bit c.args.start.now.audctl 7 ≡ true = sym (c.is_set.ensures ∙ ap (λ (q : PokeyValue). is_bit q.audctl 7) c.start.view_is) ∙ c.if-is_set.true in
    rw held at (c.register.ensures.value c.args.start.now.poly9 c.args.n (λ h. nine-for c.requires.noise c.args.n (rw held at h) chosen c.requires.since) c.requires.some)
