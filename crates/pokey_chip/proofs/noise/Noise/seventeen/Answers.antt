use Rattle.std.proofs.Common.{◌≡◌, false, sym, ap, ◌∙◌}
use Rattle.bit_words.specs.Bits.{is_bit}
use Rattle.board_base.specs.Pokey.{PokeyValue}
use Rattle.pokey_chip.specs.Tick.{is_held}
use Rattle.pokey_chip.proofs.NoiseLaws.{seventeen-for}
use Rattle.pokey_chip.proofs.noise.Noise.seventeen.Goals as goal

pub returns-else-is_set-clause-value : goal.returns-else-is_set-clause-value
returns-else-is_set-clause-value c =
    let held : c.is_held-held.result ≡ is_held c.args.start.now.skctl = c.is_held-held.ensures ∙ ap (λ (q : PokeyValue). is_held q.skctl) c.start.view_is in
    let chosen : is_bit c.args.start.now.audctl 7 ≡ false = sym (c.is_set.ensures ∙ ap (λ (q : PokeyValue). is_bit q.audctl 7) c.start.view_is) ∙ c.if-is_set.false in
    rw held at (c.register.ensures.value c.args.start.now.poly17 c.args.n (λ h. seventeen-for c.requires.noise c.args.n (rw held at h) chosen c.requires.since) c.requires.some)
