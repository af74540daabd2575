use Rattle.std.proofs.Common.{◌≡◌, ◌<◌, ap, ◌∙◌, arith}
use Rattle.board_base.specs.Pokey.{PokeyValue}
use Rattle.pokey_chip.specs.Tick.{is_held}
use Rattle.pokey_chip.proofs.NoiseLaws.{five-for, four-for}
use Rattle.pokey_chip.proofs.noise.Noise.short.Goals as goal

pub returns-clause-four : goal.returns-clause-four
returns-clause-four c =
    let held : c.is_held-held.result ≡ is_held c.args.start.now.skctl = c.is_held-held.ensures ∙ ap (λ (q : PokeyValue). is_held q.skctl) c.start.view_is in
    let small : c.args.start.now.poly4 < 16 = omega (arith, ap (λ (q : PokeyValue). q.poly4) c.start.view_is, c.start.invariant.poly4) in
    rw held at (c.register-four.ensures.value c.args.start.now.poly4 c.args.n (λ h. four-for c.requires.noise c.args.n (rw held at h) small) c.requires.some)

pub returns-clause-five : goal.returns-clause-five
returns-clause-five c =
    let held : c.is_held-held.result ≡ is_held c.args.start.now.skctl = c.is_held-held.ensures ∙ ap (λ (q : PokeyValue). is_held q.skctl) c.start.view_is in
    let small : c.args.start.now.poly5 < 32 = omega (arith, ap (λ (q : PokeyValue). q.poly5) c.start.view_is, c.start.invariant.poly5) in
    rw held at (c.register-five.ensures.value c.args.start.now.poly5 c.args.n (λ h. five-for c.requires.noise c.args.n (rw held at h) small) c.requires.some)
