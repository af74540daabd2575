use Rattle.std.proofs.Common.{◌≡◌, ◌<◌, ap, ◌∙◌, arith}
use Rattle.board_base.specs.Pokey.{PokeyValue}
use Rattle.pokey_chip.specs.Tick.{is_held}
use Rattle.pokey_chip.proofs.NoiseLaws.{five-for}
use Rattle.pokey_chip.proofs.noise.Noise.five.Goals as goal

pub returns : goal.returns
returns c =
    let held : c.is_held.result ≡ is_held c.args.start.now.skctl = c.is_held.ensures ∙ ap (λ (q : PokeyValue). is_held q.skctl) c.start.view_is in
    let small : c.args.start.now.poly5 < 32 = omega (arith, ap (λ (q : PokeyValue). q.poly5) c.start.view_is, c.start.invariant.poly5) in
    rw held at (c.output.ensures c.args.start.now.poly5 c.args.at (λ h. five-for c.requires.noise c.args.at (rw held at h) small) c.requires.some)
