use Rattle.std.proofs.Common.{◌≡◌, ◌<◌, ap, ◌∙◌, arith}
use Rattle.board_base.specs.Pokey.{PokeyValue}
use Rattle.pokey_chip.specs.Noise.{long_poly}
use Rattle.pokey_chip.specs.Tick.{is_held, long_register}
use Rattle.pokey_chip.proofs.NoiseLaws.{four-for, long-for}
use Rattle.pokey_chip.proofs.noise.Noise.outputs.Goals as goal

pub returns-clause-four : goal.returns-clause-four
returns-clause-four c =
    let held : c.is_held-held.result ≡ is_held c.args.start.now.skctl = c.is_held-held.ensures ∙ ap (λ (q : PokeyValue). is_held q.skctl) c.start.view_is in
    let small : c.args.start.now.poly4 < 16 = omega (arith, ap (λ (q : PokeyValue). q.poly4) c.start.view_is, c.start.invariant.poly4) in
    rw held at (c.output.ensures c.args.start.now.poly4 c.args.at (λ h. four-for c.requires.noise c.args.at (rw held at h) small) c.requires.some)

pub returns-clause-long : goal.returns-clause-long
returns-clause-long c =
    let held : c.is_held-held.result ≡ is_held c.args.start.now.skctl = c.is_held-held.ensures ∙ ap (λ (q : PokeyValue). is_held q.skctl) c.start.view_is in
    let poly : c.long_poly.result ≡ long_poly c.args.start.now.audctl = c.long_poly.ensures ∙ ap (λ (q : PokeyValue). long_poly q.audctl) c.start.view_is in
    rw (held, poly) at (c.output-2.ensures (long_register c.args.start.now) c.args.at (λ h. rw poly (long-for c.requires.noise c.args.at (rw held at h) c.requires.since)) c.requires.some)
