use Rattle.std.proofs.Common.{◌≡◌, ap, ◌∙◌}
use Rattle.board_base.specs.Pokey.{PokeyValue}
use Rattle.pokey_poly.specs.declared.poly.Poly.TheVariants.{Four, Five}
use Rattle.pokey_chip.specs.Noise.{long_poly, IsWord}
use Rattle.pokey_chip.specs.Tick.{long_register}
use Rattle.pokey_chip.proofs.NoiseLaws.{word-started}
use Rattle.pokey_chip.proofs.noise.Noise.of.Goals as goal

pub returns-clause-noise : goal.returns-clause-noise
returns-clause-noise c =
    let poly : c.long_poly.result ≡ long_poly c.args.state.now.audctl = c.long_poly.ensures ∙ ap (λ (q : PokeyValue). long_poly q.audctl) c.state.view_is in
    let long : IsWord c.long_poly.result (long_register c.args.state.now) 0 c.ahead-3.result
    = word-started c.long_poly.result (long_register c.args.state.now) c.long_register.result c.ahead-3.result c.long_register.ensures.value c.ahead-3.ensures.ahead c.ahead-3.ensures.start in
    record {
      four = λ _. word-started Four c.args.state.now.poly4 c.from.result c.ahead.result (c.from.ensures ∙ ap (λ (q : PokeyValue). q.poly4) c.state.view_is) c.ahead.ensures.ahead c.ahead.ensures.start;
      five = λ _. word-started Five c.args.state.now.poly5 c.from-2.result c.ahead-2.result (c.from-2.ensures ∙ ap (λ (q : PokeyValue). q.poly5) c.state.view_is)
          c.ahead-2.ensures.ahead c.ahead-2.ensures.start;
      long = λ _. rw poly at long;
    }
