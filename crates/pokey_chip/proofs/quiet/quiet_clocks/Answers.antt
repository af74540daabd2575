use Rattle.std.proofs.Common.{◌≡◌, ◌≢◌, ◌<◌, ap, ◌∙◌, Some}
use Rattle.board_base.specs.Pokey.{PokeyValue}
use Rattle.pokey_chip.proofs.RequestLaws.{quiet-now, requests-within}
use Rattle.pokey_chip.proofs.quiet.quiet_clocks.Goals as goal

-- a request that stands is there at each lag
pub returns-then-state-ne7-clause-lagging : goal.returns-then-state-ne7-clause-lagging
returns-then-state-ne7-clause-lagging c =
    let same : c.state.inside.irqst ≡ c.args.state.now.irqst = ap (λ (p : PokeyValue). p.irqst) c.state.view_is in
    let small : c.args.state.now.irqst < 8 = rw same at c.state.invariant.irqst in
    let stands : c.args.state.now.irqst ≢ 7 = λ e. c.if-state-ne7.true (same ∙ e) in
    requests-within c.args.state.now small (Some 0) (quiet-now c.args.state.now stands)
