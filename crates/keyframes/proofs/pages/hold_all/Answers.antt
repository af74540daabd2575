use Rattle.std.proofs.Common.{◌≡◌, ◌+◌, ◌∙◌, List, ℕ, sym, subst, option_map, Option, arith}
use Rattle.page_pool.specs.Pool.{live_of}
use Rattle.keyframes.specs.declared.frame.Frame.{Frame}
use Rattle.keyframes.specs.Holders.{IsHeldPage, page_at, taken_for}
use Rattle.keyframes.proofs.FillLaws.{Filling, before-live, filling-one, filling-live}
use Rattle.keyframes.proofs.pages.hold_all.Goals as goal

pub loop-k-preserved : goal.loop-k-preserved
loop-k-preserved c =
    let pool = c.loop-k.pool in
    let k = c.loop-k.k in
    let frame : Option Frame = option_map (λ frame. frame.now) c.args.before in
    let page = c.hold.ensures.bytes in
    let found = c.page_before-page_before.ensures in
    let is = subst (λ (before : Option ℕ). IsHeldPage pool before c.page.result.now c.hold.result) found c.hold.ensures.page in
    let live = subst (λ (before : Option ℕ). live_of c.hold.new.pool ≡ live_of pool + taken_for pool before c.page.result.now) found c.hold.ensures.live in (
      subst (λ (row : List ℕ). Filling c.args.pool.now frame c.args.state.now c.hold.new.pool row (k + 1)) (sym c.push_reserved.ensures.items)
          (filling-one c.args.pool.now frame c.args.state.now pool c.hold.new.pool c.loop-k.row.items k c.hold.result c.requires.held
          (before-live c.args.pool.now c.args.before k c.requires.before c.requires.live c.loop-k-test.true) c.loop-k.invariant.0
          c.hold.ensures.held c.hold.ensures.len c.hold.ensures.holders (page.0, page.1 ∙ c.page.ensures) c.hold.ensures.kept
          (subst (λ (bytes : List ℕ). IsHeldPage pool (page_at frame k) bytes c.hold.result) c.page.ensures is)
          (subst (λ (bytes : List ℕ). live_of c.hold.new.pool ≡ live_of pool + taken_for pool (page_at frame k) bytes) c.page.ensures live)),
      c.push_reserved.ensures.capacity ∙ c.loop-k.invariant.1,
    )

pub returns-clause-live : goal.returns-clause-live
returns-clause-live c =
    filling-live c.args.pool.now (option_map (λ frame. frame.now) c.args.before) c.args.state.now c.loop-k.pool c.loop-k.row.items c.loop-k.k 16 c.loop-k.invariant.0
    (omega (arith, c.loop-k.auto.k-end, c.loop-k-test.false))
