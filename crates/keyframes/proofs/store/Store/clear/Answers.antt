use Rattle.std.proofs.Common.{◌≤◌, ◌∙◌, [], Some, vec_capacity, arith}
use Rattle.std.proofs.lemmas.List.Elements.{All-pop}
use Rattle.keyframes.specs.declared.frame.Frame.{Frame}
use Rattle.keyframes.specs.declared.pages.TheConstants.{BOARD_PAGES}
use Rattle.keyframes.proofs.ThinLaws.{both-enough, both-give}
use Rattle.keyframes.proofs.store.Store.clear.Goals as goal

pub give-requires-clause-enough : goal.give-requires-clause-enough
give-requires-clause-enough c = both-enough _ _ [] _ (rw c.in-Some.ensures.items at c.loop-frame.invariant.0)

pub give-requires-clause-row : goal.give-requires-clause-row
give-requires-clause-row c =
    (All-pop (λ (frame : Frame). BOARD_PAGES ≤ vec_capacity frame.pages) _ _ (Some c.in-Some.frame) c.in-Some.ensures.items c.loop-frame.invariant.1).1

pub loop-frame-preserved : goal.loop-frame-preserved
loop-frame-preserved c =
    let i = c.loop-frame.invariant in
    let len = c.in-Some.ensures.len in (
      both-give _ _ _ [] _ (rw c.in-Some.ensures.items at i.0) c.give.ensures.held c.give.ensures.holders,
      (All-pop (λ (frame : Frame). BOARD_PAGES ≤ vec_capacity frame.pages) _ _ (Some c.in-Some.frame) c.in-Some.ensures.items i.1).0,
      c.give.ensures.rows,
      c.give.ensures.len ∙ i.3,
      i.4,
      omega (arith, i.5, len, c.give.ensures.count),
      c.in-Some.ensures.capacity ∙ i.6,
      c.give.ensures.room ∙ i.7,
    )
