use Rattle.std.proofs.Common.{◌≡◌, ◌≤◌, ◌∙◌, ◌%◌, ◌≢◌, Some, length, vec_capacity, arith}
use Rattle.std.proofs.lemmas.List.Elements.{All-pop}
use Rattle.keyframes.specs.declared.frame.Frame.{Frame}
use Rattle.keyframes.specs.declared.pages.TheConstants.{BOARD_PAGES}
use Rattle.keyframes.proofs.ThinLaws.{thinning-stays, thinning-given, both-enough, restoring-one}
use Rattle.keyframes.proofs.store.Store.thin.Goals as goal

pub push_reserved-requires : goal.push_reserved-requires
push_reserved-requires c =
    let i = c.loop-frame.invariant in
    omega (arith, i.6, i.7, c.in-Some.ensures.len, c.requires.spare_room)

pub loop-frame-preserved-then-len-eq0 : goal.loop-frame-preserved-then-len-eq0
loop-frame-preserved-then-len-eq0 c =
    let i = c.loop-frame.invariant in
    let len = c.in-Some.ensures.len in
    let t = rw c.in-Some.ensures.items at i.0 in
    let even : length c.pop.new.self.items % 2 ≡ 0 = omega (arith, c.if-len-eq0.true, c.len.ensures, c.pop.new.self.ok) in (
      rw c.push_reserved.ensures.items (thinning-stays _ _ _ _ _ _ t even),
      (All-pop (λ (frame : Frame). BOARD_PAGES ≤ vec_capacity frame.pages) _ _ (Some c.in-Some.frame) c.in-Some.ensures.items i.1).0,
      i.2,
      omega (arith, i.3, len, c.push_reserved.ensures.len),
      c.in-Some.ensures.capacity ∙ i.4,
      i.5,
      c.push_reserved.ensures.capacity ∙ i.6,
      omega (arith, i.7, len, c.push_reserved.ensures.len),
    )

pub give-requires-clause-enough : goal.give-requires-clause-enough
give-requires-clause-enough c =
    let t = rw c.in-Some.ensures.items at c.loop-frame.invariant.0 in both-enough _ _ _ _ t.holds

pub give-requires-clause-row : goal.give-requires-clause-row
give-requires-clause-row c =
    (All-pop (λ (frame : Frame). BOARD_PAGES ≤ vec_capacity frame.pages) _ _ (Some c.in-Some.frame) c.in-Some.ensures.items c.loop-frame.invariant.1).1

pub loop-frame-preserved : goal.loop-frame-preserved
loop-frame-preserved c =
    let i = c.loop-frame.invariant in
    let len = c.in-Some.ensures.len in
    let t = rw c.in-Some.ensures.items at i.0 in
    let odd : length c.pop.new.self.items % 2 ≢ 0 = λ e. c.if-len-eq0.false (omega (arith, e, c.len.ensures, c.pop.new.self.ok)) in (
      thinning-given _ _ _ _ _ _ _ t odd c.give.ensures.held c.give.ensures.len c.give.ensures.holders c.give.ensures.bytes,
      (All-pop (λ (frame : Frame). BOARD_PAGES ≤ vec_capacity frame.pages) _ _ (Some c.in-Some.frame) c.in-Some.ensures.items i.1).0,
      c.give.ensures.rows,
      omega (arith, i.3, len, c.give.ensures.count),
      c.in-Some.ensures.capacity ∙ i.4,
      c.give.ensures.room ∙ i.5,
      i.6,
      omega (arith, i.7, len),
    )

pub push_reserved-requires-in-Some-pop : goal.push_reserved-requires-in-Some-pop
push_reserved-requires-in-Some-pop c =
    let i = c.loop-frame-2.invariant in
    omega (arith, i.3, i.6, c.in-Some-pop.ensures.len, c.requires.kept_room)

pub loop-frame-2-preserved : goal.loop-frame-2-preserved
loop-frame-2-preserved c =
    let i = c.loop-frame-2.invariant in
    let len = c.in-Some-pop.ensures.len in
    let more = c.push_reserved-in-Some-pop.ensures.len in
    let r = rw c.in-Some-pop.ensures.items at i.0 in (
      rw c.push_reserved-in-Some-pop.ensures.items (restoring-one _ _ _ _ _ _ r),
      i.1,
      omega (arith, i.2, len, more),
      c.push_reserved-in-Some-pop.ensures.capacity ∙ i.3,
      i.4,
      c.in-Some-pop.ensures.capacity ∙ i.5,
      omega (arith, i.6, len, more),
    )
