use Rattle.std.proofs.Common.{ap, ◌-◌, refl, arith}
use Rattle.std.proofs.lemmas.List.{length-map}
use Rattle.keyframes.specs.declared.frame.Frame.{Frame}
use Rattle.keyframes.specs.Inside.{the_keyframe}
use Rattle.keyframes.proofs.KeysLaws.{clock-mapped, later-mapped, rising-mapped}
use Rattle.keyframes.proofs.keyframes.Keyframes.nearest.Goals as goal

pub returns-then-index-clock-clause-some : goal.returns-then-index-clock-clause-some
returns-then-index-clock-clause-some c =
    let i = c.loop-index.invariant in
    let within = i.0 in
    let test = c.loop-index-test.true in
    let frames = c.self.inside.store.kept.items in
    rw (← c.self.view_is) (record {
      within = omega (arith, within, test, length-map frames (λ (frame : Frame). the_keyframe c.self.inside.store.pool frame));
      below = λ d.
          let e = clock-mapped (the_keyframe c.self.inside.store.pool) (λ x. refl) frames (c.loop-index.index - 1) c.index.result.now d (omega (arith, within, test)) in
          let at = ap (λ (frame : Frame). frame.rest.clock) c.index.ensures in
          omega (arith, e, at, c.if-index-clock.true);
      last = λ j d h. later-mapped (the_keyframe c.self.inside.store.pool) (λ x. refl) frames c.loop-index.index c.args.clock i.1 j d (omega (arith, h, test));
    })

pub returns-clause-none : goal.returns-clause-none
returns-clause-none c =
    let i = c.loop-index.invariant in
    let end = c.loop-index-test.false in
    rw (← c.self.view_is) (λ k d h. later-mapped (the_keyframe c.self.inside.store.pool) (λ x. refl) c.self.inside.store.kept.items c.loop-index.index c.args.clock i.1 k d (omega (arith, end)) h)

pub returns-then-index-clock-clause-rising : goal.returns-then-index-clock-clause-rising
returns-then-index-clock-clause-rising c =
    rw (← c.self.view_is) (rising-mapped (the_keyframe c.self.inside.store.pool) (λ x. refl) c.self.inside.store.kept.items c.self.invariant.rising)

pub returns-clause-rising : goal.returns-clause-rising
returns-clause-rising c =
    rw (← c.self.view_is) (rising-mapped (the_keyframe c.self.inside.store.pool) (λ x. refl) c.self.inside.store.kept.items c.self.invariant.rising)
