use Rattle.std.proofs.Common.{◌≤◌, ◌<◌, ◌∙◌, List, All, length, sym, subst, vec_capacity, arith}
use Rattle.keyframes.specs.declared.frame.Frame.{Frame}
use Rattle.keyframes.specs.declared.pages.TheConstants.{BOARD_PAGES}
use Rattle.keyframes.specs.Inside.{AreRising, keys_of}
use Rattle.keyframes.specs.Store.{AreFrames, IsFrame}
use Rattle.keyframes.proofs.RoomLaws.{all-thinned, crowded-two, frames-left, rising-thinned, store-crowded, thinned-fewer, thinned-more, thinned-room, view-thinned}
use Rattle.keyframes.proofs.store.Store.make_room.Goals as goal

pub loop-self-smaller : goal.loop-self-smaller
loop-self-smaller c =
    let store = c.loop-self.self in
    let two = crowded-two store c.args.limit c.loop-self.invariant.0 (sym c.is_crowded.ensures ∙ c.loop-self-test.true) in
    let kept = subst (λ frames. length frames < length store.kept.items) (sym c.thin.ensures.kept) (thinned-fewer store.kept.items (omega (arith, two, store.kept.ok))) in
    omega (arith, kept, store.kept.ok, c.thin.new.self.kept.ok)

pub loop-self-preserved : goal.loop-self-preserved
loop-self-preserved c =
    let store = c.loop-self.self in
    let new = c.thin.new.self in
    let limit = c.args.limit in
    let is = c.loop-self.invariant.0 in
    let done = c.thin.ensures in
    let len = done.len in
    let counted = done.count in (
      record {
        pages = omega (arith, is.pages, len);
        least = is.least;
        most = is.most;
        frames =
            frames-left store.pool new.pool new.kept.items (subst (λ (frames : List Frame). All (IsFrame store.pool) frames) (sym done.kept)
            (all-thinned (IsFrame store.pool) store.kept.items is.frames))
            done.bytes done.holders;
        frame_rows = subst AreFrames (sym done.kept) (all-thinned (λ (frame : Frame). BOARD_PAGES ≤ vec_capacity frame.pages) store.kept.items is.frame_rows);
        rising = subst AreRising (sym done.kept) (rising-thinned store.kept.items is.rising);
        holders = done.holders;
        spare = done.spare;
        rows = done.rows;
        count = omega (arith, is.count, counted, store.kept.ok, store.rows.ok, new.kept.ok, new.rows.ok);
        kept_room = omega (arith, is.kept_room, done.kept_room);
        spare_room = omega (arith, is.spare_room, done.spare_room);
        rows_room = omega (arith, is.rows_room, done.rows_room);
      },
      thinned-more (keys_of c.args.self.now limit) (keys_of store limit) (keys_of new limit) c.loop-self.invariant.1
          (store-crowded store limit is ∙ sym c.is_crowded.ensures ∙ c.loop-self-test.true)
          (view-thinned store new limit done.kept done.bytes done.holders len),
    )

pub returns-clause-room : goal.returns-clause-room
returns-clause-room c =
    let store = c.loop-self.self in
    thinned-room (keys_of c.args.self.now c.args.limit) (keys_of store c.args.limit) c.loop-self.invariant.1
    (store-crowded store c.args.limit c.loop-self.invariant.0 ∙ sym c.is_crowded.ensures ∙ c.loop-self-test.false)
