use Rattle.std.proofs.Common.{◌≡◌, ◌<◌, ◌≤◌, ℕ, List, [], ◌∷◌, All, length, length-append, ap, sym, subst, vec_capacity, arith}
use Rattle.std.proofs.lemmas.List.Elements.{All-push}
use Rattle.keyframes.specs.declared.frame.Frame.{Frame}
use Rattle.keyframes.specs.declared.pages.TheConstants.{BOARD_PAGES}
use Rattle.keyframes.specs.Inside.{AreRising, keys_of}
use Rattle.keyframes.specs.Keys.{KeyframesValue, MakesRoom}
use Rattle.keyframes.specs.Store.{AreFrames}
use Rattle.keyframes.proofs.RoomLaws.{room-free}
use Rattle.keyframes.proofs.KeysLaws.{below-kept, frames-kept, rising-kept, store-keeps}
use Rattle.keyframes.proofs.keyframes.Keyframes.keep.Goals as goal

pub keep-requires-clause-free : goal.keep-requires-clause-free
keep-requires-clause-free c = room-free c.make_room.new.self c.self.inside.limit c.make_room.ensures.store c.make_room.ensures.room.roomy

pub invariant_of-self : goal.invariant_of-self
invariant_of-self c =
    let store = c.make_room.new.self in
    let new = c.keep.new.self in
    let limit = c.self.inside.limit in
    let b = c.args.state.now in
    let is = c.make_room.ensures.store in
    let room = c.make_room.ensures.room in
    let done = c.keep.ensures in
    let kept = done.kept in
    let count = is.count in
    let last = rw (← c.self.view_is) at c.requires.later in
    let below = below-kept c.self.inside.store store limit room.thinnings b.clock c.self.invariant.rising last room.thinned in
    record {
      pages = omega (arith, is.pages, done.len);
      least = is.least;
      most = is.most;
      frames = frames-kept store.pool new.pool store.kept.items new.kept.items b is.frames done.bytes kept done.holders;
      frame_rows = subst AreFrames (sym kept.joined) (All-push (λ (frame : Frame). BOARD_PAGES ≤ vec_capacity frame.pages) store.kept.items kept.frame is.frame_rows kept.room);
      rising =
          subst AreRising (sym kept.joined) (rising-kept store.kept.items kept.frame is.rising
          (subst (λ (clock : ℕ). All (λ frame. frame.rest.clock < clock) store.kept.items) (sym (ap (λ rest. rest.clock) kept.rest)) below));
      holders = done.holders;
      spare = subst (λ spare. spare.items ≡ []) (sym done.spare) is.spare;
      rows = done.rows;
      count =
          let joined = ap (λ (frames : List Frame). length frames) kept.joined in
          omega (arith, count, done.count, joined, length-append store.kept.items (kept.frame ∷ []), store.rows.ok, new.rows.ok);
      kept_room = omega (arith, is.kept_room, done.kept_room);
      spare_room = subst (λ spare. limit ≤ vec_capacity spare) (sym done.spare) is.spare_room;
      rows_room = omega (arith, is.rows_room, done.rows_room);
    }

pub returns : goal.returns
returns c =
    let store = c.make_room.new.self in
    let limit = c.self.inside.limit in
    let is = c.make_room.ensures.store in
    let done = c.keep.ensures in (
      keys_of store limit,
      subst (λ (old : KeyframesValue). MakesRoom old (keys_of store limit)) c.self.view_is c.make_room.ensures.room,
      store-keeps store c.keep.new.self limit c.args.state.now is.holders done.holders is.frames done.bytes done.len done.kept done.live,
    )
