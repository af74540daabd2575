use Rattle.std.proofs.Common.{◌≡◌, ◌+◌, ◌∙◌, ◌-◌, List, Option, slice_get, ap, subst, length, arith}
use Rattle.page_pool.specs.Pool.{live_of}
use Rattle.keyframes.specs.Holders.{IsRowPage, page_at, row_taken}
use Rattle.keyframes.specs.Keys.{page_of}
use Rattle.std.proofs.lemmas.List.Elements.{All-pop}
use Rattle.keyframes.specs.declared.frame.Frame.{Frame}
use Rattle.keyframes.specs.Store.{IsRow}
use Rattle.keyframes.proofs.ThinLaws.{places-last, last-shareable, last-read}
use Rattle.keyframes.proofs.store.Store.keep.Goals as goal

pub hold_all-requires-clause-live : goal.hold_all-requires-clause-live
hold_all-requires-clause-live c =
    last-shareable c.args.self.now.pool c.args.self.now.kept.items c.requires.frames c.requires.holders (omega (arith, c.requires.few, c.args.self.now.kept.ok))
    (length c.args.self.now.kept.items - 1) c.last.result
    (c.last.ensures.value ∙ ap (λ (frames : List Frame). slice_get frames (length frames - 1)) c.deref.ensures.value)

pub returns-clause-kept : goal.returns-clause-kept
returns-clause-kept c =
    let read = last-read c.args.self.now.kept.items c.last.result (c.last.ensures.value ∙ ap (λ (frames : List Frame). slice_get frames (length frames - 1)) c.deref.ensures.value) in
    let row = (All-pop IsRow c.args.self.now.rows.items c.pop.new.self.items c.pop.result c.pop.ensures.items c.requires.rows).1 in
    record {
      frame = record { rest = c.of-rest.result; pages = c.hold_all.new.row };
      joined = c.push_reserved.ensures.items;
      board = c.of-rest.ensures.board;
      rest = c.of-rest.ensures.rest;
      len = c.hold_all.ensures.row;
      room = let room = (rw c.unwrap-pages.ensures at row).1 in omega (arith, room, c.hold_all.ensures.room);
      bytes = c.hold_all.ensures.bytes;
      pages = λ k h.
          subst (λ (last : Option Frame). IsRowPage c.args.self.now.pool (page_at last k) (page_of c.args.state.now k) c.hold_all.new.row.items k) read (c.hold_all.ensures.pages k h);
    }

pub returns-clause-holders : goal.returns-clause-holders
returns-clause-holders c =
    let frame : Frame = record { rest = c.of-rest.result; pages = c.hold_all.new.row } in
    record {
      held = c.hold_all.ensures.held;
      holders = λ place.
          let more = c.hold_all.ensures.holders place in
          rw c.push_reserved.ensures.items (omega (arith, c.requires.holders.holders place, more, places-last c.args.self.now.kept.items frame place));
    }

pub returns-clause-rows : goal.returns-clause-rows
returns-clause-rows c = (All-pop IsRow c.args.self.now.rows.items c.pop.new.self.items c.pop.result c.pop.ensures.items c.requires.rows).0

pub returns-clause-live : goal.returns-clause-live
returns-clause-live c =
    let read = last-read c.args.self.now.kept.items c.last.result (c.last.ensures.value ∙ ap (λ (frames : List Frame). slice_get frames (length frames - 1)) c.deref.ensures.value) in
    subst (λ (last : Option Frame). live_of c.hold_all.new.pool ≡ live_of c.args.self.now.pool + row_taken c.args.self.now.pool last c.args.state.now 16) read c.hold_all.ensures.live
