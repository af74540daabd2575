-- Laws of all frames.
use Rattle.std.proofs.Common.{◌≡◌, ℕ, ◌+◌, ◌<◌, ◌≤◌, List, [], ◌∷◌, ◌++◌, Bool, true, false, cond, length, map, take, drop, refl, ap, sym, ◌∙◌, arith, append_assoc, length-append, zero-add}
use Rattle.std.specs.Prelude.{All, nat_le, ◌&&◌, ◌≢◌}
use Rattle.std.specs.List.{prefix_len}
use Rattle.std.proofs.Math.Seq.{take-append-add, drop-append-add}
use Rattle.std.proofs.lemmas.List.{take-append-drop, take-append-le, drop-append-le, map-append}
use Rattle.std.proofs.lemmas.List.Elements.{All-drop, All-take, All-head, All-tail}
use Rattle.std.proofs.lemmas.List.Sums.{prefix_len-le-length, sum_by-cons}
use Rattle.std.proofs.lemmas.Bool.{le-leb, lt-leb}
use Rattle.std.proofs.lemmas.Bool.Decides.{leb_tells}
use Rattle.std.proofs.lemmas.Grind.{flat_map-append}
use Rattle.board_base.specs.declared.part.Part.TheVariants.{Generator}
use Rattle.board_base.specs.declared.record.Record.{Record}
use Rattle.board_base.specs.declared.record.Record.TheVariants.{Stroke}
use Rattle.board_base.specs.Records.{clock_of, Makes}
use Rattle.board_map.specs.Map.{address_map, row_of}
use Rattle.board_map.proofs.Rows.{passing}
use Rattle.catchup_engine.specs.Starts.{is_go}
use Rattle.frame_list.specs.Events.{Event, stroke_of, mark_at, through, by_clock}
use Rattle.frame_list.specs.Frames.{FrameValue, started, counted, under_way, ended, frame_text, frames_text, frames_of, EachStrokeInOneFrame, IsBefore, PartsMakeTheWhole}
use Rattle.frame_list.proofs.FrameLaws.{under_way-append, ended-append, ended-strokes}

-- a stroke is counted once
pub stroke-exact : (frame : FrameValue) (made : Record) → Makes Generator made → (counted frame made).strokes ≡ frame.strokes + 1
stroke-exact frame (Stroke clock x0 y0 x1 y1 colour intensity) is = refl
stroke-exact frame _ is = absurd is

pub strokes-exact : (frame : FrameValue) (strokes : List Record) → All (Makes Generator) strokes
    → (under_way frame (map stroke_of strokes)).strokes ≡ frame.strokes + length strokes
unfolding under_way
strokes-exact frame [] made = omega arith
strokes-exact frame (first ∷ strokes) made =
    let here = stroke-exact frame first (All-head (Makes Generator) first strokes made) in
    let rest = strokes-exact (counted frame first) strokes (All-tail (Makes Generator) first strokes made) in omega (arith, here, rest)

-- the frames of strokes, a mark and others
pub frames-mark : (frame : FrameValue) (first : List Record) (mark : ℕ) (rest : List Event)
    → frames_of frame (map stroke_of first ++ mark_at mark ∷ rest)
    ≡ under_way frame (map stroke_of first) ∷ frames_of (started ((under_way frame (map stroke_of first)).number + 1) mark) rest
unfolding under_way ended
frames-mark frame first mark rest =
    rw (ended-append frame (map stroke_of first) (mark_at mark ∷ rest), ended-strokes frame first, under_way-append frame (map stroke_of first) (mark_at mark ∷ rest)) refl

pub each_stroke_in_one_frame : (frame : FrameValue) (strokes : List Record) (marks : List ℕ) → EachStrokeInOneFrame frame strokes marks
unfolding by_clock
each_stroke_in_one_frame frame strokes [] made =
    rw (ended-strokes frame strokes) (let all = strokes-exact frame strokes made in omega (arith, all))
each_stroke_in_one_frame frame strokes (mark ∷ marks) made =
    let n = through mark strokes in
    let first = take n strokes in
    let later = drop n strokes in
    let last = under_way frame (map stroke_of first) in
    let here = strokes-exact frame first (All-take (Makes Generator) n strokes made) in
    let there = each_stroke_in_one_frame (started (last.number + 1) mark) later marks (All-drop (Makes Generator) n strokes made) in
    rw (frames-mark frame first mark (by_clock later marks), sum_by-cons (λ (f : FrameValue). f.strokes) last (frames_of (started (last.number + 1) mark) (by_clock later marks)))
    (omega (arith, here, there, simp length-append at (ap length (take-append-drop n strokes))))

-- a first part that passes, and one after it that doesn't
pub prefix-all : {X : Type 0} (p : X → Bool) (xs ys : List X) → All (λ x. p x ≡ true) xs → prefix_len p (xs ++ ys) ≡ length xs + prefix_len p ys
prefix-all p [] ys passes = sym (zero-add _)
prefix-all p (x ∷ xs) ys passes =
    let rest = prefix-all p xs ys (All-tail (λ x. p x ≡ true) x xs passes) in rw (All-head (λ x. p x ≡ true) x xs passes) (omega (arith, rest))

pub prefix-none : {X : Type 0} (p : X → Bool) (xs ys : List X) → All (λ x. p x ≡ false) ys → prefix_len p (xs ++ ys) ≡ prefix_len p xs
prefix-none p [] [] passes = refl
prefix-none p [] (y ∷ ys) passes = rw (All-head (λ x. p x ≡ false) y ys passes) refl
prefix-none p (x ∷ xs) ys passes = ap (λ n. cond (p x) (1 + n) 0) (prefix-none p xs ys passes)

-- strokes and marks, none of which comes before those of a first part
pub events-append : (strokes1 : List Record) (marks1 : List ℕ) (strokes2 : List Record) (marks2 : List ℕ) → IsBefore strokes1 marks1 strokes2 marks2
    → by_clock (strokes1 ++ strokes2) (marks1 ++ marks2) ≡ by_clock strokes1 marks1 ++ by_clock strokes2 marks2
unfolding by_clock
events-append strokes1 [] strokes2 [] before = map-append stroke_of strokes1 strokes2
events-append strokes1 [] strokes2 (mark ∷ marks) before =
    let n = through mark strokes2 in
    rw (
      prefix-all (λ stroke. nat_le (clock_of stroke) mark) strokes1 strokes2 (λ k d below. le-leb _ _ (before.strokes k d below 0 0 (omega arith))),
      take-append-add strokes1 strokes2 n,
      drop-append-add strokes1 strokes2 n,
      map-append stroke_of strokes1 (take n strokes2),
    )
    (append_assoc (map stroke_of strokes1) (map stroke_of (take n strokes2)) (mark_at mark ∷ by_clock (drop n strokes2) marks))
events-append strokes1 (mark ∷ marks) strokes2 marks2 before =
    let n = through mark strokes1 in
    let within : n ≤ length strokes1 = prefix_len-le-length (λ stroke. nat_le (clock_of stroke) mark) strokes1 in
    let rest = events-append (drop n strokes1) marks strokes2 marks2 (record {
      marks = All-tail (λ mark. All (λ stroke. mark < clock_of stroke) strokes2) mark marks before.marks;
      strokes = All-drop (λ stroke. All (λ mark. clock_of stroke ≤ mark) marks2) n strokes1 before.strokes;
    }) in
    rw (
      prefix-none (λ stroke. nat_le (clock_of stroke) mark) strokes1 strokes2 (λ k d below. lt-leb _ _ (before.marks 0 0 (omega arith) k d below)),
      take-append-le n strokes1 strokes2 within,
      drop-append-le n strokes1 strokes2 within,
      rest,
    )
    (sym (append_assoc (map stroke_of (take n strokes1)) (mark_at mark ∷ by_clock (drop n strokes1) marks) (by_clock strokes2 marks2)))

pub parts_make_the_whole : (frame : FrameValue) (strokes1 : List Record) (marks1 : List ℕ) (strokes2 : List Record) (marks2 : List ℕ)
    → PartsMakeTheWhole frame strokes1 marks1 strokes2 marks2
unfolding frames_text
parts_make_the_whole frame strokes1 marks1 strokes2 marks2 before =
    let first = by_clock strokes1 marks1 in
    let rest = by_clock strokes2 marks2 in
    let whole = events-append strokes1 marks1 strokes2 marks2 before in
    record {
      frame = rw whole (under_way-append frame first rest);
      text = rw (whole, ended-append frame first rest) (flat_map-append frame_text (ended frame first) (ended (under_way frame first) rest));
    }

-- no other address starts the generator
pub starts_elsewhere : (addr : ℕ) → addr ≢ 0x8840 → is_go (row_of addr).writes ≡ false
unfolding row_of
starts_elsewhere addr other =
    let not_there : nat_le 0x8840 addr && nat_le addr 0x8840 ≡ false = grind (arith, leb_tells) in
    passing (λ row. is_go row.writes) refl address_map 0 addr refl ∙ rw not_there refl
