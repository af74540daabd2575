-- The strokes of a run are those of its frames.
use Rattle.std.proofs.Common.{◌≡◌, ℕ, zero, suc, ◌+◌, ◌≤◌, ◌<◌, List, [], ◌∷◌, ◌++◌, length, arith, subst, sym, ◌∙◌, zero-add}
use Rattle.std.specs.Prelude.{All}
use Rattle.std.specs.List.Sorted.{IsNonDecreasing}
use Rattle.std.proofs.lemmas.List.Elements.{All-append, All-head, All-tail, All-weaker}
use Rattle.board_base.specs.declared.part.Part.TheVariants.{Generator}
use Rattle.board_base.specs.Records.{Makes}
use Rattle.board_base.proofs.RecordLaws.{trail-made}
use Rattle.tape_ports.specs.declared.entry.TapeEntry.{TapeEntry}
use Rattle.lockstep_board.specs.Lockstep.{Board, access_in, step}
use Rattle.lockstep_board.specs.Run.{boundary_steps, to_boundary}
use Rattle.lockstep_board.proofs.Clocks.{step-clock}
use Rattle.lockstep_board.proofs.InOrder.{to_boundary-made}
use Rattle.frame_list.specs.Frames.{started}
use Rattle.catchup_engine.specs.Starts.{marks_of}
use Rattle.frame_list.proofs.InFrameLaws.{each_frame_has_its_strokes}
use Rattle.frame_list.proofs.WholeLaws.{each_stroke_in_one_frame}
use Rattle.catchup_engine.specs.Trace.{accesses_in, accesses_of}
use Rattle.run_trace.specs.BoardFrames.{AllStrokesAreCounted, FramesHaveTheirStrokes, run_events, run_frames, run_marks}
use Rattle.run_trace.specs.MarkLaws.{marks-append, marks-nothing, marks-within, one-mark}
use Rattle.run_trace.specs.PartLaws.{made-none}

pub all_told : (entries : List TapeEntry) (limit : ℕ) (b : Board) → AllStrokesAreCounted entries limit b
unfolding run_events run_frames
all_told entries limit b none =
    let last = to_boundary entries limit b in
    let order = to_boundary-made entries b.peripherals.clock limit b (made-none b none) in
    let made : All (Makes Generator) last.peripherals.strokes = (trail-made Generator b.peripherals.clock last.peripherals.clock last.peripherals.strokes order.strokes).kinds in
    each_stroke_in_one_frame (started 0 b.peripherals.clock) last.peripherals.strokes (run_marks entries limit b) made ∙ zero-add (length last.peripherals.strokes)

-- numbers that don't fall, after others that are none above them
rising-cons : (x : ℕ) (xs : List ℕ) → All (λ y. x ≤ y) xs → IsNonDecreasing xs → IsNonDecreasing (x ∷ xs)
rising-cons x xs low rises zero zero d order inside = omega arith
rising-cons x xs low rises zero (suc j) d order inside = low j d (omega (arith, inside))
rising-cons x xs low rises (suc i) zero d order inside = absurd (omega (arith, order))
rising-cons x xs low rises (suc i) (suc j) d order inside = rises i j d (omega (arith, order)) (omega (arith, inside))

rising-none : IsNonDecreasing []
rising-none i j d order inside = absurd (omega (arith, inside))

rising-behind : (at : ℕ) (xs ys : List ℕ) → All (λ x. x ≡ at) xs → All (λ y. at ≤ y) ys → IsNonDecreasing ys → IsNonDecreasing (xs ++ ys)
rising-behind at [] ys same low rises = rises
rising-behind at (x ∷ xs) ys same low rises =
    let here : x ≡ at = All-head (λ x. x ≡ at) x xs same in
    let others = All-tail (λ x. x ≡ at) x xs same in
    rising-cons x (xs ++ ys)
    (All-append (λ y. x ≤ y) xs ys (All-weaker (λ y. y ≡ at) (λ y. x ≤ y) (λ y is. omega (arith, here, is)) xs others)
    (All-weaker (λ y. at ≤ y) (λ y. x ≤ y) (λ y above. omega (arith, here, above)) ys low))
    (rising-behind at xs ys others low rises)

-- the marks of some clocks don't fall
marks-rise : (entries : List TapeEntry) (n : ℕ) (b : Board) → IsNonDecreasing (marks_of (accesses_of entries n b))
unfolding accesses_of
marks-rise entries zero b = subst IsNonDecreasing (sym marks-nothing) rising-none
marks-rise entries (suc n) b =
    let at = b.peripherals.clock in
    let next = step entries b in
    let one = step-clock entries b in
    let first = accesses_in at (access_in entries b) in
    let rest = accesses_of entries n next in
    let low : All (λ mark. at ≤ mark) (marks_of rest) =
    All-weaker (λ mark. (next.peripherals.clock ≤ mark) × (mark < next.peripherals.clock + n)) (λ mark. at ≤ mark)
    (λ mark both. let above = both.0 in omega (arith, above, one)) (marks_of rest) (marks-within entries n next) in
    subst IsNonDecreasing (sym (marks-append first rest))
    (rising-behind at (marks_of first) (marks_of rest) (one-mark at (access_in entries b)) low (marks-rise entries n next))

pub frames_of_a_run : (entries : List TapeEntry) (limit : ℕ) (b : Board) → FramesHaveTheirStrokes entries limit b
unfolding run_events run_frames run_marks
frames_of_a_run entries limit b none =
    let last = to_boundary entries limit b in
    let order = to_boundary-made entries b.peripherals.clock limit b (made-none b none) in
    each_frame_has_its_strokes b.peripherals.clock last.peripherals.strokes (run_marks entries limit b)
    (trail-made Generator b.peripherals.clock last.peripherals.clock last.peripherals.strokes order.strokes).clocks
    (marks-rise entries (boundary_steps entries limit b) b)
