-- Laws of the frame under way and of the frames that ended.
use Rattle.std.proofs.Common.{◌≡◌, ℕ, ◌+◌, ◌<◌, ◌≤◌, arith, List, [], ◌∷◌, ◌++◌, length, map, take, get_or, refl, ap, ◌∙◌, add-one}
use Rattle.std.proofs.Math.Seq.{take-suc}
use Rattle.std.proofs.lemmas.List.{map-append}
use Rattle.board_base.specs.declared.record.Record.{Record}
use Rattle.board_base.specs.declared.record.Record.TheVariants.{Stroke}
use Rattle.frame_list.specs.Events.{Event, stroke_of, mark_at}
use Rattle.frame_list.specs.Frames.{FrameValue, started, counted, next, under_way, ended}

-- some events, and then others
pub under_way-append : (frame : FrameValue) (first rest : List Event) → under_way frame (first ++ rest) ≡ under_way (under_way frame first) rest
unfolding under_way
under_way-append frame [] rest = refl
under_way-append frame (event ∷ first) rest = under_way-append (next frame event) first rest

-- the frames that end in some events, and then those of others
pub ended-append : (frame : FrameValue) (first rest : List Event)
    → ended frame (first ++ rest) ≡ ended frame first ++ ended (under_way frame first) rest
unfolding ended under_way
ended-append frame [] rest = refl
ended-append frame (stroke_of made ∷ first) rest = ended-append (counted frame made) first rest
ended-append frame (mark_at mark ∷ first) rest = ap (λ frames. frame ∷ frames) (ended-append (started (frame.number + 1) mark) first rest)

-- no frame ends in strokes
pub ended-strokes : (frame : FrameValue) (strokes : List Record) → ended frame (map stroke_of strokes) ≡ []
unfolding ended
ended-strokes frame [] = refl
ended-strokes frame (made ∷ strokes) = ended-strokes (counted frame made) strokes

-- one stroke more is counted
pub one_more : (frame : FrameValue) (strokes : List Record) (k : ℕ) (made : Record) → k < length strokes
    → under_way frame (map stroke_of (take (k + 1) strokes)) ≡ counted (under_way frame (map stroke_of (take k strokes))) (get_or strokes k made)
unfolding under_way
one_more frame strokes k made below =
    rw (add-one, take-suc strokes k made below, map-append stroke_of (take k strokes) (get_or strokes k made ∷ []), under_way-append) refl

-- a stroke leaves the number of the frame
pub counted-number : (frame : FrameValue) (made : Record) → (counted frame made).number ≡ frame.number
counted-number frame (Stroke clock x0 y0 x1 y1 colour intensity) = refl
counted-number frame _ = refl

-- and adds one at most to the number of strokes
pub counted-most : (frame : FrameValue) (made : Record) → (counted frame made).strokes ≤ frame.strokes + 1
counted-most frame (Stroke clock x0 y0 x1 y1 colour intensity) = omega arith
counted-most frame _ = omega arith

pub strokes-number : (frame : FrameValue) (strokes : List Record) → (under_way frame (map stroke_of strokes)).number ≡ frame.number
unfolding under_way
strokes-number frame [] = refl
strokes-number frame (made ∷ strokes) = strokes-number (counted frame made) strokes ∙ counted-number frame made

pub strokes-most : (frame : FrameValue) (strokes : List Record) → (under_way frame (map stroke_of strokes)).strokes ≤ frame.strokes + length strokes
unfolding under_way
strokes-most frame [] = omega arith
strokes-most frame (made ∷ strokes) = omega (arith, strokes-most (counted frame made) strokes, counted-most frame made)
