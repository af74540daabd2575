-- The frames that strokes and marks make, and their lines. They are this project's own.
use Rattle.std.specs.Prelude.{◌≡◌, ℕ, ◌+◌, ◌<◌, ◌≤◌, List, [], ◌∷◌, ◌++◌, Option, Some, None, IsSome, All, length, codes, decimal}
use Rattle.std.specs.Fmt.{signed_decimal}
use Rattle.std.specs.List.{flat_map, sum_by}
use Rattle.text_line.specs.Words.{line}
use Rattle.board_base.specs.declared.part.Part.TheVariants.{Generator}
use Rattle.board_base.specs.declared.record.Record.{Record}
use Rattle.board_base.specs.declared.record.Record.TheVariants.{Stroke}
use Rattle.board_base.specs.Records.{clock_of, Makes}
use Rattle.frame_list.specs.declared.frame.Bounds.{Bounds}
use Rattle.frame_list.specs.Bounds.{of_ends, widened}
use Rattle.frame_list.specs.Events.{Event, stroke_of, mark_at, by_clock}

-- a frame: its number, its mark, the number of its strokes, and its bounds where it has strokes
pub record FrameValue : Type 0 where
  pub number : ℕ
  pub mark : ℕ
  pub strokes : ℕ
  pub bounds : Option Bounds

-- a frame has bounds exactly where it has strokes
pub record IsFrame (frame : FrameValue) : Type 0 where
  pub none : frame.strokes ≡ 0 → frame.bounds ≡ None
  pub some : 0 < frame.strokes → IsSome frame.bounds

-- a frame that begins at a mark has no strokes
abbrev pub started : ℕ → ℕ → FrameValue
started number mark = record { number = number; mark = mark; strokes = 0; bounds = None }

-- a frame with one stroke more; other records aren't strokes
abbrev pub counted : FrameValue → Record → FrameValue
counted frame (Stroke clock x0 y0 x1 y1 colour intensity) =
    record frame { strokes = frame.strokes + 1; bounds = widened frame.bounds (of_ends (record { x = x0; y = y0 }) (record { x = x1; y = y1 })) }
counted frame _ = frame

-- the frame under way after an event: a stroke is counted, and a mark begins the next frame
abbrev pub next : FrameValue → Event → FrameValue
next frame (stroke_of made) = counted frame made
next frame (mark_at mark) = started (frame.number + 1) mark

-- the frame under way after some events
unfoldable pub under_way : FrameValue → List Event → FrameValue
under_way frame [] = frame
under_way frame (event ∷ events) = under_way (next frame event) events

-- the frames that ended
unfoldable pub ended : FrameValue → List Event → List FrameValue
ended frame [] = []
ended frame (stroke_of made ∷ events) = ended (counted frame made) events
ended frame (mark_at mark ∷ events) = frame ∷ ended (started (frame.number + 1) mark) events

-- the words of the four bounds
abbrev pub bounds_words : Option Bounds → List (List ℕ)
bounds_words None = []
bounds_words (Some bounds) =
    signed_decimal bounds.least.x ∷ signed_decimal bounds.least.y ∷ signed_decimal bounds.greatest.x
    ∷ signed_decimal bounds.greatest.y ∷ []

-- the line of a frame: its number, its mark, the number of its strokes, and its bounds where it has
-- any
unfoldable pub frame_text : FrameValue → List ℕ
frame_text frame =
    line (codes "F" ∷ decimal frame.number ∷ decimal frame.mark ∷ decimal frame.strokes ∷ bounds_words frame.bounds)

-- the lines of some frames
unfoldable pub frames_text : List FrameValue → List ℕ
frames_text frames = flat_map frame_text frames

-- all frames: those that ended, and the one under way
abbrev pub frames_of : FrameValue → List Event → List FrameValue
frames_of frame events = ended frame events ++ under_way frame events ∷ []

-- Each stroke is in exactly one frame: the numbers of strokes of all frames add up to the strokes,
-- and those that the first frame had before.
abbrev pub EachStrokeInOneFrame : FrameValue → List Record → List ℕ → Type 0
EachStrokeInOneFrame frame strokes marks =
    All (Makes Generator) strokes
    → sum_by (λ f. f.strokes) (frames_of frame (by_clock strokes marks)) ≡ frame.strokes + length strokes

-- no mark of a first part comes after a stroke of the rest, and no stroke of it after a mark of
-- the rest
pub record IsBefore (strokes1 : List Record) (marks1 : List ℕ) (strokes2 : List Record) (marks2 : List ℕ) : Type 0 where
  pub marks : All (λ mark. All (λ stroke. mark < clock_of stroke) strokes2) marks1
  pub strokes : All (λ stroke. All (λ mark. clock_of stroke ≤ mark) marks2) strokes1

-- a first part and then the rest make the frames of the whole: the same frame is under way, and the
-- same lines come out
pub record MakeTheWhole (start : FrameValue) (first rest whole : List Event) : Type 0 where
  pub frame : under_way start whole ≡ under_way (under_way start first) rest
  pub text : frames_text (ended start whole)
      ≡ frames_text (ended start first) ++ frames_text (ended (under_way start first) rest)

-- Strokes and marks may be taken in parts. A stroke may come later than the marks around it, as
-- long as no mark before it that was taken has its own clock or a later one.
abbrev pub PartsMakeTheWhole : FrameValue → List Record → List ℕ → List Record → List ℕ → Type 0
PartsMakeTheWhole frame strokes1 marks1 strokes2 marks2 =
    IsBefore strokes1 marks1 strokes2 marks2
    → MakeTheWhole frame (by_clock strokes1 marks1) (by_clock strokes2 marks2) (by_clock (strokes1 ++ strokes2) (marks1 ++ marks2))
