-- Which strokes are in which frame. This project's own.
use Rattle.std.specs.Prelude.{◌≡◌, ℕ, ◌+◌, zero, suc, List, ◌∷◌, Bool, true, ◌&&◌, Option, Some, None, nat_lt, nat_le, length, map, filter, get_or, slice_get}
use Rattle.std.specs.List.{range_with_len}
use Rattle.std.specs.List.Sorted.{IsNonDecreasing, IsNonDecreasingBy}
use Rattle.board_base.specs.declared.record.Record.{Record}
use Rattle.board_base.specs.Records.{clock_of}
use Rattle.frame_list.specs.Events.{stroke_of, by_clock}
use Rattle.frame_list.specs.Frames.{FrameValue, started, under_way, frames_of}

-- the write that begins a frame, which frame 0 doesn't have, and the one that ends it, which the
-- last frame doesn't have
abbrev pub first_mark : List ℕ → ℕ → Option ℕ
first_mark marks zero = None
first_mark marks (suc k) = slice_get marks k

abbrev pub last_mark : List ℕ → ℕ → Option ℕ
last_mark marks k = slice_get marks k

-- a clock is above that of a mark, where there is one
abbrev pub is_above : Option ℕ → ℕ → Bool
is_above None clock = true
is_above (Some mark) clock = nat_lt mark clock

-- a clock isn't above that of a mark, where there is one
abbrev pub is_up_to : Option ℕ → ℕ → Bool
is_up_to None clock = true
is_up_to (Some mark) clock = nat_le clock mark

-- the strokes of a frame: those above its first mark and up to its last one
abbrev pub strokes_in : List Record → List ℕ → ℕ → List Record
strokes_in strokes marks k =
    filter (λ stroke. is_above (first_mark marks k) (clock_of stroke) && is_up_to (last_mark marks k) (clock_of stroke)) strokes

-- frame k: it begins at its mark, frame 0 at the first clock, and counts its strokes and their
-- bounds
abbrev pub frame_at : ℕ → List Record → List ℕ → ℕ → FrameValue
frame_at clock strokes marks k = under_way (started k (get_or (clock ∷ marks) k 0)) (map stroke_of (strokes_in strokes marks k))

-- Where neither the clocks of the strokes nor the marks fall, there is a frame more than there are
-- marks, and each has its own strokes.
abbrev pub EachFrameHasItsStrokes : ℕ → List Record → List ℕ → Type 0
EachFrameHasItsStrokes clock strokes marks =
    IsNonDecreasingBy clock_of strokes → IsNonDecreasing marks
    → frames_of (started 0 clock) (by_clock strokes marks) ≡ map (frame_at clock strokes marks) (range_with_len 0 (length marks + 1))
