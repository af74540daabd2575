-- Strokes and marks, as they are gone through.
use Rattle.std.proofs.Common.{◌≡◌, ℕ, ◌+◌, ◌<◌, List, ◌∷◌, ◌++◌, length, map, take, drop, get_or, refl, add-one}
use Rattle.std.proofs.Math.Seq.{drop-cons}
use Rattle.board_base.specs.declared.record.Record.{Record}
use Rattle.frame_list.specs.Events.{stroke_of, mark_at, through, by_clock}
use Rattle.frame_list.specs.Frames.{FrameValue, started, under_way, ended, frame_text, frames_text}
use Rattle.frame_list.proofs.FrameLaws.{under_way-append, ended-append, ended-strokes}

-- of some marks those from one on
pub marks-left : (marks : List ℕ) (k d : ℕ) → k < length marks → drop k marks ≡ get_or marks k d ∷ drop (k + 1) marks
marks-left marks k d below = rw add-one (drop-cons marks k d below)

-- the strokes up to a mark, the line of the frame that they end, and what is left after them
pub marked : (now counted : FrameValue) (strokes first later : List Record) (n mark : ℕ) (these marks : List ℕ) → these ≡ mark ∷ marks
    → n ≡ through mark strokes → first ≡ take n strokes → later ≡ drop n strokes → counted ≡ under_way now (map stroke_of first)
    → (frames_text (ended now (by_clock strokes these)) ≡ frame_text counted ++ frames_text (ended (started (counted.number + 1) mark) (by_clock later marks)))
    × (under_way now (by_clock strokes these) ≡ under_way (started (counted.number + 1) mark) (by_clock later marks))
unfolding by_clock frames_text ended under_way
marked now counted strokes first later n mark these marks split is_n is_first is_later is =
    let rest = mark_at mark ∷ by_clock later marks in
    let frames = ended-append now (map stroke_of first) rest in
    let frame = under_way-append now (map stroke_of first) rest in
    rw (split, ← is_n, ← is_first, ← is_later) (rw (frames, ended-strokes now first, ← is) refl, rw (frame, ← is) refl)
