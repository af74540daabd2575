-- What frames are made of: the strokes of the generator, and the writes that start it. This
-- project's own.
use Rattle.std.specs.Prelude.{ℕ, List, [], ◌∷◌, ◌++◌, map, take, drop, nat_le}
use Rattle.std.specs.List.{prefix_len}
use Rattle.board_base.specs.declared.record.Record.{Record}
use Rattle.board_base.specs.Records.{clock_of}

-- a stroke, or the clock of a write that starts the generator
pub data Event : Type 0 where
  stroke_of : Record → Event
  mark_at : ℕ → Event

-- how many strokes at the front came up to a clock, its own strokes with them
abbrev pub through : ℕ → List Record → ℕ
through clock strokes = prefix_len (λ stroke. nat_le (clock_of stroke) clock) strokes

-- strokes and marks in one list by clock: a stroke stands before a mark of its own clock
unfoldable pub by_clock : List Record → List ℕ → List Event
by_clock strokes [] = map stroke_of strokes
by_clock strokes (mark ∷ marks) =
    let before = through mark strokes in
    map stroke_of (take before strokes) ++ mark_at mark ∷ by_clock (drop before strokes) marks
