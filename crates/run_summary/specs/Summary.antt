-- What the records of a run come to. It is this project's own.
use Rattle.std.specs.Prelude.{ℕ, ◌+◌, Bool, true, false, List, []}
use Rattle.std.specs.List.{count_by, sum_by}
use Rattle.board_base.specs.declared.record.Record.{Record}
use Rattle.board_base.specs.declared.record.Record.TheVariants.{Stroke, Levels, Latch, WatchdogReset}
use Rattle.lockstep_board.specs.Order.{Recorded}
use Rattle.run_windows.specs.RecordObserver.{recorded}
use Rattle.run_summary.specs.declared.summary.Summary.{Summary}
use Rattle.run_summary.specs.declared.summary.Tally.{Tally}

-- the kind of a record
abbrev pub is_stroke : Record → Bool
is_stroke (Stroke clock x0 y0 x1 y1 colour intensity) = true
is_stroke (Levels clock l1 l2 l3 l4) = false
is_stroke (Latch clock value) = false
is_stroke (WatchdogReset clock) = false

abbrev pub is_levels : Record → Bool
is_levels (Stroke clock x0 y0 x1 y1 colour intensity) = false
is_levels (Levels clock l1 l2 l3 l4) = true
is_levels (Latch clock value) = false
is_levels (WatchdogReset clock) = false

abbrev pub is_latch : Record → Bool
is_latch (Stroke clock x0 y0 x1 y1 colour intensity) = false
is_latch (Levels clock l1 l2 l3 l4) = false
is_latch (Latch clock value) = true
is_latch (WatchdogReset clock) = false

abbrev pub is_reset : Record → Bool
is_reset (Stroke clock x0 y0 x1 y1 colour intensity) = false
is_reset (Levels clock l1 l2 l3 l4) = false
is_reset (Latch clock value) = false
is_reset (WatchdogReset clock) = true

-- the intensity of a stroke, and the sum of four levels
abbrev pub strength_of : Record → ℕ
strength_of (Stroke clock x0 y0 x1 y1 colour intensity) = intensity
strength_of (Levels clock l1 l2 l3 l4) = l1 + l2 + l3 + l4
strength_of (Latch clock value) = 0
strength_of (WatchdogReset clock) = 0

-- The records of each part by kind, and the sum of all intensities of strokes and of all four
-- levels of both POKEYs.
unfoldable pub summary_of : Recorded → Summary
summary_of l = record {
  strokes = count_by is_stroke l.strokes;
  levels1 = count_by is_levels l.levels1;
  levels2 = count_by is_levels l.levels2;
  latches = count_by is_latch l.written;
  resets = count_by is_reset l.written;
  sum = sum_by strength_of l.strokes + sum_by strength_of l.levels1 + sum_by strength_of l.levels2;
}

-- no records
abbrev pub no_records : Recorded
no_records = recorded [] [] [] []

-- the records of one list by kind, and the sum of their strengths
unfoldable pub tally_of : List Record → Tally
tally_of records = record {
  strokes = count_by is_stroke records;
  levels = count_by is_levels records;
  latches = count_by is_latch records;
  resets = count_by is_reset records;
  sum = sum_by strength_of records;
}

-- two summaries, number by number
abbrev pub together : Summary → Summary → Summary
together a b = record {
  strokes = a.strokes + b.strokes;
  levels1 = a.levels1 + b.levels1;
  levels2 = a.levels2 + b.levels2;
  latches = a.latches + b.latches;
  resets = a.resets + b.resets;
  sum = a.sum + b.sum;
}
