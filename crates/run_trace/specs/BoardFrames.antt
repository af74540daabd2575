-- The frames of a run of the lockstep board. They are this project's own.
use Rattle.std.specs.Prelude.{◌≡◌, ℕ, ◌+◌, List, ◌++◌, length, map}
use Rattle.std.specs.List.{range_with_len, sum_by}
use Rattle.tape_ports.specs.declared.entry.TapeEntry.{TapeEntry}
use Rattle.lockstep_board.specs.Order.{HasNoRecords}
use Rattle.lockstep_board.specs.Lockstep.{Board}
use Rattle.lockstep_board.specs.Run.{boundary_steps, to_boundary}
use Rattle.catchup_engine.specs.Trace.{accesses_of}
use Rattle.catchup_engine.specs.Starts.{marks_of}
use Rattle.frame_list.specs.Events.{Event, by_clock}
use Rattle.frame_list.specs.Frames.{FrameValue, started, frames_of, frames_text}
use Rattle.frame_list.specs.InFrames.{frame_at}
use Rattle.log_text.specs.LogText.{last_text}

-- the clocks of the writes that start the generator, among all accesses of a run to a boundary
unfoldable pub run_marks : List TapeEntry → ℕ → Board → List ℕ
run_marks entries limit b = marks_of (accesses_of entries (boundary_steps entries limit b) b)

-- its strokes and these marks in one list by clock
unfoldable pub run_events : List TapeEntry → ℕ → Board → List Event
run_events entries limit b = by_clock (to_boundary entries limit b).peripherals.strokes (run_marks entries limit b)

-- the frames of the run: the first begins where it begins, and each mark begins the next
unfoldable pub run_frames : List TapeEntry → ℕ → Board → List FrameValue
run_frames entries limit b = frames_of (started 0 b.peripherals.clock) (run_events entries limit b)

-- their lines, and then the last line of the run
unfoldable pub framed_text : List TapeEntry → ℕ → Board → List ℕ
framed_text entries limit b =
    let last = to_boundary entries limit b in
    frames_text (run_frames entries limit b) ++ last_text last.peripherals.clock last.cpu.pc last.cpu.jam

-- Each stroke of a run from a board without records is in one of its frames: the numbers of strokes
-- of all frames add up to the strokes of the run.
abbrev pub AllStrokesAreCounted : List TapeEntry → ℕ → Board → Type 0
AllStrokesAreCounted entries limit b =
    HasNoRecords b → sum_by (λ f. f.strokes) (run_frames entries limit b) ≡ length (to_boundary entries limit b).peripherals.strokes

-- The frames of a run from a board without records: one more than the marks, and each with exactly
-- the strokes of the run that are above its mark and up to the next one.
abbrev pub FramesHaveTheirStrokes : List TapeEntry → ℕ → Board → Type 0
FramesHaveTheirStrokes entries limit b =
    HasNoRecords b
    → run_frames entries limit b
    ≡ map (frame_at b.peripherals.clock (to_boundary entries limit b).peripherals.strokes (run_marks entries limit b)) (range_with_len 0 (length (run_marks entries limit b) + 1))
