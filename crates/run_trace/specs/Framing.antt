-- Frames as an observer of a run. This project's own.
use Rattle.std.specs.Prelude.{◌≡◌, ℕ, ◌+◌, ◌<◌, ◌≤◌, ◌^◌, ◌==◌, Bool, not, true, List, [], length, IsSome, refl}
use Rattle.board_base.specs.declared.board.TheConstants.{CLOCK_LIMIT}
use Rattle.tape_ports.specs.declared.entry.TapeEntry.{TapeEntry}
use Rattle.lockstep_board.specs.Order.{cleared, Recorded}
use Rattle.lockstep_board.specs.Lockstep.{Board}
use Rattle.catchup_engine.specs.Trace.{TraceValue}
use Rattle.catchup_engine.specs.Starts.{marks_in}
use Rattle.catchup_engine.specs.Together.{TakesTogether}
use Rattle.frame_list.specs.Events.{Event, by_clock}
use Rattle.frame_list.specs.Frames.{FrameValue, ended, frames_text, under_way}
use Rattle.run_trace.specs.BoardFrames.{run_events}

-- the frame under way, and the marks of the last turn
pub record FramerValue : Type 0 where
  pub frames : FrameValue
  pub marks : List ℕ

-- a trace has no more than seven
pub record IsFramer (f : FramerValue) : Type 0 where
  pub marks : length f.marks ≤ 7

-- they are kept until the records are taken
abbrev pub framer_after_turn : FramerValue → TraceValue → ℕ → FramerValue
framer_after_turn f trace pc = record f { marks = marks_in trace }

-- turns taken together, of which the last has these
abbrev pub framer_after_plain : FramerValue → ℕ → ℕ → List ℕ → FramerValue
framer_after_plain f clocks accesses starts = record f { marks = starts }

abbrev pub keeps_marks : FramerValue → Bool
keeps_marks f = not (length f.marks == 0)

-- to take turns together is to take each of them
pub framed_together : TakesTogether framer_after_turn keeps_marks framer_after_plain (λ _. true)
framed_together = record { first = λ w trace pc is. refl; more = λ w clocks accesses trace pc is. refl; goes_on = λ w clocks accesses. refl }

-- No marks are kept yet, and the board stands where a run to the limit can go on, with six clocks
-- for the end of a sequence. The frame's number and its strokes are no more than the clocks done: a
-- clock adds one stroke and one mark at most.
pub record CanFrame (f : FramerValue) (limit : ℕ) (b : Board) : Type 0 where
  pub marks : f.marks ≡ []
  pub low : limit ≤ CLOCK_LIMIT
  pub clock : b.peripherals.clock ≤ CLOCK_LIMIT + 23
  pub inside : IsSome b.cpu.mid → b.peripherals.clock ≤ CLOCK_LIMIT + 16
  pub number : f.frames.number ≤ b.peripherals.clock
  pub strokes : f.frames.strokes ≤ b.peripherals.clock

-- so that neither comes to the end of its count
pub record HasNumbers (f : FramerValue) : Type 0 where
  pub number : f.frames.number < 2 ^ 62
  pub strokes : f.frames.strokes < 2 ^ 62

-- the strokes of a part and the marks that were kept, by clock
abbrev pub part_events : FramerValue → Recorded → List Event
part_events f records = by_clock records.strokes f.marks

-- the lines of the frames that end with them
abbrev pub part_framed : FramerValue → Recorded → List ℕ
part_framed f records = frames_text (ended f.frames (part_events f records))

-- and the framer after them
abbrev pub after_part : FramerValue → Recorded → FramerValue
after_part f records = record { frames = under_way f.frames (part_events f records); marks = [] }

-- the lines of the frames that end in a run, from a board whose records are forgotten
abbrev pub run_framed_text : FramerValue → List TapeEntry → ℕ → Board → List ℕ
run_framed_text f entries limit b = frames_text (ended f.frames (run_events entries limit (cleared b)))

-- and the framer after it
abbrev pub after_run : FramerValue → List TapeEntry → ℕ → Board → FramerValue
after_run f entries limit b = record f { frames = under_way f.frames (run_events entries limit (cleared b)) }
