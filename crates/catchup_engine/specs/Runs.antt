-- A run of the processor over the bus.
use Rattle.std.specs.Prelude.{◌≡◌, ℕ, ◌+◌, ◌-◌, ◌≤◌, ◌<◌, ◌⊎◌, ◌||◌, Bool, not, List, [], length, true, false, None, IsSome}
use Rattle.board_base.specs.declared.board.TheConstants.{CLOCK_LIMIT}
use Rattle.board_base.specs.declared.divider.TheConstants.{DIVIDER_PERIOD}
use Rattle.board_base.specs.Cpu.{CpuValue}
use Rattle.tape_ports.specs.declared.entry.TapeEntry.{TapeEntry}
use Rattle.tape_ports.specs.Tape.{TapeValue}
use Rattle.lockstep_board.specs.Lockstep.{Board}
use Rattle.lockstep_board.specs.Run.{is_over, is_cut, to_boundary, to_cut, boundary_steps, cut_steps}
use Rattle.lockstep_board.specs.Breaks.{BreakRun}
use Rattle.lockstep_board.specs.Budget.{budget}
use Rattle.lockstep_board.specs.Steps.{StepsTo}
use Rattle.catchup_engine.specs.declared.bus.TheConstants.{TRAIL_ROOM}
use Rattle.catchup_engine.specs.Bus.{Accepts, BusValue, room_of}
use Rattle.catchup_engine.specs.StopConditions.{ConditionsValue, asks_generator, stops_at}
use Rattle.catchup_engine.specs.Trace.{TraceValue}
use Rattle.catchup_engine.specs.Traced.{TracedRun}
use Rattle.catchup_engine.specs.Turn.{Goes, reads_opcode}

-- the board that a processor and a bus represent
abbrev pub over_bus : CpuValue → BusValue → Board
over_bus c s = record { cpu = c; peripherals = s.peripherals }

-- a processor inside a sequence is no later than the greatest clock, and else a little at most
pub record IsInRange (c : CpuValue) (s : BusValue) : Type 0 where
  pub clock : s.peripherals.clock ≤ CLOCK_LIMIT + 16
  pub middle : IsSome c.mid → s.peripherals.clock ≤ CLOCK_LIMIT

-- from the processor c and the bus s some steps have led to e and t, none of them from a board that
-- is as asked; where no device is called to look at a boundary, the calls are within their budget
pub record RunsOn (entries : List TapeEntry) (asked : Board → Bool) (looks : Bool) (c : CpuValue) (s t : BusValue) (e : CpuValue) : Type 0 where
  pub count : ℕ
  pub reached : StepsTo entries asked count (over_bus c s) (over_bus e t)
  pub clock : t.peripherals.clock ≡ s.peripherals.clock + count
  pub written : length t.peripherals.written ≤ length s.peripherals.written + count
  pub paid : looks ≡ false → t.calls ≤ s.calls + budget entries count (over_bus c s)
  pub goes : Goes s t

-- there is room for the clocks up to a limit, and those of a turn that begins before it
abbrev pub HasRoomTo : ℕ → BusValue → Type 0
HasRoomTo limit s = limit + 8 ≤ s.peripherals.clock + room_of s

-- Turns up to a limit can begin here: the processor is in range, no clock is open, there is room for
-- their records, and the bus accepts the tape.
pub record CanTakeTurns (limit : ℕ) (tape : TapeValue) (c : CpuValue) (s : BusValue) : Type 0 where
  pub within : limit ≤ CLOCK_LIMIT
  pub range : IsInRange c s
  pub between : s.clock_open ≡ false
  pub room : HasRoomTo limit s
  pub accepts : Accepts tape s

-- A run to a limit, or to a wrap of the divider, can begin here: nothing is recorded yet, and each
-- trail has room for the records of a window.
pub record CanRun (limit wrap : ℕ) (tape : TapeValue) (c : CpuValue) (s : BusValue) : Type 0 where
  pub within : limit ≤ CLOCK_LIMIT
  pub window : wrap ≤ s.peripherals.clock + DIVIDER_PERIOD
  pub range : IsInRange c s
  pub between : s.clock_open ≡ false
  pub until : s.peripherals.clock + TRAIL_ROOM ≤ s.until
  pub written : s.peripherals.written ≡ []
  pub accepts : Accepts tape s

-- turns begin before a limit, and end within six clocks after it
pub record IsNear (limit : ℕ) (s t : BusValue) : Type 0 where
  pub before : s.peripherals.clock < limit
  pub within : t.peripherals.clock ≤ limit + 6

-- From c and s whole turns led to e and t, none of them from a board at which a run to this limit
-- is over. A run to a break that had come to c goes on to e.
pub record TurnsOn (entries : List TapeEntry) (limit : ℕ) (stops : ConditionsValue) (c : CpuValue) (s t : BusValue) (e : CpuValue) : Type 0 where
  pub run : RunsOn entries (is_over limit) (asks_generator stops) c s t e
  pub near : (t.peripherals.clock ≡ s.peripherals.clock) ⊎ IsNear limit s t
  pub turns : (b : Board) → BreakRun entries limit (stops_at stops) b (over_bus c s) → BreakRun entries limit (stops_at stops) b (over_bus e t)
  pub boundary : e.mid ≡ None
  pub range : IsInRange e t

-- and have come as far as they can: such a run is over, or stops here, or the
-- next fetch reads no opcode, or an event is due in the clocks of its sequence
pub record QuietRun (entries : List TapeEntry) (limit : ℕ) (stops : ConditionsValue) (c : CpuValue) (s t : BusValue) (e : CpuValue) : Type 0 where
  pub on : TurnsOn entries limit stops c s t e
  pub ends : (is_over limit (over_bus e t) || stops_at stops (over_bus e t)) || not (reads_opcode e t) ≡ true

-- neither is such a run over nor does it stop here, and the next fetch reads an
-- opcode in whose clocks no event is due
pub record GoesOn (limit : ℕ) (stops : ConditionsValue) (c : CpuValue) (s : BusValue) : Type 0 where
  pub open_yet : is_over limit (over_bus c s) || stops_at stops (over_bus c s) ≡ false
  pub reads : reads_opcode c s ≡ true

-- and have come to where such a run is over, or stops
pub record TurnsRun (entries : List TapeEntry) (limit : ℕ) (stops : ConditionsValue) (c : CpuValue) (s t : BusValue) (e : CpuValue) : Type 0 where
  pub on : TurnsOn entries limit stops c s t e
  pub ends : is_over limit (over_bus e t) || stops_at stops (over_bus e t) ≡ true

-- from the processor c and the bus s a run to a boundary led to e and t
pub record BoundaryRun (entries : List TapeEntry) (limit : ℕ) (c : CpuValue) (s t : BusValue) (e : CpuValue) : Type 0 where
  pub board : over_bus e t ≡ to_boundary entries limit (over_bus c s)
  pub over : is_over limit (over_bus e t) ≡ true
  pub boundary : e.mid ≡ None
  pub paid : t.calls ≤ s.calls + budget entries (boundary_steps entries limit (over_bus c s)) (over_bus c s)
  pub goes : Goes s t
  pub range : IsInRange e t
  pub later : s.peripherals.clock ≤ t.peripherals.clock

-- and one to a clock or a window's end
pub record CutRun (entries : List TapeEntry) (cut wrap : ℕ) (c : CpuValue) (s t : BusValue) (e : CpuValue) : Type 0 where
  pub board : over_bus e t ≡ to_cut entries cut wrap (over_bus c s)
  pub over : is_cut cut wrap (over_bus e t) ≡ true
  pub paid : t.calls ≤ s.calls + budget entries (cut_steps entries cut wrap (over_bus c s)) (over_bus c s)
  pub goes : Goes s t
  pub range : IsInRange e t
  pub later : s.peripherals.clock ≤ t.peripherals.clock

-- and one that stops where a stop says, a turn at least
pub record BreakRunBus (entries : List TapeEntry) (limit : ℕ) (stops : ConditionsValue) (c : CpuValue) (s t : BusValue) (e : CpuValue) : Type 0 where
  pub turns : BreakRun entries limit (stops_at stops) (over_bus c s) (over_bus e t)
  pub ends : is_over limit (over_bus e t) || stops_at stops (over_bus e t) ≡ true
  pub boundary : e.mid ≡ None
  pub paid : asks_generator stops ≡ false → t.calls ≤ s.calls + budget entries (t.peripherals.clock - s.peripherals.clock) (over_bus c s)
  pub goes : Goes s t
  pub range : IsInRange e t
  pub since : s.peripherals.clock ≤ t.peripherals.clock
  pub later : c.jam ≡ None → s.peripherals.clock < t.peripherals.clock

-- and one whose turns are passed to a tracer that was w and is v then
pub record TracedBusRun {T : Type 0} (next : T → TraceValue → ℕ → T) (enough : T → Bool) (entries : List TapeEntry) (limit : ℕ) (c : CpuValue) (s t : BusValue) (e : CpuValue) (w v : T) : Type 0 where
  pub turns : TracedRun next enough entries limit (over_bus c s) (over_bus e t) w v
  pub boundary : e.mid ≡ None
  pub paid : t.calls ≤ s.calls + budget entries (t.peripherals.clock - s.peripherals.clock) (over_bus c s)
  pub goes : Goes s t
  pub range : IsInRange e t
  pub later : s.peripherals.clock ≤ t.peripherals.clock
