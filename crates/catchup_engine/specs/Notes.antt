-- What a turn did, as a tracer gets it: how many of its accesses reach a device, and the clocks of
-- those that start the generator. This project's own.
use Rattle.std.specs.Prelude.{◌≡◌, ℕ, ◌+◌, ◌-◌, ◌<◌, ◌≤◌, List, [], ◌∷◌, ◌++◌, length, take, if◌then◌else◌}
use Rattle.std.specs.Int.{from_bool}
use Rattle.std.specs.List.{count_by}
use Rattle.board_base.specs.declared.cpu.Sequence.{Sequence}
use Rattle.cpu_core.specs.BusCycles as cycles
use Rattle.tape_ports.specs.declared.entry.TapeEntry.{TapeEntry}
use Rattle.tape_ports.specs.Tape.{TapeValue}
use Rattle.lockstep_board.specs.Budget.{reaches_device}
use Rattle.catchup_engine.specs.declared.trace.Access.{Access}
use Rattle.catchup_engine.specs.Bus.{BusStep, BusValue}
use Rattle.catchup_engine.specs.Horizon.{KeepsLines}
use Rattle.catchup_engine.specs.Quiet.{IsCounted, passed, quiet_room}
use Rattle.catchup_engine.specs.Starts.{marks_of, starts_generator}
use Rattle.catchup_engine.specs.Trace.{TraceValue, access_at, made_of}

-- of some accesses, the number of those that reach a device, and the clocks of those that start the
-- generator
pub record ReachedValue : Type 0 where
  pub accesses : ℕ
  pub starts : List ℕ

-- those of no access
abbrev pub nothing_reached : ReachedValue
nothing_reached = record { accesses = 0; starts = [] }

-- those of some accesses
abbrev pub reached_by : List Access → ReachedValue
reached_by accesses = record {
  accesses = count_by (λ access. reaches_device (made_of access)) accesses;
  starts = marks_of accesses;
}

-- and with one access more
abbrev pub with_reached : ReachedValue → Access → ReachedValue
with_reached r access = record {
  accesses = r.accesses + from_bool (reaches_device (made_of access));
  starts = if starts_generator access then r.starts ++ access.clock ∷ [] else r.starts;
}

-- the sequence, its opcode, its clocks, and what its accesses reach
pub record NoteValue : Type 0 where
  pub sequence : Sequence
  pub opcode : ℕ
  pub clocks : ℕ
  pub reached : ReachedValue

-- a turn has no more than seven clocks
pub record IsNote (n : NoteValue) : Type 0 where
  pub clocks : n.clocks ≤ 7

-- the note of a trace
abbrev pub note_of : TraceValue → NoteValue
note_of trace = record {
  sequence = trace.sequence;
  opcode = trace.opcode;
  clocks = trace.count;
  reached = reached_by (take trace.count trace.accesses);
}

-- a bus, and what of its accesses was noted
pub record NotedValue : Type 0 where
  pub bus : BusValue
  pub reached : ReachedValue

abbrev pub noting : BusValue → ReachedValue → NotedValue
noting bus reached = record { bus = bus; reached = reached }

-- an access is made, and noted with its clock
pub record NotedStep (entries : List TapeEntry) (x : cycles.Access) (s t : NotedValue) : Type 0 where
  pub step : BusStep entries x s.bus t.bus
  pub reached : t.reached ≡ with_reached s.reached (access_at (t.bus.peripherals.clock - 1) x)

-- an access can be noted over a bus that hasn't got so many clocks yet
pub record CanNote (tape : TapeValue) (elapsed : ℕ) (s : BusValue) (r : ReachedValue) : Type 0 where
  pub accepts : IsCounted tape elapsed s
  pub room : 1 ≤ quiet_room elapsed s
  pub accesses : r.accesses ≤ s.peripherals.clock + elapsed
  pub starts : length r.starts < 7

-- the bus got these clocks and one more, in which the access was made, and it is noted
pub record IsNoted (tape : TapeValue) (elapsed : ℕ) (x : cycles.Access) (s t : BusValue) (r more : ReachedValue) : Type 0 where
  pub lines : KeepsLines s t
  pub noted : NotedStep tape.entries x (noting (passed elapsed s) r) (noting (passed 0 t) more)
  pub accepts : IsCounted tape 0 t
  pub room : quiet_room elapsed s ≤ quiet_room 0 t + 1
  pub accesses : more.accesses ≤ t.peripherals.clock
