-- A turn of the lockstep board: some steps, the first from anywhere and the others from inside a
-- sequence.
use Rattle.std.specs.Prelude.{◌≡◌, ℕ, ◌+◌, ◌-◌, ◌<◌, ◌≤◌, List, [], ◌∷◌, length, Bool, true, false, ◌&&◌, nat_le, None, IsSome, is_none, suc}
use Rattle.board_base.specs.declared.cpu.Sequence.{Sequence}
use Rattle.board_base.specs.declared.cpu.Sequence.TheVariants.{Opcode, Interrupt, Reset}
use Rattle.board_base.specs.Cpu.{CpuValue}
use Rattle.cpu_core.specs.Places.{Advances}
use Rattle.cpu_core.specs.Sequences.{Moves, start_of}
use Rattle.tape_ports.specs.declared.entry.TapeEntry.{TapeEntry}
use Rattle.tape_ports.specs.Tape.{TapeValue}
use Rattle.catchup_engine.specs.declared.bus.TheConstants.{MAX_SEQUENCE_CLOCKS}
use Rattle.lockstep_board.specs.Peripherals.{devices_ticked, reset_started}
use Rattle.lockstep_board.specs.Lockstep.{Board, sequence_due, step}
use Rattle.lockstep_board.specs.Budget.{budget}
use Rattle.lockstep_board.specs.Steps.{Through}
use Rattle.catchup_engine.specs.Bus.{Accepts, BusStep, BusValue, at_clock, room_of}

-- One step, and then as many through the inside of the sequence; with the bytes that came before
-- they are no more than a whole sequence has. Each makes one record on the board's trail at most,
-- and the device calls are within their budget.
pub record Turned (entries : List TapeEntry) (before : ℕ) (b last : Board) (calls calls_then : ℕ) : Type 0 where
  pub count : ℕ
  pub through : Through entries count (step entries b) last
  pub few : before + suc count ≤ MAX_SEQUENCE_CLOCKS
  pub clock : last.peripherals.clock ≡ b.peripherals.clock + suc count
  pub written : length last.peripherals.written ≤ length b.peripherals.written + suc count
  pub paid : calls_then ≤ calls + budget entries (suc count) b

-- what the bus keeps from one state to a later one
pub record Goes (s t : BusValue) : Type 0 where
  pub more : s.calls ≤ t.calls
  pub rooms : t.rooms ≡ s.rooms
  pub until : s.until ≤ t.until
  pub between : t.clock_open ≡ false

-- A turn of so many clocks at most can begin here: no clock is open, the bus accepts the tape, and
-- there is room for the turn's records.
pub record CanTurn (clocks : ℕ) (tape : TapeValue) (s : BusValue) : Type 0 where
  pub some : 1 ≤ clocks
  pub few : clocks ≤ MAX_SEQUENCE_CLOCKS
  pub between : s.clock_open ≡ false
  pub accepts : Accepts tape s
  pub room : clocks + 2 ≤ room_of s

-- a turn of the processor c over the bus s, in so many clocks at most; it stops inside a sequence
-- only where these are done
pub record TurnedBus (entries : List TapeEntry) (clocks : ℕ) (c : CpuValue) (s t : BusValue) (e : CpuValue) : Type 0 where
  pub before : ℕ
  pub turned : Turned entries before (record { cpu = c; peripherals = s.peripherals }) (record { cpu = e; peripherals = t.peripherals }) s.calls t.calls
  pub inside : IsSome c.mid → 1 ≤ before
  pub goes : Goes s t
  pub at_most : t.peripherals.clock ≤ s.peripherals.clock + clocks
  pub stops : IsSome e.mid → t.peripherals.clock ≡ s.peripherals.clock + clocks
  pub short : IsSome e.mid → before + t.peripherals.clock ≤ s.peripherals.clock + 6

-- the next fetch reads an opcode: no event is due in its clock, and after its ticks neither a reset
-- nor an interrupt is
pub record ReadsOpcode (c : CpuValue) (s : BusValue) : Type 0 where
  pub boundary : c.mid ≡ None
  pub no_event : s.peripherals.clock < s.event_at
  pub due : sequence_due c (devices_ticked s.peripherals) ≡ Opcode

-- a fetch begins an instruction
abbrev pub is_opcode : Sequence → Bool
is_opcode Opcode = true
is_opcode Interrupt = false
is_opcode Reset = false

-- the next fetch of a processor that isn't inside a sequence reads an opcode, and no event is due
-- in the clocks of a whole sequence
unfoldable pub reads_opcode : CpuValue → BusValue → Bool
reads_opcode c s =
    is_none c.mid && (nat_le (s.peripherals.clock + MAX_SEQUENCE_CLOCKS) s.event_at && is_opcode (sequence_due c (devices_ticked s.peripherals)))

-- A reset over a bus whose clock is open: its read, then its effects in that clock, and then the
-- rest of its accesses, in so many clocks at most.
pub record Resets (entries : List TapeEntry) (c : CpuValue) (clocks : ℕ) (s t : BusValue) (e : CpuValue) : Type 0 where
  pub value : ℕ
  pub read : BusValue
  pub moves : Moves (BusStep entries) (start_of Reset c) Reset [] (value ∷ []) s read
  pub taken : BusValue
  pub effects : taken.peripherals ≡ at_clock read.peripherals.clock (reset_started (at_clock (read.peripherals.clock - 1) read.peripherals))
  pub calls : taken.calls ≤ read.calls + 4
  pub goes : Goes read taken
  pub made : ℕ
  pub rest : Advances (BusStep entries) (start_of Reset c) Reset (value ∷ []) (clocks - 1) made taken t e
