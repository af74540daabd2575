-- What a board's clocks access, as a trace has it.
use Rattle.std.specs.Prelude.{◌≡◌, ℕ, ◌+◌, ◌-◌, ◌≤◌, List, [], ◌∷◌, ◌++◌, length, drop, slice_index, slice_set, Option, Some, None, IfSome, false, true, if◌then◌else◌, zero, suc}
use Rattle.board_base.specs.Cpu.{CpuValue}
use Rattle.board_base.specs.Mid.{MidValue}
use Rattle.board_base.specs.declared.cpu.Sequence.{Sequence}
use Rattle.board_base.specs.declared.cpu.Sequence.TheVariants.{Opcode, Interrupt, Reset}
use Rattle.cpu_core.specs.BusCycles as cycles
use Rattle.cpu_core.specs.BusCycles.{read_of, write_of}
use Rattle.cpu_core.specs.Places.{given_by, Advances}
use Rattle.cpu_core.specs.Registers.{registers_of}
use Rattle.cpu_core.specs.Sequences.{start_of}
use Rattle.tape_ports.specs.declared.entry.TapeEntry.{TapeEntry}
use Rattle.catchup_engine.specs.declared.trace.Access.{Access}
use Rattle.catchup_engine.specs.Bus.{BusStep, BusValue, Does, at_clock}
use Rattle.lockstep_board.specs.Lockstep.{Board, access_in, sequence_due, step}
use Rattle.lockstep_board.specs.Run.{boundary_steps, is_jammed}
use Rattle.lockstep_board.specs.Peripherals.{Peripherals, reset_started, ticked}

-- the sequence, its opcode, the number of its accesses, and seven accesses of which the first are
-- those made
pub record TraceValue : Type 0 where
  pub sequence : Sequence
  pub opcode : ℕ
  pub count : ℕ
  pub accesses : List Access

-- a sequence has no more than seven accesses
pub record IsTrace (t : TraceValue) : Type 0 where
  pub count : t.count ≤ 7
  pub accesses : length t.accesses ≡ 7

-- no access
abbrev pub no_access : Access
no_access = record { clock = 0; addr = 0; value = 0; write = false }

-- these accesses, and then none, seven in all
abbrev pub seven_of : List Access → List Access
seven_of made =
    made ++ drop (length made) (no_access ∷ no_access ∷ no_access ∷ no_access ∷ no_access ∷ no_access ∷ no_access ∷ [])

-- an access in a clock
abbrev pub access_at : ℕ → cycles.Access → Access
access_at clock (read_of address value) = record { clock = clock; addr = address; value = value; write = false }
access_at clock (write_of address value) = record { clock = clock; addr = address; value = value; write = true }

-- the access that it records
abbrev pub made_of : Access → cycles.Access
made_of access = if access.write then write_of access.addr access.value else read_of access.addr access.value

-- the access that the next clock of a board makes
abbrev pub accesses_in : ℕ → Option cycles.Access → List Access
accesses_in clock None = []
accesses_in clock (Some access) = access_at clock access ∷ []

-- the accesses of n clocks
unfoldable pub accesses_of : List TapeEntry → ℕ → Board → List Access
accesses_of entries zero b = []
accesses_of entries (suc n) b = accesses_in b.peripherals.clock (access_in entries b) ++ accesses_of entries n (step entries b)

-- the byte of an access
abbrev pub byte_of : Option cycles.Access → ℕ
byte_of None = 0
byte_of (Some (read_of address value)) = value
byte_of (Some (write_of address value)) = value

-- the sequence that the next clock of a board belongs to, and the byte of its first access
abbrev pub sequence_at : Option MidValue → CpuValue → Peripherals → Sequence
sequence_at None c w = sequence_due c w
sequence_at (Some mid) c w = mid.sequence

abbrev pub first_byte : Option MidValue → Option cycles.Access → ℕ
first_byte None access = byte_of access
first_byte (Some mid) access = slice_index mid.bytes 0

-- the opcode of a sequence by its first byte; an interrupt and a reset have none
abbrev pub opcode_by : Sequence → ℕ → ℕ
opcode_by Opcode byte = byte
opcode_by Interrupt byte = 0
opcode_by Reset byte = 0

-- the trace of n clocks of one sequence
unfoldable pub trace_of : List TapeEntry → ℕ → Board → TraceValue
trace_of entries n b =
    let q = sequence_at b.cpu.mid b.cpu (ticked entries b.peripherals) in
    record {
      sequence = q;
      opcode = opcode_by q (first_byte b.cpu.mid (access_in entries b));
      count = n;
      accesses = seven_of (accesses_of entries n b);
    }

abbrev pub no_trace : TraceValue
no_trace = record { sequence = Opcode; opcode = 0; count = 0; accesses = seven_of [] }

-- the trace of what is left of the sequence under way, or else of the next one; a board that is
-- jammed does nothing
unfoldable pub step_trace : List TapeEntry → Board → TraceValue
step_trace entries b =
    if is_jammed b then no_trace else trace_of entries (boundary_steps entries (b.peripherals.clock + 1) b) b

-- the byte of the first of some accesses
abbrev pub first_value : List Access → ℕ
first_value [] = 0
first_value (first ∷ others) = first.value

-- a bus, and the trace of the accesses that it made
pub record TracedValue : Type 0 where
  pub bus : BusValue
  pub trace : TraceValue

abbrev pub traced : BusValue → TraceValue → TracedValue
traced bus trace = record { bus = bus; trace = trace }

-- a trace with one access more
abbrev pub pushed : TraceValue → Access → TraceValue
pushed trace access = record trace { count = trace.count + 1; accesses = slice_set trace.accesses trace.count access }

-- an access is made, and traced with its clock
abbrev pub TracedStep : List TapeEntry → cycles.Access → TracedValue → TracedValue → Type 0
TracedStep entries x s t =
    BusStep entries x s.bus t.bus × (t.trace ≡ pushed s.trace (access_at (t.bus.peripherals.clock - 1) x))

-- a whole reset over a bus whose clock is open, with its trace: its read, then its effects in that
-- clock, and then the rest of its accesses
pub record TracedReset (entries : List TapeEntry) (c : CpuValue) (s : BusValue) (t : TracedValue) (e : CpuValue) : Type 0 where
  pub read : TracedValue
  pub inside : CpuValue
  pub begins : (made : ℕ) × Advances (TracedStep entries) (start_of Reset c) Reset [] 1 made (traced s no_trace) read inside
  pub taken : BusValue
  pub effects : Does read.bus taken (at_clock read.bus.peripherals.clock (reset_started (at_clock (read.bus.peripherals.clock - 1) read.bus.peripherals))) 4
  pub rest : IfSome inside.mid (λ m. (made : ℕ) × Advances (TracedStep entries) (registers_of inside) m.sequence (given_by m) 6 made (traced taken read.trace) t e)
