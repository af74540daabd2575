-- Instructions that a tracer takes together. This project's own.
use Rattle.std.specs.Prelude.{◌≡◌, ℕ, ◌+◌, ◌-◌, ◌≤◌, Bool, true, false, List, []}
use Rattle.board_base.specs.declared.cpu.Sequence.TheVariants.{Opcode}
use Rattle.tape_ports.specs.declared.entry.TapeEntry.{TapeEntry}
use Rattle.lockstep_board.specs.Lockstep.{Board}
use Rattle.lockstep_board.specs.Peripherals.{Peripherals, byte_read}
use Rattle.catchup_engine.specs.Notes.{NoteValue, ReachedValue, note_of}
use Rattle.catchup_engine.specs.Trace.{TraceValue}
use Rattle.catchup_engine.specs.Traced.{NotedTurns}

-- the trace of an instruction that has one of these opcodes
pub record IsPlain (plain : ℕ → Bool) (trace : TraceValue) : Type 0 where
  pub sequence : trace.sequence ≡ Opcode
  pub opcode : plain trace.opcode ≡ true
  pub some : 1 ≤ trace.count

-- the note of an instruction with this opcode, in so many clocks, whose accesses reached this
abbrev pub opcode_note : ℕ → ℕ → ReachedValue → NoteValue
opcode_note opcode clocks reached = record { sequence = Opcode; opcode = opcode; clocks = clocks; reached = reached }

module _ {T : Type 0} (next : T → TraceValue → ℕ → T) (enough : T → Bool) (after_plain : T → ℕ → ℕ → List ℕ → T) where
  -- To take such instructions together is to take each of them. While none has started the
  -- generator, the tracer doesn't have enough.
  pub record TakesTogether (plain : ℕ → Bool) : Type 0 where
    pub first : (w : T) (trace : TraceValue) (pc : ℕ) → IsPlain plain trace
        → next w trace pc ≡ after_plain w trace.count (note_of trace).reached.accesses (note_of trace).reached.starts
    pub more : (w : T) (clocks accesses : ℕ) (trace : TraceValue) (pc : ℕ) → IsPlain plain trace
        → next (after_plain w clocks accesses []) trace pc
        ≡ after_plain w (clocks + trace.count) (accesses + (note_of trace).reached.accesses) (note_of trace).reached.starts
    pub goes_on : (w : T) (clocks accesses : ℕ) → enough (after_plain w clocks accesses []) ≡ false

  -- from b one instruction leads to c, by which a tracer that was w becomes v
  pub record OneNoted (b c : Board) (reached : ReachedValue) (w v : T) : Type 0 where
    pub trace : TraceValue
    pub note : (opcode : ℕ) → ((k : Peripherals) → k.ram ≡ b.peripherals.ram → k.program ≡ b.peripherals.program → opcode ≡ byte_read b.cpu.pc k)
        → opcode_note opcode (c.peripherals.clock - b.peripherals.clock) reached ≡ note_of trace
    pub tracer : v ≡ next w trace c.cpu.pc
    pub few : c.peripherals.clock - b.peripherals.clock ≤ 7

  -- From b some turns lead to c, whose accesses reached this, and a tracer that was w and gets each of
  -- them is v then. It may take them together, or else it is one instruction.
  pub record NotedRun (entries : List TapeEntry) (limit : ℕ) (together : Bool) (b c : Board) (reached : ReachedValue) (w : T) : Type 0 where
    pub v : T
    pub turns : NotedTurns next enough entries limit b c w v (enough v)
    pub plain : together ≡ true → v ≡ after_plain w (c.peripherals.clock - b.peripherals.clock) reached.accesses reached.starts
    pub single : together ≡ false → OneNoted b c reached w v
