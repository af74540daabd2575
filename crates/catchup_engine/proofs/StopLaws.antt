-- Looks at a boundary: what they leave, and what stays of a run.
use Rattle.std.proofs.Common.{◌≡◌, ℕ, ◌+◌, Bool, false, not, ◌&&◌, ◌||◌, List, [], ◌∷◌, Option, Some, None, is_some, inl, inr, refl, ap, ◌∙◌, arith}
use Rattle.std.specs.List.{list_any}
use Rattle.board_base.specs.Cpu.{CpuValue}
use Rattle.board_map.specs.declared.map.Reads.{Reads}
use Rattle.board_map.specs.declared.map.Reads.TheVariants as reads
use Rattle.board_map.specs.Map.{row_of}
use Rattle.tape_ports.specs.declared.entry.TapeEntry.{TapeEntry}
use Rattle.tape_ports.specs.Tape.{TapeValue}
use Rattle.lockstep_board.specs.Memory.{memory_byte, memory_in}
use Rattle.lockstep_board.specs.Peripherals.{Peripherals}
use Rattle.lockstep_board.specs.Run.{is_over}
use Rattle.catchup_engine.specs.declared.stop_conditions.WatchedByte.{WatchedByte}
use Rattle.catchup_engine.specs.Bus.{Accepts, BusValue, Looked}
use Rattle.catchup_engine.specs.Quiet.{IsCounted, later, passed}
use Rattle.catchup_engine.specs.Runs.{IsInRange, TurnsOn, over_bus}
use Rattle.catchup_engine.specs.StopConditions.{ConditionsValue, asks_generator, has_changed, stops_at}
use Rattle.catchup_engine.specs.Turn.{reads_opcode}
use Rattle.catchup_engine.proofs.QuietLaws.{passed-zero}

-- a look leaves the board
pub looked-board : (asked : Bool) (t u : BusValue) → Looked asked t u → u.peripherals ≡ t.peripherals
looked-board asked t u looked = ap (λ (b : BusValue). b.peripherals) looked.value

pub looked-clock : (asked : Bool) (t u : BusValue) → Looked asked t u → u.peripherals.clock ≡ t.peripherals.clock
looked-clock asked t u looked = ap (λ w. w.clock) (looked-board asked t u looked)

pub looked-accepts : (asked : Bool) (tape : TapeValue) (t u : BusValue) → Looked asked t u → Accepts tape t → Accepts tape u
looked-accepts asked tape t u looked accepts =
    let pos : u.tape_pos ≡ t.tape_pos = ap (λ (b : BusValue). b.tape_pos) looked.value in
    let event : u.event_at ≡ t.event_at = ap (λ (b : BusValue). b.event_at) looked.value in
    record {
      valid = accepts.valid;
      place = rw (looked-board asked t u looked, pos) accepts.place;
      no_event = rw (event, pos) accepts.no_event;
    }

pub looked-range : (asked : Bool) (c : CpuValue) (t u : BusValue) → Looked asked t u → IsInRange c t → IsInRange c u
looked-range asked c t u looked range =
    let same = looked-board asked t u looked in
    record { clock = rw same range.clock; middle = rw same range.middle }

-- turns stay what they were
pub turns-looked : (entries : List TapeEntry) (limit : ℕ) (stops : ConditionsValue) (c : CpuValue) (s t u : BusValue) (e : CpuValue)
    → TurnsOn entries limit stops c s t e → Looked (asks_generator stops) t u → TurnsOn entries limit stops c s u e
turns-looked entries limit stops c s t u e on looked =
    let same = looked-board (asks_generator stops) t u looked in
    record {
      run = record {
        count = on.run.count;
        reached = rw same on.run.reached;
        clock = rw same on.run.clock;
        written = rw same on.run.written;
        paid = λ free. (let calls : u.calls ≡ t.calls = ap (λ (b : BusValue). b.calls) (looked.same free) in let paid = on.run.paid free in omega arith);
        goes = record {
          more = omega arith;
          rooms = ap (λ (b : BusValue). b.rooms) looked.value ∙ on.run.goes.rooms;
          until = omega arith;
          between = ap (λ (b : BusValue). b.clock_open) looked.value ∙ on.run.goes.between;
        };
      };
      near = elim on.near [
        | inl none ↦ inl (rw same none)
        | inr near ↦ inr (record { before = near.before; within = rw same near.within })
      ];
      turns = λ b run. rw same (on.turns b run);
      boundary = on.boundary;
      range = looked-range (asks_generator stops) e t u looked on.range;
    }

-- the clocks counted are the board's before it
pub counted-looked : (asked : Bool) (tape : TapeValue) (n : ℕ) (s t : BusValue) → Looked asked (passed n s) t → IsCounted tape n s → IsCounted tape 0 t
unfolding passed later
counted-looked asked tape n s t looked counted =
    let clock : t.peripherals.clock ≡ s.peripherals.clock + n = ap (λ w. w.clock) (looked-board asked (passed n s) t looked) in
    let event : t.event_at ≡ s.event_at = ap (λ (b : BusValue). b.event_at) looked.value in
    record {
      accepts = rw (passed-zero t) (looked-accepts asked tape (passed n s) t looked counted.accepts);
      between = ap (λ (b : BusValue). b.clock_open) looked.value ∙ counted.between;
      no_event = omega arith;
      last = omega arith;
      until = omega arith;
    }

-- where the memories are the same, so are their bytes
memory-same : (reads : Reads) (k : ℕ) (v w : Peripherals) → v.ram ≡ w.ram → v.memory ≡ w.memory → v.program ≡ w.program → memory_in reads k v ≡ memory_in reads k w
memory-same reads.Ram k v w ram memory program = rw ram refl
memory-same reads.VectorRam k v w ram memory program = rw memory refl
memory-same reads.VectorRom k v w ram memory program = rw memory refl
memory-same reads.ProgramRom k v w ram memory program = rw program refl
memory-same _ k v w ram memory program = refl

byte-same : (a : ℕ) (v w : Peripherals) → v.ram ≡ w.ram → v.memory ≡ w.memory → v.program ≡ w.program → memory_byte a v ≡ memory_byte a w
unfolding memory_byte
byte-same a v w ram memory program = memory-same (row_of a).reads (row_of a).offset v w ram memory program

-- and no watched one has changed in one alone
pub changed-same : (bytes : List WatchedByte) (v w : Peripherals) → v.ram ≡ w.ram → v.memory ≡ w.memory → v.program ≡ w.program
    → list_any (has_changed v) bytes ≡ list_any (has_changed w) bytes
changed-same [] v w ram memory program = refl
changed-same (x ∷ xs) v w ram memory program = rw (byte-same x.address v w ram memory program, changed-same xs v w ram memory program) refl

-- clocks change no memory, and nothing of the processor
pub stops-passed : (stops : ConditionsValue) (n : ℕ) (c : CpuValue) (s : BusValue) → stops.halted ≡ None
    → stops_at stops (over_bus c (passed n s)) ≡ stops_at stops (over_bus c s)
unfolding passed later
stops-passed stops n c s none = rw (none, changed-same stops.bytes (passed n s).peripherals s.peripherals refl refl refl) refl

pub none-is : (was : Option Bool) → is_some was ≡ false → was ≡ None
none-is None e = refl
none-is (Some halted) e = cc

pub looked-none : (asked : Bool) (s : BusValue) → Looked asked s s
looked-none asked s = record { value = refl; until = omega arith; more = omega arith; same = λ free. refl }

-- the next fetch reads an opcode as before
pub reads-looked : (asked : Bool) (c : CpuValue) (t u : BusValue) → Looked asked t u → reads_opcode c u ≡ reads_opcode c t
unfolding reads_opcode
reads-looked asked c t u looked =
    let event : u.event_at ≡ t.event_at = ap (λ (b : BusValue). b.event_at) looked.value in
    rw (looked-board asked t u looked, event) refl

-- and so does a run end, or go on, as before
pub ends-looked : (asked : Bool) (limit : ℕ) (stops : ConditionsValue) (c : CpuValue) (t u : BusValue) → Looked asked t u
    → is_over limit (over_bus c u) || stops_at stops (over_bus c u) ≡ is_over limit (over_bus c t) || stops_at stops (over_bus c t)
ends-looked asked limit stops c t u looked = rw (looked-board asked t u looked) refl

pub goes-looked : (asked : Bool) (limit : ℕ) (stops : ConditionsValue) (c : CpuValue) (t u : BusValue) → Looked asked t u
    → (not (is_over limit (over_bus c u) || stops_at stops (over_bus c u)) && reads_opcode c u)
    ≡ (not (is_over limit (over_bus c t) || stops_at stops (over_bus c t)) && reads_opcode c t)
goes-looked asked limit stops c t u looked = rw (reads-looked asked c t u looked, looked-board asked t u looked) refl
