-- The processor's accesses one by one: the next access, or the processor at the end, from the
-- registers at the start of a sequence and the bytes of its accesses so far.
use Rattle.std.specs.Prelude.{◌≡◌, ◌+◌, ◌%◌, ℕ, List, [], ◌∷◌, ◌++◌}
use Rattle.board_base.specs.Cpu.{CpuValue}
use Rattle.board_base.specs.declared.cpu.Sequence.{Sequence}
use Rattle.board_base.specs.declared.cpu.Sequence.TheVariants.{Opcode, Interrupt, Reset}
use Rattle.cpu_core.specs.declared.replay.Next.{Next}
use Rattle.cpu_core.specs.declared.replay.Next.TheVariants.{Read, Write, End}
use Rattle.cpu_core.specs.Registers.{RegistersValue, registers_of}
use Rattle.cpu_core.specs.BusCycles.{Access, read_of, write_of, BusCycles, finish, read, write}
use Rattle.cpu_core.specs.Operations.{masked}
use Rattle.cpu_core.specs.Patterns.{instruction_cycles, interrupt_cycles, reset_cycles}

-- the bus cycles of a sequence
abbrev pub cycles_of : RegistersValue → Sequence → BusCycles
cycles_of r Opcode = instruction_cycles r
cycles_of r Interrupt = interrupt_cycles r
cycles_of r Reset = reset_cycles r

-- the registers that a sequence starts from: a reset lowers S by 3 and masks interrupts
abbrev pub start_of : Sequence → CpuValue → RegistersValue
start_of Reset c = record (registers_of c) { s = (c.s + 253) % 256; p = masked c.p }
start_of _ c = registers_of c

-- the bus cycles that are left after these bytes
abbrev pub after : BusCycles → List ℕ → BusCycles
after c [] = c
after (finish e) (b ∷ bytes) = finish e
after (read a k) (b ∷ bytes) = after (k b) bytes
after (write a v c) (b ∷ bytes) = after c bytes

-- the first of the bus cycles, or the end
abbrev pub head_of : BusCycles → Next
head_of (finish e) = End e
head_of (read a k) = Read a
head_of (write a v c) = Write a v

-- what comes next, from the registers at the start, the sequence and the bytes so far; a byte that
-- was written changes nothing
unfoldable pub next_of : RegistersValue → Sequence → List ℕ → Next
next_of r q bytes = head_of (after (cycles_of r q) bytes)

-- the sequence is complete
abbrev pub IsEnd : Next → Type 0
IsEnd (End e) = Unit {0}
IsEnd _ = ⊥

-- the access that was made where this one was due, with its byte
abbrev pub IsAccess : Next → ℕ → Access → Type 0
IsAccess (Read a) v x = x ≡ read_of a v
IsAccess (Write a w) v x = (v ≡ w) × (x ≡ write_of a v)
IsAccess (End e) v x = ⊥

-- a bus moves from s to t by the accesses that come after the bytes so far, and by no others; they
-- give the bytes more
abbrev pub Moves : {S : Type 0} → (Access → S → S → Type 0) → RegistersValue → Sequence → List ℕ → List ℕ → S → S → Type 0
Moves step r q bytes [] s t = t ≡ s
Moves {S} step r q bytes (v ∷ more) s t =
    (x : Access) × (m : S) × IsAccess (next_of r q bytes) v x × step x s m
    × Moves step r q (bytes ++ v ∷ []) more m t

-- a bus moves from s to t by a whole sequence, which leaves the processor e
pub record Runs {S : Type 0} (step : Access → S → S → Type 0) (r : RegistersValue) (q : Sequence) (s t : S) (e : CpuValue) : Type 0 where
  pub bytes : List ℕ
  pub moves : Moves step r q [] bytes s t
  pub ends : next_of r q bytes ≡ End e
