-- Bus cycles: the accesses that are still to be made, each computed from the bytes seen so far.
use Rattle.std.specs.Prelude.{◌≡◌, ℕ, zero, suc, Some, None}
use Rattle.board_base.specs.Cpu.{CpuValue}

-- one bus access, which takes one clock: an address, and the byte read or written there
pub data Access : Type 0 where
  read_of : ℕ → ℕ → Access
  write_of : ℕ → ℕ → Access

-- the accesses still to be made, the later ones by the bytes of the earlier ones, and the processor
-- at the end
pub data BusCycles : Type 0 where
  finish : CpuValue → BusCycles
  read : ℕ → (ℕ → BusCycles) → BusCycles
  write : ℕ → ℕ → BusCycles → BusCycles

-- a bus goes from s to t by exactly these bus cycles, which leave the processor e
abbrev pub Performs : {S : Type 0} → (Access → S → S → Type 0) → BusCycles → S → S → CpuValue → Type 0
Performs step (finish c) s t e = (t ≡ s) × (e ≡ c)
Performs {S} step (read a k) s t e = (v : ℕ) × (m : S) × step (read_of a v) s m × Performs step (k v) m t e
Performs {S} step (write a v k) s t e = (m : S) × step (write_of a v) s m × Performs step k m t e

-- of the bus cycles c, started at s, the bus cycles d are left to do at t
abbrev pub Leads : {S : Type 0} → (Access → S → S → Type 0) → BusCycles → S → BusCycles → S → Type 0
Leads {S} step c s d t = (u : S) (e : CpuValue) → Performs step d t u e → Performs step c s u e

-- there are no more than n bus cycles, whatever the bytes are
abbrev pub AtMost : ℕ → BusCycles → Type 0
AtMost n (finish c) = Unit {0}
AtMost zero (read a k) = ⊥
AtMost (suc n) (read a k) = (v : ℕ) → AtMost n (k v)
AtMost zero (write a v k) = ⊥
AtMost (suc n) (write a v k) = AtMost n k

-- there are n bus cycles or more, whatever the bytes are, unless they end by a jam
abbrev pub AtLeast : ℕ → BusCycles → Type 0
AtLeast zero c = Unit {0}
AtLeast (suc n) (finish c) = (o : ℕ) × (c.jam ≡ Some o)
AtLeast (suc n) (read a k) = (v : ℕ) → AtLeast n (k v)
AtLeast (suc n) (write a v k) = AtLeast n k

-- the bus cycles never end by a jam
abbrev pub EndsRunning : BusCycles → Type 0
EndsRunning (finish c) = c.jam ≡ None
EndsRunning (read a k) = (v : ℕ) → EndsRunning (k v)
EndsRunning (write a v k) = EndsRunning k
