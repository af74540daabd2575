-- A bus that gives the bytes of earlier accesses again.
use Rattle.std.specs.Prelude.{◌≡◌, ℕ, List, [], ◌∷◌, Option, Some, None}
use Rattle.board_base.specs.Cpu.{CpuValue}
use Rattle.cpu_core.specs.declared.replay.Next.{Next}
use Rattle.cpu_core.specs.declared.replay.Next.TheVariants.{Read, Write, End}
use Rattle.cpu_core.specs.BusCycles.{Access, read_of, write_of}

-- the bytes still to be given, and the first access past them
pub record ReplayValue : Type 0 where
  pub given : List ℕ
  pub due : Option Next

-- the next byte given is taken, here v; where none is left the access is kept, if it is the first
abbrev pub Takes : Option Next → List ℕ → Next → ℕ → ReplayValue → Type 0
Takes (Some first) given access v t = t.due ≡ Some first
Takes None [] access v t = t.due ≡ Some access
Takes None (b ∷ given) access v t = (v ≡ b) × (t ≡ record { given = given; due = None })

-- a read gives the byte taken; a write takes it too, and doesn't look at it
abbrev pub Replays : Access → ReplayValue → ReplayValue → Type 0
Replays (read_of a v) s t = Takes s.due s.given (Read a) v t
Replays (write_of a w) s t = (v : ℕ) × Takes s.due s.given (Write a w) v t

-- the access due, or the end
abbrev pub due_or_end : Option Next → CpuValue → Next
due_or_end (Some d) e = d
due_or_end None e = End e

-- a fact about the processor at the end
abbrev pub IfEnd : Next → (CpuValue → Type 0) → Type 0
IfEnd (End e) P = P e
IfEnd next P = Unit {0}
