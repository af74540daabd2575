-- A processor in range (MCS6500 Programming Manual, chapters 1 to 3: the widths of the registers).
use Rattle.std.specs.Prelude.{ℕ, ◌<◌, All, IfSome}
use Rattle.board_base.specs.Cpu.{CpuValue}
use Rattle.board_base.specs.Mid.{MidValue, IsMid}
use Rattle.cpu_core.specs.declared.replay.Next.{Next}
use Rattle.cpu_core.specs.declared.replay.Next.TheVariants.{Read, Write, End}
use Rattle.cpu_core.specs.Registers.{RegistersValue, AreRegisters, registers_of}
use Rattle.cpu_core.specs.Places.{IsProcessor}

-- a number of eight bits
abbrev pub IsByte : ℕ → Type 0
IsByte n = n < 256

-- the registers in range: pc has 16 bits, the others are bytes, and bits 4 and 5 of the flags are
-- clear
pub record AreRegistersInRange (r : RegistersValue) : Type 0 where
  pub pc : r.pc < 65536
  pub a : IsByte r.a
  pub x : IsByte r.x
  pub y : IsByte r.y
  pub s : IsByte r.s
  pub p : IsByte r.p
  pub flags : AreRegisters r

-- a place inside a sequence in range
pub record IsMidInRange (m : MidValue) : Type 0 where
  pub place : IsMid m
  pub bytes : All IsByte m.bytes

-- a processor in range: where it is jammed, an undocumented opcode did it, and where it stands
-- inside a sequence, its accesses so far are those of that sequence
pub record IsProcessorInRange (c : CpuValue) : Type 0 where
  pub registers : AreRegistersInRange (registers_of c)
  pub jam : IfSome c.jam IsByte
  pub mid : IfSome c.mid IsMidInRange
  pub stands : IsProcessor c

-- where a write comes next, it is one of a byte
abbrev pub WritesByte : Next → Type 0
WritesByte (Read a) = Unit {0}
WritesByte (Write a v) = IsByte v
WritesByte (End e) = Unit {0}
