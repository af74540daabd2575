-- The registers of the 6502 (MCS6500 Programming Manual, chapters 1 to 3), as a sequence of
-- accesses works on them.
use Rattle.std.specs.Prelude.{◌≡◌, ◌+◌, ◌/◌, ◌%◌, ℕ, Some, None}
use Rattle.board_base.specs.Cpu.{CpuValue}

-- the registers, without a jam and without a place in a sequence
pub record RegistersValue : Type 0 where
  pub pc : ℕ
  pub a : ℕ
  pub x : ℕ
  pub y : ℕ
  pub s : ℕ
  pub p : ℕ

-- bits 4 and 5 of the flags are clear
pub record AreRegisters (r : RegistersValue) : Type 0 where
  pub flags : r.p / 16 % 4 ≡ 0

-- the stack lies in page 1
abbrev pub stack_address : RegistersValue → ℕ
stack_address r = 256 + r.s

-- the registers of a processor
abbrev pub registers_of : CpuValue → RegistersValue
registers_of c = record { pc = c.pc; a = c.a; x = c.x; y = c.y; s = c.s; p = c.p }

-- a processor with these registers that stands between two sequences
abbrev pub at_boundary : RegistersValue → CpuValue
at_boundary r =
    record { pc = r.pc; a = r.a; x = r.x; y = r.y; s = r.s; p = r.p; jam = None; mid = None }

-- a processor with these registers that an undocumented opcode has stopped
abbrev pub jammed_on : RegistersValue → ℕ → CpuValue
jammed_on r o = record (at_boundary r) { jam = Some o }
