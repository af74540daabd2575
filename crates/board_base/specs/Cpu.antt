-- The processor's registers and its place in a sequence.
use Rattle.std.specs.Prelude.{◌≡◌, ◌/◌, ◌%◌, None}
use Rattle.board_base.specs.declared.cpu.CpuState.TheInside.{Inside}

-- the fields of `CpuState`
abbrev pub CpuValue : Type 0
CpuValue = Inside

-- bits 4 and 5 of the flags are clear
pub record IsCpu (c : CpuValue) : Type 0 where
  pub flags : c.p / 16 % 4 ≡ 0

-- all registers are 0
abbrev pub cpu_at_power_on : CpuValue
cpu_at_power_on = record { pc = 0; a = 0; x = 0; y = 0; s = 0; p = 0; jam = None; mid = None }
