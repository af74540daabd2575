-- The whole board, as a plain record. The map, the ports and the power-on values are this project's
-- own choice.
use Rattle.std.specs.Prelude.{◌≡◌, ◌+◌, ◌<◌, ◌≤◌, length, replicate, IsSome}
use Rattle.board_base.specs.declared.board.TheConstants.{RAM_LEN, CLOCK_LIMIT}
use Rattle.board_base.specs.declared.vector_memory.TheConstants.{VECTOR_RAM_LEN}
use Rattle.board_base.specs.Cpu.{cpu_at_power_on}
use Rattle.board_base.specs.Divider.{divider_at_power_on}
use Rattle.board_base.specs.Earom.{earom_at_power_on}
use Rattle.board_base.specs.Pokey.{pokey_at_power_on}
use Rattle.board_base.specs.Vg.{vg_at_power_on}
use Rattle.board_base.specs.declared.board.BoardState.TheInside.{Inside}
use Rattle.board_base.specs.declared.board.Ports.{Ports}

-- the fields of `BoardState`
abbrev pub BoardValue : Type 0
BoardValue = Inside

-- what the board reads at its ports, and its output latch
abbrev pub ports_of : BoardValue → Ports
ports_of b = record { out = b.out; in0 = b.in0; in3 = b.in3; in4 = b.in4 }

-- a board with other ports
abbrev pub with_ports : Ports → BoardValue → BoardValue
with_ports ports b = record b { out = ports.out; in0 = ports.in0; in3 = ports.in3; in4 = ports.in4 }

-- the clock may stand up to 16 past the greatest number of a tape, and inside a sequence at that
-- number at most; six bits of the first port; two memories in their lengths
pub record IsBoard (b : BoardValue) : Type 0 where
  pub clock : b.clock ≤ CLOCK_LIMIT + 16
  pub middle : IsSome b.cpu.mid → b.clock ≤ CLOCK_LIMIT
  pub in0 : b.in0 < 64
  pub ram : length b.ram ≡ RAM_LEN
  pub vram : length b.vram ≡ VECTOR_RAM_LEN

-- all memory is 0, no input of the ports is active, each device is as at its own power-on, and no
-- clock is done
abbrev pub board_at_power_on : BoardValue
board_at_power_on = record {
  clock = 0;
  cpu = cpu_at_power_on;
  out = 0;
  in0 = 63;
  in3 = 255;
  in4 = 255;
  divider = divider_at_power_on;
  vg = vg_at_power_on;
  sound1 = pokey_at_power_on;
  sound2 = pokey_at_power_on;
  earom = earom_at_power_on;
  ram = replicate RAM_LEN 0;
  vram = replicate VECTOR_RAM_LEN 0;
}
