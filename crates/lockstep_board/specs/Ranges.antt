-- A board in range: what the types of its parts keep, as facts on plain records.
use Rattle.std.specs.Prelude.{◌≡◌, ℕ, ◌+◌, ◌<◌, ◌≤◌, List, length, All}
use Rattle.board_base.specs.declared.board.TheConstants.{RAM_LEN}
use Rattle.board_base.specs.declared.board.Ports.{Ports}
use Rattle.board_base.specs.declared.vector_memory.TheConstants.{VECTOR_RAM_LEN, VECTOR_ROM_LEN}
use Rattle.board_base.specs.Divider.{IsDivider}
use Rattle.board_base.specs.Earom.{EaromValue, IsEarom}
use Rattle.board_base.specs.Pokey.{PokeyValue}
use Rattle.board_base.specs.declared.pokey.TheConstants.{LONGEST_PERIOD, POT_LIMIT, PRESCALER_BASE, PRESCALER_LINE}
use Rattle.board_base.specs.Vg.{VgValue, IsVg}
use Rattle.cpu_core.specs.Ranges.{IsByte, IsProcessorInRange}
use Rattle.rom_image.specs.declared.image.TheConstants.{PROGRAM_ROM_LEN}
use Rattle.lockstep_board.specs.Peripherals.{Peripherals}
use Rattle.lockstep_board.specs.Lockstep.{Board}

-- so many bytes
pub record AreBytes (len : ℕ) (bytes : List ℕ) : Type 0 where
  pub count : length bytes ≡ len
  pub each : All IsByte bytes

-- a generator in range, its linear scale and the bytes of its word included
pub record IsVgInRange (v : VgValue) : Type 0 where
  pub device : IsVg v
  pub lin : IsByte v.lin
  pub bytes : All IsByte v.bytes

-- the registers of four channels, and the two that stand alone, are bytes
pub record AreRegisters (f c : List ℕ) (ctl sk : ℕ) : Type 0 where
  pub audf : length f ≡ 4
  pub audc : length c ≡ 4
  pub audf_bytes : All IsByte f
  pub audc_bytes : All IsByte c
  pub audctl : IsByte ctl
  pub skctl : IsByte sk

-- three requests
pub record AreRequests (en st : ℕ) : Type 0 where
  pub irqen : en < 8
  pub irqst : st < 8

-- registers of 4, 5, 9 and 17 bits
pub record ArePolynomials (r4 r5 r9 r17 : ℕ) : Type 0 where
  pub poly4 : r4 < 16
  pub poly5 : r5 < 32
  pub poly9 : r9 < 512
  pub poly17 : r17 < 131072

-- two prescalers
pub record ArePrescalers (base line : ℕ) : Type 0 where
  pub pre28 : base < PRESCALER_BASE
  pub pre114 : line < PRESCALER_LINE

-- of four channels the pulses left, no more than the longest period, the tone bits and the
-- high-pass bits
pub record AreChannels (counts : List ℕ) (tones passes : ℕ) : Type 0 where
  pub left : length counts ≡ 4
  pub pulses : All (λ n. (1 ≤ n) × (n ≤ LONGEST_PERIOD)) counts
  pub tone : tones < 16
  pub pass : passes < 4

-- eight pots that count to one limit, their targets bytes
pub record ArePots (n : ℕ) (ends : List ℕ) : Type 0 where
  pub pot : n ≤ POT_LIMIT
  pub count : length ends ≡ 8
  pub targets : All IsByte ends

-- four levels of four bits
pub record AreLevels (now : List ℕ) : Type 0 where
  pub last : length now ≡ 4
  pub levels : All (λ level. level < 16) now

-- a POKEY in range, with what was written to its registers and the targets of its pots
pub record IsPokeyInRange (p : PokeyValue) : Type 0 where
  pub registers : AreRegisters p.audf p.audc p.audctl p.skctl
  pub requests : AreRequests p.irqen p.irqst
  pub polys : ArePolynomials p.poly4 p.poly5 p.poly9 p.poly17
  pub prescalers : ArePrescalers p.pre28 p.pre114
  pub channels : AreChannels p.left p.tone p.pass
  pub pots : ArePots p.pot p.targets
  pub levels : AreLevels p.last

-- an EAROM in range, with its latches and cells
pub record IsEaromInRange (e : EaromValue) : Type 0 where
  pub device : IsEarom e
  pub value : IsByte e.value
  pub out : IsByte e.out
  pub cells : All IsByte e.cells

-- ports in range: they and the output latch are bytes, the first port of six bits
pub record ArePortsInRange (ports : Ports) : Type 0 where
  pub out : IsByte ports.out
  pub in0 : ports.in0 < 64
  pub in3 : IsByte ports.in3
  pub in4 : IsByte ports.in4

-- peripherals in range: the ports and each device are in range, and each memory has its bytes; of
-- the clock nothing is said
pub record ArePeripheralsInRange (w : Peripherals) : Type 0 where
  pub ports : ArePortsInRange w.ports
  pub divider : IsDivider w.divider
  pub vg : IsVgInRange w.vg
  pub sound1 : IsPokeyInRange w.sound1
  pub sound2 : IsPokeyInRange w.sound2
  pub earom : IsEaromInRange w.earom
  pub ram : AreBytes RAM_LEN w.ram
  pub memory : AreBytes (VECTOR_RAM_LEN + VECTOR_ROM_LEN) w.memory
  pub program : AreBytes PROGRAM_ROM_LEN w.program

-- a board in range
pub record IsBoardInRange (b : Board) : Type 0 where
  pub cpu : IsProcessorInRange b.cpu
  pub peripherals : ArePeripheralsInRange b.peripherals
