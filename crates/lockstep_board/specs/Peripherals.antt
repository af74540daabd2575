-- The lockstep board without its processor: its peripherals between two clocks, and the records
-- made since the last clearing. This project's own choice are the map, the order within a clock,
-- the open bus, which reads FF, and what a watchdog reset leaves: both POKEYs and the EAROM.
use Rattle.std.specs.Prelude.{ℕ, ◌+◌, ◌%◌, List, [], ◌∷◌, ◌++◌, Bool, not, ◌&&◌, ◌||◌, ◌==◌, if◌then◌else◌, take, drop, slice_index, slice_set}
use Rattle.board_base.specs.declared.vector_memory.TheConstants.{VECTOR_RAM_LEN, VECTOR_ROM_LEN}
use Rattle.board_base.specs.declared.record.Record.{Record}
use Rattle.board_base.specs.declared.record.Record.TheVariants.{Latch, WatchdogReset}
use Rattle.board_base.specs.declared.divider.Pending.{Pending}
use Rattle.board_base.specs.declared.divider.Pending.TheVariants.{Nothing, Power, Watchdog}
use Rattle.board_base.specs.declared.board.Ports.{Ports}
use Rattle.board_base.specs.Board.{BoardValue, ports_of}
use Rattle.board_base.specs.Cpu.{CpuValue}
use Rattle.board_base.specs.Divider.{DividerValue}
use Rattle.board_base.specs.Earom.{EaromValue}
use Rattle.board_base.specs.Pokey.{PokeyValue}
use Rattle.board_base.specs.Vg.{VgValue}
use Rattle.board_map.specs.declared.map.Reads.{Reads}
use Rattle.board_map.specs.declared.map.Reads.TheVariants as reads
use Rattle.board_map.specs.declared.map.Writes.{Writes}
use Rattle.board_map.specs.declared.map.Writes.TheVariants as writes
use Rattle.board_map.specs.Map.{row_of}
use Rattle.avg_device.specs.Tick.{vg_tick, vg_gives, vg_go, vg_reset}
use Rattle.pokey_chip.specs.Tick.{pokey_tick, pokey_gives}
use Rattle.pokey_chip.specs.Registers.{register_read, register_written, pot_set}
use Rattle.earom_cells.specs.Tick.{earom_tick, latched, controlled}
use Rattle.irq_watchdog.specs.Tick.{divider_tick, acknowledged, watchdog_cleared, reset_taken, line_3k}
use Rattle.tape_ports.specs.declared.entry.Port.{Port}
use Rattle.tape_ports.specs.declared.entry.Port.TheVariants as port
use Rattle.tape_ports.specs.declared.entry.TapeEntry.{TapeEntry}
use Rattle.tape_ports.specs.Due.{due_at}

-- the clocks done, whether the POKEYs reach the interrupt line, the ports with the output latch, the
-- devices, the memories as the processor and the generator see them, and the four lists of records
pub record Peripherals : Type 0 where
  pub clock : ℕ
  pub wired : Bool
  pub ports : Ports
  pub divider : DividerValue
  pub vg : VgValue
  pub sound1 : PokeyValue
  pub sound2 : PokeyValue
  pub earom : EaromValue
  pub ram : List ℕ
  pub memory : List ℕ
  pub program : List ℕ
  pub strokes : List Record
  pub levels1 : List Record
  pub levels2 : List Record
  pub written : List Record

-- what an entry of the tape sets: of IN0 the tape has bits 0 to 5
abbrev pub port_set : Port → ℕ → Peripherals → Peripherals
port_set port.In0 value w = record w { ports = record w.ports { in0 = value % 64 } }
port_set port.In3 value w = record w { ports = record w.ports { in3 = value } }
port_set port.In4 value w = record w { ports = record w.ports { in4 = value } }
port_set (port.Pot1 which) value w = record w { sound1 = pot_set which value w.sound1 }
port_set (port.Pot2 which) value w = record w { sound2 = pot_set which value w.sound2 }

-- entries are applied in their order
unfoldable pub applied : List TapeEntry → Peripherals → Peripherals
applied [] w = w
applied (entry ∷ entries) w = applied entries (port_set entry.port entry.value w)

-- the divider ticks, then the generator over the memory as it stands, POKEY 1, POKEY 2 and the
-- EAROM
unfoldable pub devices_ticked : Peripherals → Peripherals
devices_ticked w = record w {
  divider = divider_tick w.divider;
  vg = vg_tick w.memory w.clock w.vg;
  sound1 = pokey_tick w.sound1;
  sound2 = pokey_tick w.sound2;
  earom = earom_tick w.earom;
  strokes = w.strokes ++ vg_gives w.clock w.vg;
  levels1 = w.levels1 ++ pokey_gives w.clock w.sound1;
  levels2 = w.levels2 ++ pokey_gives w.clock w.sound2;
}

-- the tape's entries of this clock are applied, and then the devices tick
unfoldable pub ticked : List TapeEntry → Peripherals → Peripherals
ticked entries w = devices_ticked (applied (due_at w.clock entries) w)

-- a POKEY has a request where IRQST isn't all ones
abbrev pub has_request : PokeyValue → Bool
has_request p = not (p.irqst == 7)

-- the interrupt line: the latch, and where they are wired the requests of both POKEYs
unfoldable pub line_of : Peripherals → Bool
line_of w = w.divider.irq || w.wired && (has_request w.sound1 || has_request w.sound2)

-- IN0: the port's bits 0 to 5, bit 6 where the generator is halted, and the 3 kHz line as bit 7
abbrev pub in0_byte : Peripherals → ℕ
in0_byte w = w.ports.in0 + (if w.vg.halted then 64 else 0) + (if line_3k w.divider then 128 else 0)

-- the byte that a read gives, by an offset in a memory or a register's number; the open bus gives
-- FF
abbrev pub byte_in : Reads → ℕ → Peripherals → ℕ
byte_in reads.Ram k w = slice_index w.ram k
byte_in reads.VectorRam k w = slice_index w.memory k
byte_in reads.VectorRom k w = slice_index w.memory (VECTOR_RAM_LEN + k)
byte_in reads.ProgramRom k w = slice_index w.program k
byte_in reads.Sound1 reg w = register_read reg w.sound1
byte_in reads.Sound2 reg w = register_read reg w.sound2
byte_in reads.EaromOut k w = w.earom.out
byte_in reads.In0 k w = in0_byte w
byte_in reads.In3 k w = w.ports.in3
byte_in reads.In4 k w = w.ports.in4
byte_in reads.Open k w = 255

-- the byte that a read of an address gives
unfoldable pub byte_read : ℕ → Peripherals → ℕ
byte_read address w = byte_in (row_of address).reads (row_of address).offset w

-- what a write does, by an offset, a register's number or a cell's
abbrev pub put_in : Writes → ℕ → ℕ → Peripherals → Peripherals
put_in writes.Ram k value w = record w { ram = slice_set w.ram k value }
put_in writes.VectorRam k value w = record w { memory = slice_set w.memory k value }
put_in writes.Sound1 reg value w = record w { sound1 = register_written reg value w.sound1 }
put_in writes.Sound2 reg value w = record w { sound2 = register_written reg value w.sound2 }
put_in writes.OutputLatch k value w = record w { ports = record w.ports { out = value }; written = w.written ++ Latch w.clock value ∷ [] }
put_in writes.Go k value w = record w { vg = vg_go w.vg }
put_in writes.VgReset k value w = record w { vg = vg_reset w.vg }
put_in writes.Acknowledge k value w = record w { divider = acknowledged w.divider }
put_in writes.EaromControl k value w = record w { earom = controlled value w.earom }
put_in writes.EaromLatch cell value w = record w { earom = latched cell value w.earom }
put_in writes.WatchdogClear k value w = record w { divider = watchdog_cleared w.divider }
put_in writes.Ignored k value w = w

-- what a write to an address does
unfoldable pub byte_put : ℕ → ℕ → Peripherals → Peripherals
byte_put address value w = put_in (row_of address).writes (row_of address).offset value w

-- what the first clock of a reset does besides its read: one by the watchdog halts the generator,
-- clears the output latch without a record of a write to it, and is recorded itself
abbrev pub reset_by : Pending → Peripherals → Peripherals
reset_by Watchdog w = record w {
  ports = record w.ports { out = 0 };
  divider = reset_taken w.divider;
  vg = vg_reset w.vg;
  written = w.written ++ WatchdogReset w.clock ∷ [];
}
reset_by Power w = record w { divider = reset_taken w.divider }
reset_by Nothing w = record w { divider = reset_taken w.divider }

-- the pending reset is started
unfoldable pub reset_started : Peripherals → Peripherals
reset_started w = reset_by w.divider.pending w

-- the peripherals of a board over an image, with no records yet: the vector ROM stands behind the
-- vector RAM
abbrev pub peripherals_of : List ℕ → Bool → BoardValue → Peripherals
peripherals_of image wired b = record {
  clock = b.clock;
  wired = wired;
  ports = ports_of b;
  divider = b.divider;
  vg = b.vg;
  sound1 = b.sound1;
  sound2 = b.sound2;
  earom = b.earom;
  ram = b.ram;
  memory = b.vram ++ take VECTOR_ROM_LEN image;
  program = drop VECTOR_ROM_LEN image;
  strokes = [];
  levels1 = [];
  levels2 = [];
  written = [];
}

-- the peripherals of another board over the same image
abbrev pub reloaded : Peripherals → BoardValue → Peripherals
reloaded w b = record {
  clock = b.clock;
  wired = w.wired;
  ports = ports_of b;
  divider = b.divider;
  vg = b.vg;
  sound1 = b.sound1;
  sound2 = b.sound2;
  earom = b.earom;
  ram = b.ram;
  memory = b.vram ++ drop VECTOR_RAM_LEN w.memory;
  program = w.program;
  strokes = [];
  levels1 = [];
  levels2 = [];
  written = [];
}

-- a board of these peripherals and this processor
abbrev pub board_of : CpuValue → Peripherals → BoardValue
board_of c w = record {
  clock = w.clock;
  cpu = c;
  out = w.ports.out;
  in0 = w.ports.in0;
  in3 = w.ports.in3;
  in4 = w.ports.in4;
  divider = w.divider;
  vg = w.vg;
  sound1 = w.sound1;
  sound2 = w.sound2;
  earom = w.earom;
  ram = w.ram;
  vram = take VECTOR_RAM_LEN w.memory;
}
