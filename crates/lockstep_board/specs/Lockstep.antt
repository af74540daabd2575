-- The lockstep board: every part moved by one clock in each step. The order within a clock is this
-- project's own choice.
use Rattle.std.specs.Prelude.{ℕ, ◌+◌, List, [], ◌∷◌, ◌++◌, Bool, true, false, not, ◌&&◌, Option, Some, None, if◌then◌else◌}
use Rattle.board_base.specs.declared.divider.Pending.{Pending}
use Rattle.board_base.specs.declared.divider.Pending.TheVariants.{Nothing, Power, Watchdog}
use Rattle.board_base.specs.declared.cpu.Sequence.{Sequence}
use Rattle.board_base.specs.declared.cpu.Sequence.TheVariants.{Opcode, Interrupt, Reset}
use Rattle.board_base.specs.Cpu.{CpuValue}
use Rattle.board_base.specs.Mid.{MidValue}
use Rattle.cpu_alu.specs.Flags.{is_masked}
use Rattle.cpu_core.specs.BusCycles.{Access, read_of, write_of}
use Rattle.cpu_core.specs.declared.replay.Next.{Next}
use Rattle.cpu_core.specs.declared.replay.Next.TheVariants.{Read, Write, End}
use Rattle.cpu_core.specs.Registers.{RegistersValue, registers_of}
use Rattle.cpu_core.specs.Sequences.{next_of, start_of}
use Rattle.cpu_core.specs.Places.{standing, given_by}
use Rattle.tape_ports.specs.declared.entry.TapeEntry.{TapeEntry}
use Rattle.lockstep_board.specs.Peripherals.{Peripherals, ticked, line_of, byte_read, byte_put, reset_started}

-- the processor, and all that it is wired to
pub record Board : Type 0 where
  pub cpu : CpuValue
  pub peripherals : Peripherals

-- the access that comes next is made, and the processor stands after it: a read gives the byte as
-- the devices stand after their ticks, and changes nothing
abbrev pub accessed_by : Next → RegistersValue → Sequence → List ℕ → Peripherals → Board
accessed_by (Read address) r q bytes w = record {
  cpu = standing r q (bytes ++ byte_read address w ∷ []);
  peripherals = w;
}
accessed_by (Write address value) r q bytes w = record {
  cpu = standing r q (bytes ++ value ∷ []);
  peripherals = byte_put address value w;
}
accessed_by (End e) r q bytes w = record { cpu = e; peripherals = w }

-- the next access of a sequence after these bytes
unfoldable pub accessed : RegistersValue → Sequence → List ℕ → Peripherals → Board
accessed r q bytes w = accessed_by (next_of r q bytes) r q bytes w

-- a reset is pending
abbrev pub is_reset : Pending → Bool
is_reset Nothing = false
is_reset Power = true
is_reset Watchdog = true

-- what a fetch begins: a pending reset comes first, then an interrupt that isn't masked, then the
-- instruction at pc
abbrev pub sequence_due : CpuValue → Peripherals → Sequence
sequence_due c w =
    if is_reset w.divider.pending then Reset else (if line_of w && not (is_masked c.p) then Interrupt else Opcode)

-- what else the first clock of a sequence does, after its access
abbrev pub started : Sequence → Board → Board
started Reset b = record b { peripherals = reset_started b.peripherals }
started Interrupt b = b
started Opcode b = b

-- a fetch, in a clock whose ticks are done
unfoldable pub at_fetch : CpuValue → Peripherals → Board
at_fetch c w = let q = sequence_due c w in started q (accessed (start_of q c) q [] w)

-- the access of a clock whose ticks are done
abbrev pub after_access : Option MidValue → CpuValue → Peripherals → Board
after_access None c w = at_fetch c w
after_access (Some mid) c w = accessed (registers_of c) mid.sequence (given_by mid) w

-- the clock is done
abbrev pub clocked : Board → Board
clocked b = record b { peripherals = record b.peripherals { clock = b.peripherals.clock + 1 } }

-- One clock of a board that isn't jammed: the entries of this clock are applied, the devices tick,
-- and then the processor makes one access.
unfoldable pub step : List TapeEntry → Board → Board
step entries b = clocked (after_access b.cpu.mid b.cpu (ticked entries b.peripherals))

-- the access of a next step
abbrev pub made_by : Next → Peripherals → Option Access
made_by (Read address) w = Some (read_of address (byte_read address w))
made_by (Write address value) w = Some (write_of address value)
made_by (End e) w = None

abbrev pub due_access : Option MidValue → CpuValue → Peripherals → Option Access
due_access None c w = let q = sequence_due c w in made_by (next_of (start_of q c) q []) w
due_access (Some mid) c w = made_by (next_of (registers_of c) mid.sequence (given_by mid)) w

-- the access that the next clock of a board makes, with its byte
unfoldable pub access_in : List TapeEntry → Board → Option Access
access_in entries b = due_access b.cpu.mid b.cpu (ticked entries b.peripherals)
