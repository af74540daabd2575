-- The device calls that a run may cost, counted over the clocks of the lockstep board. This
-- project's own choice.
use Rattle.std.specs.Prelude.{ℕ, ◌+◌, ◌*◌, List, length, Bool, not, ◌&&◌, ◌==◌, Option, Some, None, if◌then◌else◌, zero, suc}
use Rattle.std.specs.Int.{from_bool}
use Rattle.board_base.specs.declared.divider.TheConstants.{DIVIDER_PERIOD}
use Rattle.board_base.specs.declared.cpu.Sequence.{Sequence}
use Rattle.board_base.specs.declared.cpu.Sequence.TheVariants.{Opcode, Interrupt, Reset}
use Rattle.board_base.specs.Cpu.{CpuValue}
use Rattle.board_base.specs.Mid.{MidValue}
use Rattle.board_base.specs.Pokey.{PokeyValue}
use Rattle.board_map.specs.declared.map.Reads.{Reads}
use Rattle.board_map.specs.declared.map.Writes.{Writes}
use Rattle.board_map.specs.Map.{row_of}
use Rattle.cpu_core.specs.BusCycles.{Access, read_of, write_of}
use Rattle.pokey_chip.specs.Tick.{pokey_tick}
use Rattle.tape_ports.specs.declared.entry.TapeEntry.{TapeEntry}
use Rattle.tape_ports.specs.Due.{due_at}
use Rattle.lockstep_board.specs.Uses.{devices_read, devices_written, is_some_device}
use Rattle.lockstep_board.specs.Peripherals.{Peripherals, applied, has_request, ticked}
use Rattle.lockstep_board.specs.Lockstep.{Board, sequence_due, access_in, step}

-- a read that reaches a device
abbrev pub reads_device : Reads → Bool
reads_device reads = is_some_device (devices_read reads)

-- a write that reaches a device
abbrev pub writes_device : Writes → Bool
writes_device writes = is_some_device (devices_written writes)

-- an access that reaches a device
unfoldable pub reaches_device : Access → Bool
reaches_device (read_of address value) = reads_device (row_of address).reads
reaches_device (write_of address value) = writes_device (row_of address).writes

-- one for an access that reaches a device
abbrev pub device_access : Option Access → ℕ
device_access None = 0
device_access (Some access) = from_bool (reaches_device access)

-- the device accesses of a board's next clock, one or none
abbrev pub device_accesses : List TapeEntry → Board → ℕ
device_accesses entries b = device_access (access_in entries b)

-- the wraps of the divider in the clock of these peripherals, one or none
abbrev pub wraps : Peripherals → ℕ
wraps w = from_bool (w.divider.phase + 1 == DIVIDER_PERIOD)

-- the entries applied in it
abbrev pub entries_applied : List TapeEntry → Peripherals → ℕ
entries_applied entries w = length (due_at w.clock entries)

-- a POKEY makes a request by a tick where it had none
abbrev pub requests_of : PokeyValue → ℕ
requests_of p = from_bool (not (has_request p) && has_request (pokey_tick p))

-- the POKEYs that make a request by the ticks of a clock whose entries are applied, where they are
-- wired
abbrev pub requests_made : Peripherals → ℕ
requests_made w = if w.wired then requests_of w.sound1 + requests_of w.sound2 else 0

abbrev pub requests : List TapeEntry → Peripherals → ℕ
requests entries w = requests_made (applied (due_at w.clock entries) w)

-- one for a reset
abbrev pub reset_count : Sequence → ℕ
reset_count Reset = 1
reset_count Interrupt = 0
reset_count Opcode = 0

-- a fetch begins a reset
abbrev pub begins_reset : Option MidValue → CpuValue → Peripherals → ℕ
begins_reset None c w = reset_count (sequence_due c w)
begins_reset (Some mid) c w = 0

-- the reset sequences started in a board's next clock, one or none
abbrev pub resets_started : List TapeEntry → Board → ℕ
resets_started entries b = begins_reset b.cpu.mid b.cpu (ticked entries b.peripherals)

-- a count over the next n clocks of a board
unfoldable pub counted : List TapeEntry → (Board → ℕ) → ℕ → Board → ℕ
counted entries of_clock zero b = 0
counted entries of_clock (suc n) b = of_clock b + counted entries of_clock n (step entries b)

-- the calls that a clock's wraps, entries and requests may cost
unfoldable pub ticks_price : List TapeEntry → Peripherals → ℕ
ticks_price entries w = 5 * (wraps w + entries_applied entries w + requests entries w)

-- the calls that a clock may cost: two for a device access, and five each for a wrap, an entry, a
-- request of a wired POKEY and a reset
unfoldable pub price : List TapeEntry → Board → ℕ
price entries b = 2 * device_accesses entries b + 5 * resets_started entries b + ticks_price entries b.peripherals

-- the calls that the next n clocks may cost
abbrev pub budget : List TapeEntry → ℕ → Board → ℕ
budget entries n b = counted entries (price entries) n b
