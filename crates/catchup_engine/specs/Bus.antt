-- The engine's bus, as the lockstep board sees it.
use Rattle.std.specs.Prelude.{◌≡◌, ℕ, ◌+◌, ◌-◌, ◌*◌, ◌<◌, ◌≤◌, List, [], All, take, drop, Option, Some, None, Bool, false, ◌||◌, min, nat_le, nat_lt, length, if◌then◌else◌}
use Rattle.std.specs.Int.{from_bool}
use Rattle.board_base.specs.declared.board.TheConstants.{CLOCK_END, RAM_LEN}
use Rattle.board_map.specs.Map.{row_of}
use Rattle.cpu_core.specs.BusCycles.{Access, read_of, write_of}
use Rattle.tape_ports.specs.declared.entry.TapeEntry.{TapeEntry}
use Rattle.tape_ports.specs.Tape.{TapeValue, IsTape}
use Rattle.lockstep_board.specs.Peripherals.{Peripherals, ticked, byte_read, byte_put}
use Rattle.lockstep_board.specs.Budget.{reaches_device, ticks_price}
use Rattle.catchup_engine.specs.declared.bus.TheConstants.{PROGRAM_START}
use Rattle.catchup_engine.specs.EngineValue.{Rooms}
use Rattle.catchup_engine.specs.Lags.{DeviceLags, lagging_at}

-- The peripherals, and whether a clock is open: the ticks of the next access's clock are in them
-- already, and it counts as done. Then the entries of the tape that are past, the clock before
-- which no event is due, which devices lag, the clock up to which the trails of the generator and
-- the POKEYs have room, the rooms of all four, and the device calls.
pub record BusValue : Type 0 where
  pub peripherals : Peripherals
  pub clock_open : Bool
  pub tape_pos : ℕ
  pub event_at : ℕ
  pub lagging : DeviceLags
  pub until : ℕ
  pub rooms : Rooms
  pub calls : ℕ

-- an address of the RAM or of the program ROM, which the processor alone reaches
abbrev pub is_private : ℕ → Bool
is_private address = nat_lt address RAM_LEN || nat_le PROGRAM_START address

-- the peripherals at another clock
abbrev pub at_clock : ℕ → Peripherals → Peripherals
at_clock clock w = record w { clock = clock }

-- the peripherals in the clock of the next access, after its ticks
unfoldable pub in_clock : List TapeEntry → Bool → Peripherals → Peripherals
in_clock entries clock_open w = if clock_open then at_clock (w.clock - 1) w else ticked entries w

-- the peripherals when that clock is done
abbrev pub done_clock : Peripherals → Peripherals
done_clock w = at_clock (w.clock + 1) w

-- the calls that a clock's ticks may cost, unless they are done
abbrev pub begin_price : List TapeEntry → Bool → Peripherals → ℕ
begin_price entries clock_open w = if clock_open then 0 else ticks_price entries w

-- Something was done to the peripherals, for which a device may have been synced: the peripherals
-- are these, so many device calls were made at most, and all else stays.
pub record Does (old new : BusValue) (peripherals : Peripherals) (most : ℕ) : Type 0 where
  pub value : new ≡ record old { peripherals = peripherals; lagging = new.lagging; until = new.until; calls = new.calls }
  pub until : old.until ≤ new.until
  pub calls : new.calls ≤ old.calls + most
  pub more : old.calls ≤ new.calls

-- The board was looked at, for which the generator may have been synced: where it wasn't asked, all
-- stays, and else all but what lags and the calls.
pub record Looked (asked : Bool) (old new : BusValue) : Type 0 where
  pub value : new ≡ record old { lagging = new.lagging; until = new.until; calls = new.calls }
  pub until : old.until ≤ new.until
  pub more : old.calls ≤ new.calls
  pub same : asked ≡ false → new ≡ old

-- what an access leaves: the room of the trails stays, and the calls are within their price
pub record Stays (entries : List TapeEntry) (x : Access) (s t : BusValue) : Type 0 where
  pub clock_open : t.clock_open ≡ false
  pub rooms : t.rooms ≡ s.rooms
  pub until : s.until ≤ t.until
  pub calls : t.calls ≤ s.calls + (2 * from_bool (reaches_device x) + begin_price entries s.clock_open s.peripherals)
  pub more : s.calls ≤ t.calls

-- one access: the byte read is that of the peripherals in this clock, and the devices whose state
-- it is don't lag; or the byte written is put into them
abbrev pub BusStep : List TapeEntry → Access → BusValue → BusValue → Type 0
BusStep entries (read_of address value) s t =
    (value ≡ byte_read address (in_clock entries s.clock_open s.peripherals))
    × (t.peripherals ≡ done_clock (in_clock entries s.clock_open s.peripherals)) × Stays entries (read_of address value) s t
    × (lagging_at (row_of address).reads t.lagging ≡ 0)
BusStep entries (write_of address value) s t =
    (t.peripherals ≡ done_clock (byte_put address value (in_clock entries s.clock_open s.peripherals))) × Stays entries (write_of address value) s t

-- the place of a clock among the entries of a tape: those before it are of earlier clocks, and the
-- others aren't
pub record IsTapePlace (tape : TapeValue) (clock tape_pos : ℕ) : Type 0 where
  pub within : tape_pos ≤ length tape.entries
  pub before : All (λ entry. entry.clock < clock) (take tape_pos tape.entries)
  pub from : All (λ entry. clock ≤ entry.clock) (drop tape_pos tape.entries)

-- the clock of the entry at a place: no later one has an earlier clock, and without one there is
-- none
abbrev pub ComesNext : TapeValue → ℕ → Option ℕ → Type 0
ComesNext tape tape_pos None = drop tape_pos tape.entries ≡ []
ComesNext tape tape_pos (Some at) = All (λ entry. at ≤ entry.clock) (drop tape_pos tape.entries)

-- the bus accepts a tape where the entries past are those of the clocks done, and no later one
-- comes before the next event
pub record Accepts (tape : TapeValue) (s : BusValue) : Type 0 where
  pub valid : IsTape tape
  pub place : IsTapePlace tape s.peripherals.clock s.tape_pos
  pub no_event : All (λ entry. s.event_at ≤ entry.clock) (drop s.tape_pos tape.entries)

-- each access takes a clock, and one record of each part at most
abbrev pub room_of : BusValue → ℕ
room_of s =
    min (min (s.rooms.board - length s.peripherals.written) (s.until - s.peripherals.clock)) (CLOCK_END - s.peripherals.clock)
