-- What it means that the engine stands for a board of the lockstep run, in six parts. It does at
-- each boundary, and at each access inside an instruction. The view and the invariant of `BoardBus`
-- have these parts, beside what schedules events. All of it is this project's own.
use Rattle.std.specs.Prelude.{◌≡◌, ℕ, ◌+◌, ◌-◌, ◌≤◌, ◌<◌, Bool, true, List, ◌++◌, length}
use Rattle.board_base.specs.declared.board.TheConstants.{CLOCK_END, RAM_LEN}
use Rattle.board_base.specs.declared.divider.TheConstants.{DIVIDER_PERIOD}
use Rattle.board_base.specs.declared.record.Record.{Record}
use Rattle.board_base.specs.Pokey.{PokeyValue}
use Rattle.board_base.specs.Ticks.{made, ticks, times}
use Rattle.board_base.specs.Vg.{VgValue}
use Rattle.rom_image.specs.declared.image.TheConstants.{PROGRAM_ROM_LEN}
use Rattle.avg_device.specs.Tick.{vg_gives, vg_tick}
use Rattle.pokey_chip.specs.Tick.{levels_made}
use Rattle.catchup_devices.specs.Lags.{AsksAt}
use Rattle.catchup_engine.specs.declared.bus.TheConstants.{TRAIL_ROOM}

-- 1. what is no device, the engine has itself: its clock and IN0 are in range, and the RAM and the
-- program ROM have their lengths
abbrev pub HoldsTheRest : ℕ → ℕ → List ℕ → List ℕ → Type 0
HoldsTheRest clock in0 ram program = (clock ≤ CLOCK_END) × (in0 < 64) × (length ram ≡ RAM_LEN) × (length program ≡ PROGRAM_ROM_LEN)

-- 2. a device was moved up to a clock that isn't after the engine's; the clocks between are its lag
abbrev pub IsNotAhead : ℕ → ℕ → Type 0
IsNotAhead done clock = done ≤ clock

-- 3. a device after the clocks of its lag is the board's; the generator goes over the vector memory
-- as it is now
abbrev pub after_lag : {S : Type 0} → (S → S) → ℕ → ℕ → S → S
after_lag tick done clock device = times tick (clock - done) device

abbrev pub generator_after_lag : List ℕ → ℕ → ℕ → VgValue → VgValue
generator_after_lag memory done clock device = ticks (vg_tick memory) done (clock - done) device

-- 4. the records of a trail, and after them those of its device's lag, are the board's
abbrev pub with_lags_strokes : List ℕ → ℕ → ℕ → VgValue → List Record → List Record
with_lags_strokes memory done clock device records = records ++ made (vg_tick memory) vg_gives done (clock - done) device

abbrev pub with_lags_levels : ℕ → ℕ → PokeyValue → List Record → List Record
with_lags_levels done clock device records = records ++ levels_made done (clock - done) device

-- 5. the interrupt line and the pending reset are known without moving a device: no wrap lies in
-- the divider's lag, and of a POKEY that is wired to the line it is known when it asks
abbrev pub HasNoWrapInItsLag : ℕ → ℕ → ℕ → ℕ → Type 0
HasNoWrapInItsLag phase done clock wrap_at = (phase + (wrap_at - done) ≡ DIVIDER_PERIOD) × (clock < wrap_at)

abbrev pub IsKnownToAsk : Bool → ℕ → ℕ → PokeyValue → Type 0
IsKnownToAsk wired done request_at device = wired ≡ true → AsksAt done request_at device

-- 6. a trail has room for a window's records, and of it at least its device's lag is spare
abbrev pub HasSpareForLag : ℕ → ℕ → ℕ → ℕ → List Record → Type 0
HasSpareForLag done clock spare room records = (clock ≤ done + spare) × (TRAIL_ROOM ≤ room) × (spare + length records ≡ room)
