-- Devices that lag behind the board's clock.
use Rattle.std.specs.Prelude.{ℕ, ◌+◌, Bool, if◌then◌else◌}
use Rattle.board_map.specs.declared.map.Reads.{Reads}
use Rattle.lockstep_board.specs.declared.uses.DeviceSet.{DeviceSet}
use Rattle.lockstep_board.specs.Uses.{devices_read}

-- for each device 1 where it lags, and else 0
pub record DeviceLags : Type 0 where
  pub vector : ℕ
  pub sound1 : ℕ
  pub sound2 : ℕ
  pub cells : ℕ
  pub divider : ℕ

-- how many devices lag
abbrev pub lagging_of : DeviceLags → ℕ
lagging_of l = l.vector + l.sound1 + l.sound2 + l.cells + l.divider

-- no device lags
abbrev pub none_lags : DeviceLags
none_lags = record { vector = 0; sound1 = 0; sound2 = 0; cells = 0; divider = 0 }

-- each device lags
abbrev pub all_lag : DeviceLags
all_lag = record { vector = 1; sound1 = 1; sound2 = 1; cells = 1; divider = 1 }

-- 1 where a device is among those reached, and lags
abbrev pub lag_among : Bool → ℕ → ℕ
lag_among reached lag = if reached then lag else 0

-- how many of these devices lag
abbrev pub lagging_among : DeviceSet → DeviceLags → ℕ
lagging_among devices l =
    lag_among devices.vector l.vector + lag_among devices.sound1 l.sound1 + lag_among devices.sound2 l.sound2
    + lag_among devices.cells l.cells + lag_among devices.divider l.divider

-- the lag of a device that is synced where it is reached
abbrev pub lag_left : Bool → ℕ → ℕ
lag_left reached lag = if reached then 0 else lag

-- these devices synced, and the others as they were
abbrev pub with_synced : DeviceSet → DeviceLags → DeviceLags
with_synced devices l = record {
  vector = lag_left devices.vector l.vector;
  sound1 = lag_left devices.sound1 l.sound1;
  sound2 = lag_left devices.sound2 l.sound2;
  cells = lag_left devices.cells l.cells;
  divider = lag_left devices.divider l.divider;
}

-- how many of the devices lag whose state a read returns
abbrev pub lagging_at : Reads → DeviceLags → ℕ
lagging_at reads l = lagging_among (devices_read reads) l
