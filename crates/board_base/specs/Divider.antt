-- The interrupt divider and the watchdog, as a plain record. This project's own choice.
use Rattle.std.specs.Prelude.{ℕ, ◌<◌, false}
use Rattle.board_base.specs.declared.divider.TheConstants.{DIVIDER_PERIOD, WATCHDOG_WRAPS}
use Rattle.board_base.specs.declared.divider.Pending.{Pending}
use Rattle.board_base.specs.declared.divider.Pending.TheVariants.{Nothing, Power, Watchdog}
use Rattle.board_base.specs.declared.divider.DividerState.TheInside.{Inside}

-- the fields of `DividerState`
abbrev pub DividerValue : Type 0
DividerValue = Inside

-- a wrap comes each time a whole period is done, and the watchdog counts wraps up to a reset
pub record IsDivider (d : DividerValue) : Type 0 where
  pub phase : d.phase < DIVIDER_PERIOD
  pub dog : d.dog < WATCHDOG_WRAPS

-- the number of a pending reset: none, that of power-on, one by the watchdog
abbrev pub reset_number : Pending → ℕ
reset_number Nothing = 0
reset_number Power = 1
reset_number Watchdog = 2

-- at power-on a power reset is pending
abbrev pub divider_at_power_on : DividerValue
divider_at_power_on = record { phase = 0; irq = false; dog = 0; pending = Power }
