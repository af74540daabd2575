-- What gives a channel its pulses.
use Rattle.std.specs.Prelude.{ℕ, ◌<◌}
use Rattle.board_base.specs.declared.pokey.TheConstants.{PRESCALER_BASE, PRESCALER_LINE}
use Rattle.pokey_timer.specs.Prescaler.{pulses}
use Rattle.pokey_chip.specs.declared.clock_source.ClockSource.{ClockSource}
use Rattle.pokey_chip.specs.declared.clock_source.ClockSource.TheVariants.{Never, ChipClock, By28, By114}

-- the pulses of n clocks
abbrev pub source_pulses : ClockSource → ℕ → ℕ
source_pulses Never n = 0
source_pulses ChipClock n = n
source_pulses (By28 count) n = pulses PRESCALER_BASE count n
source_pulses (By114 count) n = pulses PRESCALER_LINE count n

-- a prescaler's count is below its period
abbrev pub IsClockSource : ClockSource → Type 0
IsClockSource Never = Unit {0}
IsClockSource ChipClock = Unit {0}
IsClockSource (By28 count) = count < PRESCALER_BASE
IsClockSource (By114 count) = count < PRESCALER_LINE
