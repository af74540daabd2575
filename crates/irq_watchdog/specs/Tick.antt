-- The interrupt divider and the watchdog. This project's own choice.
use Rattle.std.specs.Prelude.{◌+◌, ◌/◌, ◌%◌, ◌^◌, Bool, true, false, ◌==◌, if◌then◌else◌}
use Rattle.board_base.specs.declared.divider.TheConstants.{DIVIDER_PERIOD, WATCHDOG_WRAPS}
use Rattle.board_base.specs.declared.divider.Pending.TheVariants.{Nothing, Watchdog}
use Rattle.board_base.specs.Divider.{DividerValue}

-- a wrap asks for an interrupt, and the last of those that the watchdog counts for a reset
unfoldable pub wrapped : DividerValue → DividerValue
wrapped d =
    if d.dog + 1 == WATCHDOG_WRAPS
    then record d { phase = 0; irq = true; dog = 0; pending = Watchdog }
    else record d { phase = 0; irq = true; dog = d.dog + 1 }

-- one clock: the phase rises by 1, and with a whole period it wraps
unfoldable pub divider_tick : DividerValue → DividerValue
divider_tick d = if d.phase + 1 == DIVIDER_PERIOD then wrapped d else record d { phase = d.phase + 1 }

-- an acknowledge lets go of the interrupt
abbrev pub acknowledged : DividerValue → DividerValue
acknowledged d = record d { irq = false }

-- a clear of the watchdog begins its count anew, and leaves a reset that is pending
abbrev pub watchdog_cleared : DividerValue → DividerValue
watchdog_cleared d = record d { dog = 0 }

-- the pending reset is being taken
abbrev pub reset_taken : DividerValue → DividerValue
reset_taken d = record d { pending = Nothing }

-- the 3 kHz line is bit 8 of the phase
abbrev pub line_3k : DividerValue → Bool
line_3k d = d.phase / 2 ^ 8 % 2 == 1
