-- The prescalers of the POKEY, by 28 and by 114 (C012294 data sheet).
use Rattle.std.specs.Prelude.{ℕ, ◌+◌, Bool, ◌==◌, if◌then◌else◌, zero, suc}
use Rattle.std.specs.Int.{from_bool}

-- the count one tick later: it rises by 1, and at the period it is 0
unfoldable pub counted : ℕ → ℕ → ℕ
counted period count = if count + 1 == period then 0 else count + 1

-- whether that tick pulses
unfoldable pub pulsed : ℕ → ℕ → Bool
pulsed period count = count + 1 == period

-- the count n ticks later
unfoldable pub count_after : ℕ → ℕ → ℕ → ℕ
count_after period count zero = count
count_after period count (suc n) = counted period (count_after period count n)

-- the pulses of the next n ticks
unfoldable pub pulses : ℕ → ℕ → ℕ → ℕ
pulses period count zero = 0
pulses period count (suc n) = pulses period count n + from_bool (pulsed period (count_after period count n))
