-- How a channel counts its pulses down (POKEY C012294 data sheet, AUDF). A countdown is a pair: the
-- pulses before the next underflow, that one's pulse included, and how often it has underflowed.
use Rattle.std.specs.Prelude.{ℕ, ◌+◌, ◌-◌, ◌==◌, if◌then◌else◌, zero, suc}

-- one pulse is counted; the last one before an underflow begins a whole period
unfoldable pub pulse_taken : ℕ → ℕ × ℕ → ℕ × ℕ
pulse_taken period s = if s.0 - 1 == 0 then (period, s.1 + 1) else (s.0 - 1, s.1)

-- n pulses, one after another
unfoldable pub skipped : ℕ → ℕ → ℕ × ℕ → ℕ × ℕ
skipped period zero s = s
skipped period (suc n) s = pulse_taken period (skipped period n s)
