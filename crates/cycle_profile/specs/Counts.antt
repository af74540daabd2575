-- Counts that stand at the greatest number of 64 bits. They are this project's own.
use Rattle.std.specs.Prelude.{ℕ, ◌+◌, ◌-◌, ◌^◌, min}
use Rattle.cycle_profile.specs.declared.counts.Counts.{Counts}

-- zeros
abbrev pub no_counts : Counts
no_counts = record { entries = 0; clocks = 0; accesses = 0 }

-- a count that rose by a number
abbrev pub raised : ℕ → ℕ → ℕ
raised count by = min (count + by) (2 ^ 64 - 1)

-- one entry more
abbrev pub more_entered : Counts → Counts
more_entered counts = record counts { entries = raised counts.entries 1 }

-- so many clocks and device accesses more
abbrev pub more_taken : Counts → ℕ → ℕ → Counts
more_taken counts clocks accesses =
    record counts { clocks = raised counts.clocks clocks; accesses = raised counts.accesses accesses }
