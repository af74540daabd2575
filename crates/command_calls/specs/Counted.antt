-- Bytes that are counted. This project's own.
use Rattle.std.specs.Prelude.{ℕ, ◌-◌, ◌^◌, min}

-- a count of bytes stays at the greatest number of 64 bits once it is there
abbrev pub counted : ℕ → ℕ
counted n = min n (2 ^ 64 - 1)
