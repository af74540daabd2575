-- How a field holds a signed number.
use Rattle.std.specs.Prelude.{ℕ, ℤ, pos, unsigned_abs}
use Rattle.std.specs.Int.{int_rem_euclid}

-- the remainder by a number, from 0 up: how a field with that many values holds a signed number
abbrev pub residue : ℕ → ℤ → ℕ
residue modulus z = unsigned_abs (int_rem_euclid z (pos modulus))
