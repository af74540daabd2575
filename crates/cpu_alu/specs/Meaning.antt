-- What sums and differences mean as numbers, binary and decimal.
use Rattle.std.specs.Prelude.{◌≡◌, ℕ, ◌+◌, ◌*◌, ◌/◌, ◌%◌, ◌<◌, not, pos, ◌+ℤ◌, ◌-ℤ◌}
use Rattle.std.specs.Int.{cast_signed, from_bool, w8}
use Rattle.cpu_alu.specs.Decimal.{leaves_byte}
use Rattle.cpu_alu.specs.Flags.{flags_of}

-- both digits of a byte are decimal ones
abbrev pub IsDecimal : ℕ → Type 0
IsDecimal n = (n / 16 < 10) × (n % 16 < 10)

-- the number that the two digits of a byte spell in decimal
abbrev pub decimal_value : ℕ → ℕ
decimal_value n = n / 16 * 10 + n % 16

-- D and I are in a new status byte as in the old one
pub record KeepsModes (p after : ℕ) : Type 0 where
  pub decimal : (flags_of after).decimal ≡ (flags_of p).decimal
  pub interrupt : (flags_of after).interrupt ≡ (flags_of p).interrupt

-- what a sum, as result and status byte, says of its summands in binary: C is the ninth bit, and V
-- says that the signed sum is no signed byte
pub record IsSum (a m p : ℕ) (r : ℕ × ℕ) : Type 0 where
  pub sum : r.0 + from_bool (flags_of r.1).carry * 256 ≡ a + m + from_bool (flags_of p).carry
  pub overflow : (flags_of r.1).overflow ≡ leaves_byte (cast_signed w8 a +ℤ cast_signed w8 m +ℤ pos (from_bool (flags_of p).carry))

-- what a sum says of decimal summands: it is decimal too, and C is its hundred
pub record IsDecimalSum (a m p : ℕ) (r : ℕ × ℕ) : Type 0 where
  pub digits : IsDecimal r.0
  pub sum : decimal_value r.0 + from_bool (flags_of r.1).carry * 100 ≡ decimal_value a + decimal_value m + from_bool (flags_of p).carry

-- what a difference says in binary: a clear C is a borrow, and V says that the signed difference is
-- no signed byte
pub record IsDifference (a m p : ℕ) (r : ℕ × ℕ) : Type 0 where
  pub difference : r.0 + m + from_bool (not (flags_of p).carry) ≡ a + from_bool (not (flags_of r.1).carry) * 256
  pub overflow : (flags_of r.1).overflow ≡ leaves_byte (cast_signed w8 a -ℤ cast_signed w8 m -ℤ pos (from_bool (not (flags_of p).carry)))

-- what a difference says of decimal numbers: it is decimal too, and a clear C is a borrowed hundred
pub record IsDecimalDifference (a m p : ℕ) (r : ℕ × ℕ) : Type 0 where
  pub digits : IsDecimal r.0
  pub difference : decimal_value r.0 + decimal_value m + from_bool (not (flags_of p).carry) ≡ decimal_value a + from_bool (not (flags_of r.1).carry) * 100
