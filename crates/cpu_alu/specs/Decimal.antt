-- Sums and differences in decimal mode (MCS6500 Programming Manual, SED); what the digits A to F
-- give is this project's own choice.
use Rattle.std.specs.Prelude.{ℕ, ◌+◌, ◌-◌, ◌%◌, ◌==◌, nat_le, Bool, ◌||◌, if◌then◌else◌, ℤ, pos, negsuc, ◌+ℤ◌, ◌-ℤ◌, int_lt, unsigned_abs}
use Rattle.std.specs.Int.{cast_signed, from_bool, int_rem_euclid, w8}
use Rattle.cpu_alu.specs.declared.flags.Flags.{Flags}
use Rattle.bit_words.specs.Bits.{is_bit}

-- the remainder of z by n, from 0 to n - 1
abbrev pub modulo : ℤ → ℕ → ℕ
modulo z n = unsigned_abs (int_rem_euclid z (pos n))

-- the high digit of a byte, at its place
unfoldable pub high_part : ℕ → ℕ
high_part n = n - n % 16

-- a sum of low digits: from 10 on it skips the six digits that are no decimal ones, and carries
unfoldable pub carried_digit : ℕ → ℕ
carried_digit al = if nat_le 10 al then (al + 6) % 16 + 16 else al

-- a sum whose high digit is no decimal one skips six of them
unfoldable pub corrected_sum : ℕ → ℕ
corrected_sum s = if nat_le 160 s then s + 96 else s

-- the same sum where each high digit, at its place, counts as a signed byte does
unfoldable pub signed_sum : ℕ → ℕ → ℕ → ℤ
signed_sum a m al = cast_signed w8 (high_part a) +ℤ cast_signed w8 (high_part m) +ℤ pos al

-- a number below -128 or above 127
unfoldable pub leaves_byte : ℤ → Bool
leaves_byte z = int_lt z (negsuc 127) || int_lt (pos 127) z

-- the decimal sum of A, an operand and C, and its flags: Z is that of the binary sum, N and V come
-- from the sum before its high digit is corrected, and D and I stay (MCS6500 Programming Manual,
-- decimal mode; it leaves N, V and Z open, and these are the NMOS chip's)
unfoldable pub decimal_adc : ℕ → ℕ → Flags → ℕ × Flags
decimal_adc a m f =
    let al = carried_digit (a % 16 + m % 16 + from_bool f.carry) in
    let s = high_part a + high_part m + al in (
      corrected_sum s % 256,
      record f {
        negative = is_bit s 7;
        overflow = leaves_byte (signed_sum a m al);
        zero = (a + m + from_bool f.carry) % 256 == 0;
        carry = nat_le 256 (corrected_sum s);
      },
    )

-- a difference of low digits: below 0 it skips the six digits that are no decimal ones, and borrows
unfoldable pub borrowed_digit : ℤ → ℤ
borrowed_digit al = if int_lt al (pos 0) then pos (modulo (al -ℤ pos 6) 16) -ℤ pos 16 else al

-- a difference below 0 skips the six high digits that are no decimal ones
unfoldable pub corrected_difference : ℤ → ℤ
corrected_difference s = if int_lt s (pos 0) then s -ℤ pos 96 else s

-- the decimal difference of A, an operand and a borrow, which is a clear carry
-- (MCS6500 Programming Manual, decimal mode)
unfoldable pub decimal_sbc : ℕ → ℕ → Bool → ℕ
decimal_sbc a m carry =
    let al = borrowed_digit (pos (a % 16) -ℤ pos (m % 16) +ℤ pos (from_bool carry) -ℤ pos 1) in
    modulo (corrected_difference (pos (high_part a) -ℤ pos (high_part m) +ℤ al)) 256
