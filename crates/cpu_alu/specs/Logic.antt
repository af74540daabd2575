-- Tests of bits (MCS6500 Programming Manual).
use Rattle.std.specs.Prelude.{ℕ, Bool, not, ◌&&◌, [], ◌∷◌}
use Rattle.std.specs.List.{list_all}
use Rattle.bit_words.specs.Bits.{is_bit}
use Rattle.cpu_alu.specs.Flags.{byte_of, flags_of, with_result}

-- no bit is set in both of two bytes
unfoldable pub are_disjoint : ℕ → ℕ → Bool
are_disjoint a m = list_all (λ k. not (is_bit a k && is_bit m k)) (0 ∷ 1 ∷ 2 ∷ 3 ∷ 4 ∷ 5 ∷ 6 ∷ 7 ∷ [])

-- BIT: N is bit 7 and V bit 6 of the operand, and Z says that A and the operand have no common bit
-- (MCS6500 Programming Manual, BIT); the other flags stay
unfoldable pub bit_of : ℕ → ℕ → ℕ → ℕ
bit_of a m p = byte_of (record (flags_of p) { negative = is_bit m 7; overflow = is_bit m 6; zero = are_disjoint a m })

-- a status byte with N and Z of a result; the other flags stay (MCS6500 Programming Manual, the
-- flags N and Z)
unfoldable pub nz_of : ℕ → ℕ → ℕ
nz_of r p = byte_of (with_result r (flags_of p))
