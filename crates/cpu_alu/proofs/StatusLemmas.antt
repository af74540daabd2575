use Rattle.std.proofs.Common.{◌≡◌, ℕ, ◌+◌, ◌*◌, ◌/◌, ◌%◌, ◌<◌, ◌≤◌, ◌==◌, Bool, refl, ap, ◌∙◌, arith}
use Rattle.std.proofs.lemmas.Bool.Decides.{nat_tests}
use Rattle.std.specs.Int.{bit_at, from_bool}
use Rattle.bit_words.proofs.Tables.{same_by_table}
use Rattle.cpu_alu.specs.declared.flags.Flags.{Flags}
use Rattle.bit_words.specs.Bits.{is_bit}
use Rattle.cpu_alu.specs.Flags.{byte_of, flags_of}

pub at_most_one : (b : Bool) → from_bool b ≤ 1
at_most_one b = grind arith

same_digit : (b : Bool) → (from_bool b == 1) ≡ b
same_digit b = grind (arith, nat_tests)

-- the binary digits of a sum of powers of two
digits : (n v d i z c : ℕ) → n ≤ 1 → v ≤ 1 → d ≤ 1 → i ≤ 1 → z ≤ 1 → c ≤ 1 → (s : ℕ) → s ≡ n * 128 + v * 64 + d * 8 + i * 4 + z * 2 + c
    → (s / 128 % 2 ≡ n) × (s / 64 % 2 ≡ v) × (s / 8 % 2 ≡ d) × (s / 4 % 2 ≡ i) × (s / 2 % 2 ≡ z) × (s / 1 % 2 ≡ c)
digits n v d i z c hn hv hd hi hz hc s e = omega arith

one_bit : (f : Flags) (k : ℕ) (b : Bool) → bit_at (byte_of f) k ≡ from_bool b → is_bit (byte_of f) k ≡ b
one_bit f k b e = ap (λ (n : ℕ). n == 1) e ∙ same_digit b

-- a status byte has its flags back
pub flags_of_byte : (f : Flags) → flags_of (byte_of f) ≡ f
unfolding flags_of byte_of
flags_of_byte f =
    let one : (b : Bool) → from_bool b ≤ 1 = at_most_one in
    let bits = digits _ _ _ _ _ _ (one f.negative) (one f.overflow) (one f.decimal) (one f.interrupt) (one f.zero) (one f.carry) (byte_of f) refl in
    rw (
      one_bit f 7 f.negative bits.0,
      one_bit f 6 f.overflow bits.1,
      one_bit f 3 f.decimal bits.2,
      one_bit f 2 f.interrupt bits.3,
      one_bit f 1 f.zero bits.4,
      one_bit f 0 f.carry bits.5,
    )

-- a status byte is that of its flags, but for bits 4 and 5
pub byte_of_flags : (p : ℕ) → p < 256 → byte_of (flags_of p) + p / 16 % 4 * 16 ≡ p
unfolding flags_of byte_of
byte_of_flags = same_by_table 256 (λ p. byte_of (flags_of p) + p / 16 % 4 * 16) (λ p. p) refl
