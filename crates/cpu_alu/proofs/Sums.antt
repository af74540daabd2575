use Rattle.std.proofs.Common.{◌≡◌, ℕ, ◌+◌, ◌-◌, ◌*◌, ◌/◌, ◌%◌, ◌<◌, ◌≤◌, nat_lt, nat_le, Bool, true, false, not, pos, ℤ, ◌+ℤ◌, ◌-ℤ◌, refl, ap, subst, sym, ◌∙◌, arith}
use Rattle.std.proofs.lemmas.Int.{ints}
use Rattle.std.specs.Int.{cast_signed, from_bool, w8}
use Rattle.bit_words.proofs.Tables.{same_by_table}
use Rattle.cpu_alu.proofs.StatusLemmas.{at_most_one, flags_of_byte}
use Rattle.cpu_alu.specs.declared.flags.Flags.{Flags}
use Rattle.cpu_alu.specs.Arithmetic.{adc_of, binary_adc, overflows, sbc_of, with_byte}
use Rattle.bit_words.specs.Bits.{is_bit}
use Rattle.cpu_alu.specs.Decimal.{borrowed_digit, carried_digit, corrected_difference, corrected_sum, decimal_adc, decimal_sbc, high_part, leaves_byte, modulo}
use Rattle.cpu_alu.specs.Flags.{flags_of, with_result}
use Rattle.cpu_alu.specs.Meaning.{IsDecimal, IsDecimalDifference, IsDecimalSum, IsDifference, IsSum, decimal_value}

-- the corrections in the range of decimal digits, as sums
digit_carried : (al : ℕ) → al < 20 → carried_digit al ≡ al + 6 * (al / 10)
unfolding carried_digit
digit_carried = same_by_table 20 carried_digit (λ al. al + 6 * (al / 10)) refl

sum_corrected : (s : ℕ) → s < 320 → corrected_sum s ≡ s + 96 * (s / 160)
unfolding corrected_sum
sum_corrected = same_by_table 320 corrected_sum (λ s. s + 96 * (s / 160)) refl

carry_digit : (x : ℕ) → x < 512 → from_bool (nat_le 256 x) ≡ x / 256
carry_digit = same_by_table 512 (λ x. from_bool (nat_le 256 x)) (λ x. x / 256) refl

digit_borrowed : (k : ℕ) → k < 20 → borrowed_digit (pos k -ℤ pos 10) ≡ pos (k + 6 * (k / 10)) -ℤ pos 16
unfolding borrowed_digit
digit_borrowed = same_by_table 20 (λ k. borrowed_digit (pos k -ℤ pos 10)) (λ k. pos (k + 6 * (k / 10)) -ℤ pos 16) refl

difference_corrected : (j : ℕ) → j < 320 → modulo (corrected_difference (pos j -ℤ pos 160)) 256 ≡ (j + 96 * (j / 160)) % 256
unfolding corrected_difference
difference_corrected = same_by_table 320 (λ j. modulo (corrected_difference (pos j -ℤ pos 160)) 256) (λ j. (j + 96 * (j / 160)) % 256) refl

-- the digits of a corrected sum, and of a corrected difference
summed : (ha la hm lm c al s x : ℕ) → ha < 10 → la < 10 → hm < 10 → lm < 10 → c ≤ 1
    → al ≡ la + lm + c → s ≡ 16 * ha + 16 * hm + (al + 6 * (al / 10)) → x ≡ s + 96 * (s / 160)
    → (x % 256 / 16 < 10) × (x % 256 % 16 < 10) × (x % 256 / 16 * 10 + x % 256 % 16 + x / 256 * 100 ≡ ha * 10 + la + (hm * 10 + lm) + c)
summed ha la hm lm c al s x h1 h2 h3 h4 h5 e1 e2 e3 = (omega arith, omega arith, omega arith)

differed : (ha la hm lm c k j r x : ℕ) → ha < 10 → la < 10 → hm < 10 → lm < 10 → c ≤ 1
    → k + lm ≡ la + c + 9 → j + 16 * hm ≡ 16 * ha + (k + 6 * (k / 10)) + 144 → r ≡ (j + 96 * (j / 160)) % 256
    → x + (16 * hm + lm) ≡ 16 * ha + la + 255 + c
    → (r / 16 < 10) × (r % 16 < 10) × (r / 16 * 10 + r % 16 + (hm * 10 + lm) + (1 - c) ≡ ha * 10 + la + (1 - x / 256) * 100)
differed ha la hm lm c k j r x h1 h2 h3 h4 h5 e1 e2 e3 e4 = (omega arith, omega arith, omega arith)

sign : (n : ℕ) → n < 256 → is_bit n 7 ≡ nat_le 128 n
sign = same_by_table 256 (λ n. is_bit n 7) (λ n. nat_le 128 n) refl

signed_complement : (m : ℕ) → m < 256 → cast_signed w8 (255 - m) ≡ pos 0 -ℤ cast_signed w8 m -ℤ pos 1
signed_complement = same_by_table 256 (λ m. cast_signed w8 (255 - m)) (λ m. pos 0 -ℤ cast_signed w8 m -ℤ pos 1) refl

overflow_is : (a m c : ℕ) → a < 256 → m < 256 → c ≤ 1 → overflows a m ((a + m + c) % 256) ≡ leaves_byte (cast_signed w8 a +ℤ cast_signed w8 m +ℤ pos c)
unfolding overflows leaves_byte
overflow_is a m c ha hm hc = rw (sign a ha, sign m hm, sign ((a + m + c) % 256) (omega arith)) (grind (arith, ints))

not_digit : (b : Bool) → from_bool (not b) ≡ 1 - from_bool b
not_digit b = grind arith

ninth_bit : (s : ℕ) → s < 512 → from_bool (nat_lt 255 s) ≡ s / 256
ninth_bit = same_by_table 512 (λ s. from_bool (nat_lt 255 s)) (λ s. s / 256) refl

-- the flags after a binary and after a decimal sum
binary_carry : (a m : ℕ) (f : Flags) → (flags_of (with_byte (binary_adc a m f)).1).carry ≡ nat_lt 255 (a + m + from_bool f.carry)
unfolding binary_adc with_result
binary_carry a m f = ap (λ (g : Flags). g.carry) (flags_of_byte (binary_adc a m f).1)

binary_overflow : (a m : ℕ) (f : Flags) → (flags_of (with_byte (binary_adc a m f)).1).overflow ≡ overflows a m ((a + m + from_bool f.carry) % 256)
unfolding binary_adc with_result
binary_overflow a m f = ap (λ (g : Flags). g.overflow) (flags_of_byte (binary_adc a m f).1)

decimal_carry : (a m : ℕ) (f : Flags) → (flags_of (with_byte (decimal_adc a m f)).1).carry
    ≡ nat_le 256 (corrected_sum (high_part a + high_part m + carried_digit (a % 16 + m % 16 + from_bool f.carry)))
unfolding decimal_adc
decimal_carry a m f = ap (λ (g : Flags). g.carry) (flags_of_byte (decimal_adc a m f).1)

binary_sum : (a m : ℕ) (f : Flags) → a < 256 → m < 256
    → (with_byte (binary_adc a m f)).0 + from_bool (flags_of (with_byte (binary_adc a m f)).1).carry * 256 ≡ a + m + from_bool f.carry
unfolding binary_adc
binary_sum a m f ha hm =
    let c = at_most_one f.carry in
    rw (binary_carry a m f, ninth_bit (a + m + from_bool f.carry) (omega arith)) (omega arith)

adc_binary : (a m p : ℕ) → (flags_of p).decimal ≡ false → adc_of a m p ≡ with_byte (binary_adc a m (flags_of p))
unfolding adc_of
adc_binary a m p e = rw e

adc_decimal : (a m p : ℕ) → (flags_of p).decimal ≡ true → adc_of a m p ≡ with_byte (decimal_adc a m (flags_of p))
unfolding adc_of
adc_decimal a m p e = rw e

pub is_sum : (a m p : ℕ) (r : ℕ × ℕ) → a < 256 → m < 256 → r ≡ adc_of a m p → (flags_of p).decimal ≡ false → IsSum a m p r
is_sum a m p r ha hm is binary =
    subst (λ (q : ℕ × ℕ). IsSum a m p q) (sym (is ∙ adc_binary a m p binary)) (record {
      sum = binary_sum a m (flags_of p) ha hm;
      overflow = binary_overflow a m (flags_of p) ∙ overflow_is a m (from_bool (flags_of p).carry) ha hm (at_most_one (flags_of p).carry);
    })

high_is : (n : ℕ) → high_part n ≡ 16 * (n / 16)
unfolding high_part
high_is n = omega arith

decimal_sum : (a m c x : ℕ) → IsDecimal a → IsDecimal m → c ≤ 1
    → x ≡ corrected_sum (high_part a + high_part m + carried_digit (a % 16 + m % 16 + c))
    → (x % 256 / 16 < 10) × (x % 256 % 16 < 10) × (decimal_value (x % 256) + from_bool (nat_le 256 x) * 100 ≡ decimal_value a + decimal_value m + c)
decimal_sum a m c x da dm hc is =
    let al : ℕ = a % 16 + m % 16 + c in
    let s : ℕ = 16 * (a / 16) + 16 * (m / 16) + (al + 6 * (al / 10)) in
    let carried : carried_digit al ≡ al + 6 * (al / 10) = digit_carried al (omega arith) in
    let summed_up : high_part a + high_part m + carried_digit al ≡ s = rw (high_is a, high_is m, carried) in
    let corrected : x ≡ s + 96 * (s / 160) = is ∙ ap corrected_sum summed_up ∙ sum_corrected s (omega arith) in
    let small : x < 512 = omega arith in
    rw (carry_digit x small) (summed (a / 16) (a % 16) (m / 16) (m % 16) c al s x da.0 da.1 dm.0 dm.1 hc refl refl corrected)

pub is_decimal_sum : (a m p : ℕ) (r : ℕ × ℕ) → r ≡ adc_of a m p → (flags_of p).decimal ≡ true → IsDecimal a → IsDecimal m → IsDecimalSum a m p r
unfolding decimal_adc
is_decimal_sum a m p r is decimal da dm =
    let f : Flags = flags_of p in
    let x : ℕ = corrected_sum (high_part a + high_part m + carried_digit (a % 16 + m % 16 + from_bool f.carry)) in
    let parts = decimal_sum a m (from_bool f.carry) x da dm (at_most_one f.carry) refl in
    subst (λ (q : ℕ × ℕ). IsDecimalSum a m p q) (sym (is ∙ adc_decimal a m p decimal)) (record {
      digits = (parts.0, parts.1);
      sum = rw (decimal_carry a m f) parts.2;
    })

-- the flags after a difference are those of the binary one
sbc_flags : (a m p : ℕ) → (sbc_of a m p).1 ≡ (with_byte (binary_adc a (255 - m) (flags_of p))).1
unfolding sbc_of
sbc_flags a m p = refl

sbc_binary : (a m p : ℕ) → (flags_of p).decimal ≡ false → (sbc_of a m p).0 ≡ (binary_adc a (255 - m) (flags_of p)).0
unfolding sbc_of
sbc_binary a m p e = rw e

sbc_decimal : (a m p : ℕ) → (flags_of p).decimal ≡ true → (sbc_of a m p).0 ≡ decimal_sbc a m (flags_of p).carry
unfolding sbc_of
sbc_decimal a m p e = rw e

sbc_carry : (a m p : ℕ) → (flags_of (sbc_of a m p).1).carry ≡ nat_lt 255 (a + (255 - m) + from_bool (flags_of p).carry)
sbc_carry a m p = ap (λ (q : ℕ). (flags_of q).carry) (sbc_flags a m p) ∙ binary_carry a (255 - m) (flags_of p)

complement_sum : (x y : ℤ) (c : ℕ) → c ≤ 1 → x +ℤ (pos 0 -ℤ y -ℤ pos 1) +ℤ pos c ≡ x -ℤ y -ℤ pos (1 - c)
complement_sum x y c h = omega (arith, ints)

sbc_overflow : (a m p : ℕ) → a < 256 → m < 256
    → (flags_of (sbc_of a m p).1).overflow ≡ leaves_byte (cast_signed w8 a -ℤ cast_signed w8 m -ℤ pos (1 - from_bool (flags_of p).carry))
sbc_overflow a m p ha hm =
    let c : ℕ = from_bool (flags_of p).carry in
    let one : c ≤ 1 = at_most_one (flags_of p).carry in
    ap (λ (q : ℕ). (flags_of q).overflow) (sbc_flags a m p)
    ∙ binary_overflow a (255 - m) (flags_of p)
    ∙ overflow_is a (255 - m) c ha (omega arith) one
    ∙ ap (λ (y : ℤ). leaves_byte (cast_signed w8 a +ℤ y +ℤ pos c)) (signed_complement m hm)
    ∙ ap leaves_byte (complement_sum (cast_signed w8 a) (cast_signed w8 m) c one)

binary_difference : (a m p : ℕ) → a < 256 → m < 256 → (flags_of p).decimal ≡ false
    → (sbc_of a m p).0 + m + from_bool (not (flags_of p).carry) ≡ a + from_bool (not (flags_of (sbc_of a m p).1).carry) * 256
unfolding binary_adc
binary_difference a m p ha hm binary =
    let c = at_most_one (flags_of p).carry in
    rw (
      sbc_binary a m p binary,
      sbc_carry a m p,
      not_digit (flags_of p).carry,
      not_digit (nat_lt 255 (a + (255 - m) + from_bool (flags_of p).carry)),
      ninth_bit (a + (255 - m) + from_bool (flags_of p).carry) (omega arith),
    ) (omega arith)

pub is_difference : (a m p : ℕ) (r : ℕ × ℕ) → a < 256 → m < 256 → r ≡ sbc_of a m p → (flags_of p).decimal ≡ false → IsDifference a m p r
is_difference a m p r ha hm is binary =
    subst (λ (q : ℕ × ℕ). IsDifference a m p q) (sym is) (record {
      difference = binary_difference a m p ha hm binary;
      overflow = rw (not_digit (flags_of p).carry) (sbc_overflow a m p ha hm);
    })

low_difference : (la lm c k : ℕ) → k + lm ≡ la + c + 9 → pos la -ℤ pos lm +ℤ pos c -ℤ pos 1 ≡ pos k -ℤ pos 10
low_difference la lm c k e = omega (arith, ints)

high_difference : (ha hm d j : ℕ) → j + 16 * hm ≡ 16 * ha + d + 144 → pos (16 * ha) -ℤ pos (16 * hm) +ℤ (pos d -ℤ pos 16) ≡ pos j -ℤ pos 160
high_difference ha hm d j e = omega (arith, ints)

decimal_difference : (a m k j : ℕ) (c : Bool) → IsDecimal a → IsDecimal m → k + m % 16 ≡ a % 16 + from_bool c + 9
    → j + 16 * (m / 16) ≡ 16 * (a / 16) + (k + 6 * (k / 10)) + 144 → decimal_sbc a m c ≡ (j + 96 * (j / 160)) % 256
unfolding decimal_sbc
decimal_difference a m k j c da dm low high =
    let one : from_bool c ≤ 1 = at_most_one c in
    let few : k < 20 = omega arith in
    let small : j < 320 = omega arith in
    rw (
      low_difference (a % 16) (m % 16) (from_bool c) k low,
      digit_borrowed k few,
      high_is a,
      high_is m,
      high_difference (a / 16) (m / 16) (k + 6 * (k / 10)) j high,
      difference_corrected j small,
    )

pub is_decimal_difference : (a m p : ℕ) (r : ℕ × ℕ) → a < 256 → m < 256 → r ≡ sbc_of a m p → (flags_of p).decimal ≡ true → IsDecimal a → IsDecimal m → IsDecimalDifference a m p r
is_decimal_difference a m p r ha hm is decimal da dm =
    let f : Flags = flags_of p in
    let one : from_bool f.carry ≤ 1 = at_most_one f.carry in
    let k : ℕ = a % 16 + from_bool f.carry + 9 - m % 16 in
    let j : ℕ = 16 * (a / 16) + (k + 6 * (k / 10)) + 144 - 16 * (m / 16) in
    let x : ℕ = a + (255 - m) + from_bool f.carry in
    let low : k + m % 16 ≡ a % 16 + from_bool f.carry + 9 = omega arith in
    let high : j + 16 * (m / 16) ≡ 16 * (a / 16) + (k + 6 * (k / 10)) + 144 = omega arith in
    let result : (sbc_of a m p).0 ≡ (j + 96 * (j / 160)) % 256 = sbc_decimal a m p decimal ∙ decimal_difference a m k j f.carry da dm low high in
    let parts = differed (a / 16) (a % 16) (m / 16) (m % 16) (from_bool f.carry) k j (sbc_of a m p).0 x da.0 da.1 dm.0 dm.1 one low high result (omega arith) in
    subst (λ (q : ℕ × ℕ). IsDecimalDifference a m p q) (sym is) (record {
      digits = (parts.0, parts.1);
      difference = rw (sbc_carry a m p, not_digit f.carry, not_digit (nat_lt 255 x), ninth_bit x (omega arith)) parts.2;
    })
