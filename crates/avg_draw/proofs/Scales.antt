-- Scales, distances and drawing times stay in their ranges.
use Rattle.std.proofs.Common.{◌≡◌, ℕ, ◌+◌, ◌-◌, ◌*◌, ◌/◌, ◌%◌, ◌^◌, ◌<◌, ◌≤◌, nat_le, nat_lt, Bool, true, false, ℤ, pos}
use Rattle.std.proofs.Common.{negsuc, ◌*ℤ◌, ◌≤ℤ◌, List, [], ◌∷◌, suc, max, refl, sym, ◌∙◌, add-one, cond, FitsSigned, to_z, of_z, arith}
use Rattle.std.proofs.Math.Nat.{mul-le-mul, pow-succ'}
use Rattle.std.proofs.Math.Pow.{pow_mono}
use Rattle.std.proofs.lemmas.Int.{ints, to_z-of_z}
use Rattle.std.proofs.lemmas.Nat.{one_shl, leading_length, or_lt, le_or_l, le_or_r}
use Rattle.std.proofs.lemmas.Bool.Decides.{nat_tests}
use Rattle.std.specs.Int.{w32}
use Rattle.std.specs.Int.Bits.{bit_or}
use Rattle.std.specs.List.{count_by, fold, range_with_len}
use Rattle.bit_words.proofs.Tables.{same_by_table, same_by_tables}
use Rattle.avg_draw.specs.Beam.{binary_digits}

-- the widest scale is 256 * 2^7
pub scale_bound : (lin bin : ℕ) → (256 - lin) * 2 ^ (7 - bin) ≤ 32768
scale_bound lin bin =
    let steps : 256 - lin ≤ 256 = omega arith in
    let halves : 7 - bin ≤ 7 = omega arith in
    mul-le-mul steps (pow_mono halves)

pub scale_shift : (bin : ℕ) → 1 * 2 ^ (7 - bin) % 65536 ≡ 2 ^ (7 - bin)
scale_shift bin = let few : 7 - bin < 16 = omega arith in one_shl (7 - bin) 16 few

-- a distance of 13 bits at the widest scale
pub delta_high : (d : ℤ) (s : ℕ) → negsuc 4095 ≤ℤ d → d ≤ℤ pos 4095 → s ≤ 32768 → (d *ℤ pos s) ≤ℤ pos 134217728
delta_high (pos n) s low high wide =
    let near : n ≤ 4095 = omega (arith, ints) in
    let product : n * s ≤ 4095 * 32768 = mul-le-mul near wide in
    omega (arith, ints)
delta_high (negsuc n) s low high wide = omega (arith, ints)

pub delta_low : (d : ℤ) (s : ℕ) → negsuc 4095 ≤ℤ d → d ≤ℤ pos 4095 → s ≤ 32768 → negsuc 134217727 ≤ℤ (d *ℤ pos s)
delta_low (pos n) s low high wide = omega (arith, ints)
delta_low (negsuc n) s low high wide =
    let near : suc n ≤ 4096 = omega (arith, ints) in
    let product : suc n * s ≤ 4096 * 32768 = mul-le-mul near wide in
    omega (arith, ints)

-- a product in 32 bits
pub delta_fits : (d a b : ℤ) (s : ℕ) → negsuc 4095 ≤ℤ d → d ≤ℤ pos 4095 → s ≤ 32768 → a ≡ d → b ≡ pos s
    → to_z w32 (of_z w32 (to_z w32 (of_z w32 a) *ℤ to_z w32 (of_z w32 b))) ≡ d *ℤ pos s
delta_fits d a b s low high wide is_d is_s =
    let above = delta_low d s low high wide in
    let below = delta_high d s low high wide in
    let fits : FitsSigned w32 (d *ℤ pos s) = omega (arith, ints) in
    let fits_d : FitsSigned w32 d = omega (arith, ints) in
    let fits_s : FitsSigned w32 (pos s) = omega (arith, ints) in
    rw (is_d, is_s, to_z-of_z w32 d fits_d, to_z-of_z w32 (pos s) fits_s, to_z-of_z w32 (d *ℤ pos s) fits) refl

-- tests that agree count the same
counted_on : (p q : ℕ → Bool) → ((k : ℕ) → p k ≡ q k) → (xs : List ℕ) (a : ℕ)
    → fold (λ a k. a + cond (p k) 1 0) a xs ≡ fold (λ a k. a + cond (q k) 1 0) a xs
counted_on p q same [] a = refl
counted_on p q same (x ∷ xs) a = rw (same x) (counted_on p q same xs (a + cond (q x) 1 0))

count_same : (p q : ℕ → Bool) → ((k : ℕ) → p k ≡ q k) → (xs : List ℕ) → count_by p xs ≡ count_by q xs
count_same p q same xs = counted_on p q same xs 0

count_below : (d : ℕ) → d < 17 → count_by (λ k. nat_lt k d) (range_with_len 0 16) ≡ d
count_below = same_by_table 17 (λ d. count_by (λ k. nat_lt k d) (range_with_len 0 16)) (λ d. d) refl

power_reached : (n d k : ℕ) → 2 ^ d ≤ 2 * n + 1 → k < d → nat_le (2 ^ k) n ≡ true
power_reached n d k reached h =
    let lower : k + 1 ≤ d = omega arith in
    let power : 2 ^ (k + 1) ≤ 2 ^ d = pow_mono lower in
    let twice : 2 ^ (k + 1) ≡ 2 * 2 ^ k = rw (add-one) (pow-succ' 2 k) in
    grind (arith, nat_tests)

power_above : (n d k : ℕ) → n < 2 ^ d → d ≤ k → nat_le (2 ^ k) n ≡ false
power_above n d k below h =
    let power : 2 ^ d ≤ 2 ^ k = pow_mono h in
    grind (arith, nat_tests)

power_up_to : (n d : ℕ) → n < 2 ^ d → 2 ^ d ≤ 2 * n + 1 → (k : ℕ) → nat_le (2 ^ k) n ≡ nat_lt k d
power_up_to n d below reached k = grind (arith, nat_tests, power_reached n d k reached, power_above n d k below)

-- the digits of a number, by the two powers of two that it is between
pub digits_between : (n d : ℕ) → d < 17 → n < 2 ^ d → 2 ^ d ≤ 2 * n + 1 → binary_digits n ≡ d
unfolding binary_digits
digits_between n d few below reached =
    count_same (λ k. nat_le (2 ^ k) n) (λ k. nat_lt k d) (power_up_to n d below reached) (range_with_len 0 16) ∙ count_below d few

-- the digits, by the power of two up to the odd number behind the double
pub digits_are : (n d : ℕ) → d < 16 → 2 ^ d ≤ 2 * n + 1 → 2 * n + 1 < 2 * 2 ^ d → binary_digits n ≡ d
digits_are n d few reached below = digits_between n d (omega arith) (omega arith) reached

pub digits_few : (n : ℕ) → n < 8192 → binary_digits n ≤ 13
digits_few n h =
    let top = leading_length 13 n h in
    omega (arith, top.1, digits_between n top.0 (omega (arith, top.1)) top.2 top.3)

-- a number with the bits of two has as many digits as the larger one
pub either_digits : (a b : ℕ) → a < 2 ^ 16 → b < 2 ^ 16 → binary_digits (bit_or a b) ≡ binary_digits (max a b)
either_digits a b fits_a fits_b =
    let fits : max a b < 2 ^ 16 = omega arith in
    let top = leading_length 16 (max a b) fits in
    let few : top.0 < 17 = omega (arith, top.1) in
    let below : bit_or a b < 2 ^ top.0 = or_lt top.0 a b (omega (arith, top.2)) (omega (arith, top.2)) in
    let reached : 2 ^ top.0 ≤ 2 * bit_or a b + 1 = omega (arith, top.3, le_or_l a b, le_or_r a b) in
    digits_between (bit_or a b) top.0 few below reached ∙ sym (digits_between (max a b) top.0 few top.2 top.3)

pub either_bound : (a b : ℕ) → a ≤ 4096 → b ≤ 4096 → bit_or a b < 8192
either_bound a b few_a few_b = or_lt 13 a b (omega arith) (omega arith)

-- the power of two above the longest distance
pub power_bound : (d : ℕ) → d ≤ 13 → 2 ^ d ≤ 8192
power_bound d h = pow_mono h

pub power_shift : (d : ℕ) → d ≤ 13 → 1 * 2 ^ d % 65536 ≡ 2 ^ d
power_shift d h = let few : d < 16 = omega arith in one_shl d 16 few

-- a power halved is a smaller power, down to 1
pub power_halved : (d b : ℕ) → d ≤ 13 → b < 8 → max 1 (2 ^ d / 2 ^ b) ≡ 2 ^ (d - b)
power_halved d b few h = same_by_tables 14 8 (λ d b. max 1 (2 ^ d / 2 ^ b)) (λ d b. 2 ^ (d - b)) refl d (omega arith) b h
