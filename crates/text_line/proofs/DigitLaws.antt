-- The decimal digits of a number, and how many there are.
use Rattle.std.proofs.Common.{◌≡◌, ℕ, zero, suc, ◌+◌, ◌*◌, ◌/◌, ◌%◌, ◌^◌, ◌<◌, ◌≤◌, ◌++◌, length, max, arith, ◌∙◌, sym}
use Rattle.std.specs.Fmt.{decimal}
use Rattle.std.proofs.lemmas.Fmt.{length-decimal-le}
use Rattle.itoa.proofs.Decimal.{decimal_four, length_one, length_step_wide}
use Rattle.text_line.specs.Words.{four_digits}

-- a number from a power of ten up to the next has one digit more than the power says
pub length_by_power : (k n : ℕ) → 10 ^ k ≤ n → n < 10 * 10 ^ k → n < 2 ^ 64 → length (decimal n) ≡ k + 1
length_by_power zero n least most fits = length_one n (omega arith)
length_by_power (suc k) n least most fits =
    let step = length_step_wide n (omega arith) (omega arith) in
    let fewer = length_by_power k (n / 10) (omega arith) (omega arith) (omega arith) in
    omega arith

-- and 0 has as many as 1
pub length_from_zero : (k n : ℕ) → 10 ^ k ≤ max n 1 → max n 1 < 10 * 10 ^ k → n < 2 ^ 64 → length (decimal n) ≡ k + 1
length_from_zero k zero least most fits = length_one 0 (omega arith) ∙ sym (length_one 1 (omega arith)) ∙ length_by_power k 1 least most (omega arith)
length_from_zero k (suc n) least most fits = length_by_power k (suc n) (omega arith) (omega arith) fits

-- a number below 256 has at most 3 digits
pub length_small : (n : ℕ) → n < 2 ^ 8 → length (decimal n) ≤ 3
length_small n fits = length-decimal-le 3 n (omega arith) (omega arith) (omega arith)

-- one of 32 bits at most 10
pub length_half : (n : ℕ) → n < 2 ^ 32 → length (decimal n) ≤ 10
length_half n fits = length-decimal-le 10 n (omega arith) (omega arith) (omega arith)

-- one of 64 bits at most 20
pub length_whole : (n : ℕ) → n < 2 ^ 64 → length (decimal n) ≤ 20
length_whole n fits = length-decimal-le 20 n (omega arith) (omega arith) fits

-- the text of a number is that of the number without its last four digits, and these
pub last_four : (n : ℕ) → 10000 ≤ n → n < 2 ^ 64 → decimal n ≡ decimal (n / 10000) ++ four_digits (n % 10000)
last_four n least fits = decimal_four n least fits
