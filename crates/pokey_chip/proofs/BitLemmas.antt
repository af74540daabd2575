-- Single bits of small numbers.
use borrow.Author.Tests.{ltb-true}
use Rattle.std.proofs.Common.{nat_lt, ◌≡◌, ℕ, ◌*◌, ◌%◌, ◌^◌, ◌<◌, ◌≤◌, Bool, true, false, refl, arith, bit_and, bit_or}
use Rattle.std.proofs.lemmas.Nat.{or_lt}
use Rattle.std.specs.Int.{bit_not, w8}
use Rattle.bit_words.proofs.Tables.{same_by_tables}
use Rattle.pokey_chip.specs.Tick.{with_bit}

pub bit_set : (k : ℕ) → k < 4 → (n : ℕ) → n < 16 → bit_or n (1 * 2 ^ k % 2 ^ 8) ≡ with_bit n k true
unfolding with_bit
bit_set = same_by_tables 4 16 (λ k n. bit_or n (1 * 2 ^ k % 2 ^ 8)) (λ k n. with_bit n k true) refl

pub bit_cleared : (k : ℕ) → k < 4 → (n : ℕ) → n < 16 → bit_and n (bit_not w8 (1 * 2 ^ k % 2 ^ 8)) ≡ with_bit n k false
unfolding with_bit
bit_cleared = same_by_tables 4 16 (λ k n. bit_and n (bit_not w8 (1 * 2 ^ k % 2 ^ 8))) (λ k n. with_bit n k false) refl

fits : (k : ℕ) → k < 4 → (n : ℕ) → n < 16 → (bit : Bool) → nat_lt (with_bit n k bit) 16 ≡ true
unfolding with_bit
fits k h n small true = same_by_tables 4 16 (λ k n. nat_lt (with_bit n k true) 16) (λ k n. true) refl k h n small
fits k h n small false = same_by_tables 4 16 (λ k n. nat_lt (with_bit n k false) 16) (λ k n. true) refl k h n small

-- four bits stay four
pub with_bit_fits : (k : ℕ) → k < 4 → (n : ℕ) → n < 16 → (bit : Bool) → with_bit n k bit < 16
with_bit_fits k h n small bit = ltb-true (with_bit n k bit) 16 (fits k h n small bit)

pass_fits : (k : ℕ) → k < 2 → (n : ℕ) → n < 4 → (bit : Bool) → nat_lt (with_bit n k bit) 4 ≡ true
unfolding with_bit
pass_fits k h n small true = same_by_tables 2 4 (λ k n. nat_lt (with_bit n k true) 4) (λ k n. true) refl k h n small
pass_fits k h n small false = same_by_tables 2 4 (λ k n. nat_lt (with_bit n k false) 4) (λ k n. true) refl k h n small

-- two bits stay two
pub with_bit_fits_two : (k : ℕ) → k < 2 → (n : ℕ) → n < 4 → (bit : Bool) → with_bit n k bit < 4
with_bit_fits_two k h n small bit = ltb-true (with_bit n k bit) 4 (pass_fits k h n small bit)

-- a bit made 0 makes no number greater, so three bits stay three
pub lowered : (n k : ℕ) → with_bit n k false ≤ n
unfolding with_bit
lowered n k = omega arith

pub with_bit_fits_three : (k : ℕ) → k < 3 → (n : ℕ) → n < 8 → with_bit n k false < 8
with_bit_fits_three k h n small = omega (arith, lowered n k)

pub ruleset bit_writes = (bit_set, bit_cleared, with_bit_fits, with_bit_fits_two, with_bit_fits_three)

pub bit_or_fits : (a b : ℕ) → a < 8 → b < 8 → bit_or a b < 8
bit_or_fits a b h g = or_lt 3 a b h g

pub ruleset bit_joins = bit_or_fits
