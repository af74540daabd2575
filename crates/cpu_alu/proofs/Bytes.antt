use Rattle.std.proofs.Common.{◌≡◌, ℕ, ◌-◌, not, ◌+◌, ◌*◌, ◌/◌, ◌%◌, ◌<◌, nat_lt, arith, Bool, true, false, refl}
use Rattle.std.proofs.lemmas.Bool.Decides.{nat_tests}
use Rattle.std.specs.Int.{from_bool}
use Rattle.bit_words.proofs.Tables.{same_by_table}
use Rattle.cpu_alu.specs.Shifts.{left_by, right_by}

pub left_with_zero : (m : ℕ) → m < 256 → m * 2 % 256 ≡ left_by false m
unfolding left_by
left_with_zero = same_by_table 256 (λ m. m * 2 % 256) (left_by false) refl

pub left_with_one : (m : ℕ) → m < 256 → m * 2 % 256 + 1 ≡ left_by true m
unfolding left_by
left_with_one = same_by_table 256 (λ m. m * 2 % 256 + 1) (left_by true) refl

pub right_with_zero : (m : ℕ) → m < 256 → m / 2 ≡ right_by false m
unfolding right_by
right_with_zero = same_by_table 256 (λ m. m / 2) (right_by false) refl

pub right_with_one : (m : ℕ) → m < 256 → m / 2 + 128 ≡ right_by true m
unfolding right_by
right_with_one = same_by_table 256 (λ m. m / 2 + 128) (right_by true) refl

pub carried_sum : (r s : ℕ) (c : Bool) → r < 256 → r + from_bool c * 256 ≡ s → r ≡ s % 256
carried_sum r s c h e = grind arith

pub carried_out : (r s : ℕ) (c : Bool) → r < 256 → r + from_bool c * 256 ≡ s → c ≡ nat_lt 255 s
carried_out r s c h e = grind (arith, nat_tests)

-- a difference with a borrow is the sum of the complement and a carry
pub borrowed_difference : (r a m : ℕ) (b c : Bool) → r < 256 → a < 256 → m < 256 → r + m + from_bool (not c) ≡ a + from_bool b * 256
    → (r ≡ (a + (255 - m) + from_bool c) % 256) × (not b ≡ nat_lt 255 (a + (255 - m) + from_bool c))
borrowed_difference r a m b c hr ha hm e = grind (arith, nat_tests)
