-- A number read digit by digit.
use Rattle.std.proofs.Common.{◌≡◌, ℕ, ◌+◌, ◌-◌, ◌*◌, ◌^◌, ◌<◌, ◌≤◌, true, List, length, get_or, take, arith, rules, tests}
use Rattle.std.specs.Char.{is_ascii_digit}
use Rattle.std.specs.Int.{IsInRange}
use Rattle.std.specs.List.{list_all}
use Rattle.std.specs.Str.Parse.{digits_value}
use Rattle.std.proofs.lemmas.Int.Digits.{digits_value_more}
use Rattle.std.proofs.lemmas.List.{length-take}
use Rattle.std.proofs.lemmas.Str.{digit_value_digit}
use Rattle.std.proofs.lemmas.Str.Parse.{IsNumeralModel, numerals_by_value, digits_value_short}

digits_are_numerals : IsNumeralModel (λ ds. list_all is_ascii_digit ds ≡ true) (digits_value 10)
digits_are_numerals = numerals_by_value (λ ds. list_all is_ascii_digit ds ≡ true) (search rules)

-- up to 14 digits are a number below 10^14
pub digits_value-lt : (word : List ℕ) (i : ℕ) → list_all is_ascii_digit (take i word) ≡ true → i ≤ 14 → digits_value 10 (take i word) < 10 ^ 14
digits_value-lt word i digits short = digits_value_short digits_are_numerals (take i word) 14 digits (omega (arith, length-take i word))

-- one digit more
pub digits_value-next : (word : List ℕ) (i : ℕ) → i < length word → is_ascii_digit (get_or word i 0) ≡ true
    → digits_value 10 (take (i + 1) word) ≡ 10 * digits_value 10 (take i word) + (get_or word i 0 - 48)
digits_value-next word i inside is =
    let range : IsInRange 48 57 (get_or word i 0) = search (rules, tests) in
    omega (arith, digits_value_more 10 word i inside, digit_value_digit (get_or word i 0) range)

pub ruleset digits = (digits_value-lt, digits_value-next)
