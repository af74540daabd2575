-- The numbers of a source. This project's own choice.
use Rattle.std.specs.Prelude.{ℕ, ◌==◌, ◌&&◌, List, [], ◌∷◌, length, Option, Some, None, nat_le, if◌then◌else◌}
use Rattle.std.specs.List.{list_all}
use Rattle.std.specs.Char.{is_digit}
use Rattle.std.specs.Str.Parse.{digits_value}

-- the number that one or more digits of a base write, where it is at most 65,535
abbrev pub digits_in : ℕ → List ℕ → Option ℕ
digits_in base digits =
    if nat_le 1 (length digits) && list_all (λ digit. is_digit digit base) digits && nat_le (digits_value base digits) 65535 then Some (digits_value base digits) else None

-- a number is `$` and hexadecimal digits, `%` and binary digits, or decimal digits
abbrev pub number_of : List ℕ → Option ℕ
number_of [] = None
number_of (first ∷ rest) = if first == 36 then digits_in 16 rest else (if first == 37 then digits_in 2 rest else digits_in 10 (first ∷ rest))
