-- Numbers written in digits. This project's own choice.
use Rattle.std.specs.Prelude.{ℕ, ◌+◌, ◌*◌, ◌&&◌, List, [], ◌∷◌, length, nat_le, Option, Some, None, option_and_then, option_map, if◌then◌else◌}
use Rattle.std.specs.Char.{digit_value, is_ascii_digit, is_digit}
use Rattle.std.specs.List.{list_all}
use Rattle.std.specs.Str.Parse.{digits_value}
use Rattle.plain_text.specs.declared.number.TheConstants.{DIGITS}

-- the number of a word of decimal digits, at least one and not too many
abbrev pub decimal_of : List ℕ → Option ℕ
decimal_of word =
    if nat_le 1 (length word) && nat_le (length word) DIGITS && list_all is_ascii_digit word then Some (digits_value 10 word) else None

-- a hexadecimal digit of either case
abbrev pub digit_of : ℕ → Option ℕ
digit_of byte = if is_digit byte 16 then Some (digit_value byte) else None

-- a value is two hexadecimal digits
abbrev pub value_of : List ℕ → Option ℕ
value_of (high ∷ low ∷ []) = option_and_then (λ h. option_map (λ l. 16 * h + l) (digit_of low)) (digit_of high)
value_of _ = None
