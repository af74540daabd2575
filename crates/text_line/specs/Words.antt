-- The words of a line of text, which are this project's own.
use Rattle.std.specs.Prelude.{ℕ, ◌+◌, ◌/◌, ◌%◌, List, [], ◌∷◌, ◌++◌, true}
use Rattle.std.specs.Fmt.{digit_glyph}
use Rattle.std.specs.List.{join_with_byte}

-- words with a blank between each two, and LF at the end
abbrev pub line : List (List ℕ) → List ℕ
line words = join_with_byte 32 words ++ 10 ∷ []

-- a byte as two capital hexadecimal digits
abbrev pub hex_byte : ℕ → List ℕ
hex_byte n = digit_glyph true (n / 16) ∷ digit_glyph true (n % 16) ∷ []

-- a word of 16 bits as four capital hexadecimal digits
abbrev pub hex_word : ℕ → List ℕ
hex_word n = hex_byte (n / 256) ++ hex_byte (n % 256)

-- a number below 100 as two decimal digits
abbrev pub two_digits : ℕ → List ℕ
two_digits n = (48 + n / 10) ∷ (48 + n % 10) ∷ []

-- a number below 10,000 as four decimal digits
abbrev pub four_digits : ℕ → List ℕ
four_digits n = two_digits (n / 100) ++ two_digits (n % 100)
