-- Single bits, and numbers made of them.
use Rattle.std.specs.Prelude.{ℕ, ◌+◌, ◌*◌, ◌==◌, Bool, List, [], ◌∷◌, map}
use Rattle.std.specs.Int.{bit_at, from_bool}
use Rattle.std.specs.List.{range_with_len}

-- bit k of a number is 1; bit 0 is the lowest
abbrev pub is_bit : ℕ → ℕ → Bool
is_bit n k = bit_at n k == 1

-- the bits of a number below this width, the lowest first
abbrev pub bits : ℕ → ℕ → List Bool
bits width n = map (is_bit n) (range_with_len 0 width)

-- the number with these bits, the lowest first
abbrev pub number : List Bool → ℕ
number [] = 0
number (lowest ∷ higher) = from_bool lowest + 2 * number higher
