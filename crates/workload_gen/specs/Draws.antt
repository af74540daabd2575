-- The draws of a seed: a linear congruential generator of 64 bits. This project's own choice.
use Rattle.std.specs.Prelude.{ℕ, ◌+◌, ◌*◌, ◌/◌, ◌%◌, ◌^◌, zero, suc, List, [], ◌∷◌}

-- the number after one; the seed is the first
unfoldable pub next_of : ℕ → ℕ
next_of number = (number * 6364136223846793005 + 1442695040888963407) % 2 ^ 64

-- a number's draw: its sixteen highest bits
unfoldable pub draw_of : ℕ → ℕ
draw_of number = number / 2 ^ 48

-- the number after as many draws
unfoldable pub number_after : ℕ → ℕ → ℕ
number_after number zero = number
number_after number (suc count) = number_after (next_of number) count

-- as many draws of a seed, in their order: each number after the seed has one
unfoldable pub draws_of : ℕ → ℕ → List ℕ
draws_of number zero = []
draws_of number (suc count) = draw_of (next_of number) ∷ draws_of (next_of number) count
