-- The beam of the vector generator, in the integers. Scales and drawing times are this project's
-- own choice.
use Rattle.std.specs.Prelude.{ℕ, ◌-◌, ◌*◌, ◌/◌, ◌^◌, max, nat_le, count_by, ℤ, pos, neg_ℤ, ◌*ℤ◌, unsigned_abs}
use Rattle.std.specs.Int.{int_max, int_min}
use Rattle.std.specs.List.{range_with_len}
use Rattle.board_base.specs.declared.vg.TheConstants.{BEAM_EDGE}

-- how far the beam goes for a distance: a linear scale takes 256ths off, and each step of the
-- binary scale halves it
unfoldable pub delta_of : ℤ → ℕ → ℕ → ℤ
delta_of d lin bin = d *ℤ pos ((256 - lin) * 2 ^ (7 - bin))

-- a place is held within the bounds of the screen
unfoldable pub held : ℤ → ℤ
held at = int_max (neg_ℤ (pos BEAM_EDGE)) (int_min at (pos BEAM_EDGE))

-- the binary digits of a number below 2^16: as many as there are powers of two up to it
unfoldable pub binary_digits : ℕ → ℕ
binary_digits n = count_by (λ k. nat_le (2 ^ k) n) (range_with_len 0 16)

-- the digits of the larger of two distances
abbrev pub longest_digits : ℤ → ℤ → ℕ
longest_digits dx dy = binary_digits (max (unsigned_abs dx) (unsigned_abs dy))

-- the clocks of a draw: the power of two above the larger distance, halved by each step of the
-- binary scale, and one clock at the least
unfoldable pub clocks_of : ℤ → ℤ → ℕ → ℕ
clocks_of dx dy bin = max 1 (2 ^ longest_digits dx dy / 2 ^ bin)
