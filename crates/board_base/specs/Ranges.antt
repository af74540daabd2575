-- Ranges of signed numbers.
use Rattle.std.specs.Prelude.{ℕ, ℤ, pos, neg_ℤ, ◌≤ℤ◌}

-- not further than n from 0
pub record IsWithin (n : ℕ) (z : ℤ) : Type 0 where
  pub above : neg_ℤ (pos n) ≤ℤ z
  pub below : z ≤ℤ pos n
