-- Deadlines: a time under some of the names 0 to 15. This project's own choice.
use Rattle.std.specs.Prelude.{◌≡◌, ◌≢◌, ℕ, ◌≤◌, List, Option, Some, None, slice_get, MatchOption, nat_lt, if◌then◌else◌}

-- the least of the times that are held, and of the names that hold it the least
pub record IsLeast (times : List (Option ℕ)) (name at : ℕ) : Type 0 where
  pub held : slice_get times name ≡ Some (Some at)
  pub least : (other later : ℕ) → slice_get times other ≡ Some (Some later) → at ≤ later
  pub first : (other : ℕ) → slice_get times other ≡ Some (Some at) → name ≤ other

-- a name and its time, or nothing where no time is held
abbrev pub IsLeastOf : List (Option ℕ) → Option (ℕ × ℕ) → Type 0
IsLeastOf times found = MatchOption found ((name at : ℕ) → slice_get times name ≢ Some (Some at)) (λ deadline. IsLeast times deadline.0 deadline.1)

-- of a name's deadline and the least of the greater names, the one that comes first, at a tie the
-- lesser name
abbrev pub earlier_of : ℕ → Option ℕ → Option (ℕ × ℕ) → Option (ℕ × ℕ)
earlier_of name None best = best
earlier_of name (Some at) None = Some (name, at)
earlier_of name (Some at) (Some best) = if nat_lt best.1 at then Some best else Some (name, at)
