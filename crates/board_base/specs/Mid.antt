-- The place inside a sequence, as a plain record.
use Rattle.std.specs.Prelude.{◌≡◌, ◌≤◌, ℕ, length, Option, None, Some}
use Rattle.board_base.specs.declared.cpu.Mid.TheInside.{Inside}

-- the fields of `Mid`
abbrev pub MidValue : Type 0
MidValue = Inside

-- no sequence is left before its end after more than six clocks
pub record IsMid (m : MidValue) : Type 0 where
  pub count : m.count ≤ 6
  pub bytes : length m.bytes ≡ 6

-- the clocks that are done of a sequence under way
abbrev pub count_of : Option MidValue → ℕ
count_of None = 0
count_of (Some mid) = mid.count
