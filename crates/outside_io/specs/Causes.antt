-- Counts of faults and of absences. They are this project's own: a count never falls, and stays at
-- the greatest number of 64 bits once it is there.
use Rattle.std.specs.Prelude.{◌≡◌, ℕ, ◌^◌, ◌<◌, ◌≤◌}
use Rattle.std.specs.Prelude.{Result, Ok, Err}
use Rattle.board_base.specs.Counts.{one_more}

-- a count is greater now, or stands at its greatest value
abbrev pub Rose : ℕ → ℕ → Type 0
Rose before now = one_more before ≤ now

-- what a call did to a count that it raised
pub record Raised (before now : ℕ) : Type 0 where
  pub later : before ≤ now
  pub rose : Rose before now
  pub fits : now < 2 ^ 64

-- the count of faults of an object that counts each call that fails, and no other
abbrev pub faults_after : {T E : Type 0} → ℕ → Result T E → ℕ
faults_after faults (Ok _) = faults
faults_after faults (Err _) = one_more faults

-- a fault comes only where the count rose, and else the count is as before
abbrev pub HasCause : {T E : Type 0} → ℕ → ℕ → Result T E → Type 0
HasCause before now (Ok _) = now ≡ before
HasCause before now (Err _) = Raised before now
