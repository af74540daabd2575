-- The engine, as contracts see it.
use Rattle.std.specs.Prelude.{ℕ, ◌+◌, ◌-◌, ◌^◌, ◌≤◌, min}
use Rattle.catchup_engine.specs.declared.bus.TheConstants.{TRAIL_ROOM}
use Rattle.lockstep_board.specs.Lockstep.{Board}

-- how many records each trail has room for
pub record Rooms : Type 0 where
  pub vector : ℕ
  pub sound1 : ℕ
  pub sound2 : ℕ
  pub board : ℕ

-- each has room for the records of a window
pub record HasRoom (rooms : Rooms) : Type 0 where
  pub vector : TRAIL_ROOM ≤ rooms.vector
  pub sound1 : TRAIL_ROOM ≤ rooms.sound1
  pub sound2 : TRAIL_ROOM ≤ rooms.sound2
  pub board : TRAIL_ROOM ≤ rooms.board

-- the lockstep board that it represents, how many of its devices lag behind it, the rooms of the
-- trails, the device calls and the clocks that it did since it was made; the last two stay at the
-- greatest number of 64 bits
pub record EngineValue : Type 0 where
  pub board : Board
  pub lagging : ℕ
  pub rooms : Rooms
  pub calls : ℕ
  pub done : ℕ

-- a count after so many more
abbrev pub counted_on : ℕ → ℕ → ℕ
counted_on n more = min (n + more) (2 ^ 64 - 1)
