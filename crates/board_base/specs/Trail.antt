-- A trail: the records of one part of the board since its last clearing.
use Rattle.std.specs.Prelude.{◌≡◌, ℕ, ◌+◌, List, ◌++◌, length}
use Rattle.board_base.specs.declared.record.Record.{Record}

-- the records, the room that is left, and the room with which the trail began
pub record TrailValue : Type 0 where
  pub records : List Record
  pub spare : ℕ
  pub room : ℕ

-- the trail grew by these records, each took one of its spare, and its first room stays
pub record Extended (old new : TrailValue) (more : List Record) : Type 0 where
  pub joined : new.records ≡ old.records ++ more
  pub spare : new.spare + length more ≡ old.spare
  pub room : new.room ≡ old.room
