-- A shelf over the files of a request. This project's own.
use Rattle.std.specs.Prelude.{ℕ, Bool, List}
use Rattle.outside_io.specs.Shelf.{Kept}

-- the files that were put, whether a store was made since, how many files weren't there, and the
-- stores
pub record RequestFiles : Type 0 where
  pub files : List Kept
  pub changed : Bool
  pub absences : ℕ
  pub stores : List Kept
