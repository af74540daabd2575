-- The shelf that never fails, which is this project's own.
use Rattle.std.specs.Prelude.{ℕ, Bool, true, false, List, Some, None}
use Rattle.std.specs.Prelude.{Option}
use Rattle.std.specs.Prelude.{Result, Ok}
use Rattle.board_base.specs.Counts.{one_more}
use Rattle.outside_io.specs.declared.answers.Loaded.{Loaded}
use Rattle.outside_io.specs.declared.answers.Loaded.TheVariants.{Absent}
use Rattle.outside_io.specs.declared.answers.ShelfFault.{ShelfFault}
use Rattle.outside_io.specs.Content.{content_of}
use Rattle.outside_io.specs.Shelf.{Files, Kept}

-- the files that were put, whether a store was made since, and how many files weren't there
pub record SteadyValue : Type 0 where
  pub files : List Kept
  pub changed : Bool
  pub absences : ℕ

-- its files are known until its first store
abbrev pub known_files : Bool → List Kept → Option Files
known_files true files = None
known_files false files = Some (content_of files)

-- the shelf after a load, which counts an absence and changes nothing else
abbrev pub after_steady_load : SteadyValue → Result Loaded ShelfFault → SteadyValue
after_steady_load shelf (Ok Absent) = record shelf { absences = one_more shelf.absences }
after_steady_load shelf _ = shelf
