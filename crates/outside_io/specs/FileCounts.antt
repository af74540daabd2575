-- What is seen of a shelf over files, which is this project's own.
use Rattle.std.specs.Prelude.{ℕ, List, Option, None}
use Rattle.std.specs.Prelude.{Result, Ok, Err}
use Rattle.board_base.specs.Counts.{one_more}
use Rattle.outside_io.specs.declared.answers.Loaded.{Loaded}
use Rattle.outside_io.specs.declared.answers.Loaded.TheVariants.{Found, Absent}
use Rattle.outside_io.specs.declared.answers.ShelfFault.{ShelfFault}
use Rattle.outside_io.specs.declared.answers.ShelfFault.TheVariants.{Failed, OutOfMemory}
use Rattle.outside_io.specs.Causes.{faults_after}
use Rattle.outside_io.specs.Shelf.{Files, Kept}

-- how many calls failed, and how many files weren't there
pub record FileCounts : Type 0 where
  pub faults : ℕ
  pub absences : ℕ

-- neither files nor stores are known
abbrev pub unknown_files : Option Files
unknown_files = None

abbrev pub unknown_stores : Option (List Kept)
unknown_stores = None

-- the counts after a load: one more of what came, and to run out of memory is neither
abbrev pub after_file_load : FileCounts → Result Loaded ShelfFault → FileCounts
after_file_load counts (Ok Found) = counts
after_file_load counts (Ok Absent) = record counts { absences = one_more counts.absences }
after_file_load counts (Err Failed) = record counts { faults = one_more counts.faults }
after_file_load counts (Err OutOfMemory) = counts

-- the counts after a store
abbrev pub after_file_store : {T E : Type 0} → FileCounts → Result T E → FileCounts
after_file_store counts result = record counts { faults = faults_after counts.faults result }
