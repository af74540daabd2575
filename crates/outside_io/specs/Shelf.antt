-- What the calls of a shelf do. A shelf is this project's own view of files.
use Rattle.std.specs.Prelude.{◌≡◌, ◌≢◌, ℕ, ◌+◌, ◌≤◌, List, [], length, take, None, IfSome, IsSome, IsSomeAnd}
use Rattle.std.specs.Prelude.{Option}
use Rattle.std.specs.Prelude.{Result, Ok, Err}
use Rattle.outside_io.specs.declared.answers.Loaded.{Loaded}
use Rattle.outside_io.specs.declared.answers.Loaded.TheVariants.{Found, Absent}
use Rattle.outside_io.specs.declared.answers.ShelfFault.{ShelfFault}
use Rattle.outside_io.specs.declared.answers.ShelfFault.TheVariants.{Failed, OutOfMemory}
use Rattle.outside_io.specs.Causes.{Raised}

-- the content of each name, where a file is there
abbrev pub Files : Type 0
Files = List ℕ → Option (List ℕ)

-- a name and bytes
abbrev pub Kept : Type 0
Kept = List ℕ × List ℕ

-- Found: the file's first bytes, all of them or one more than the limit. Absent: the name isn't
-- there, and no byte came. Memory runs out only on the way through a file that is there.
abbrev pub Loads : Option Files → List ℕ → ℕ → Result Loaded ShelfFault → List ℕ → Type 0
Loads known name limit (Ok Found) bytes =
    (length bytes ≤ limit + 1) × IfSome known (λ files. IsSomeAnd (files name) (λ whole. bytes ≡ take (limit + 1) whole))
Loads known name limit (Ok Absent) bytes = (bytes ≡ []) × IfSome known (λ files. files name ≡ None)
Loads known name limit (Err OutOfMemory) bytes = IfSome known (λ files. IsSome (files name))
Loads known name limit (Err Failed) bytes = Unit {0}

-- to run out of memory is no fault of the shelf
abbrev pub LoadFaults : ℕ → ℕ → Result Loaded ShelfFault → Type 0
LoadFaults before now (Ok _) = now ≡ before
LoadFaults before now (Err Failed) = Raised before now
LoadFaults before now (Err OutOfMemory) = now ≡ before

-- Absent comes only where the count of absences rose
abbrev pub LoadAbsences : ℕ → ℕ → Result Loaded ShelfFault → Type 0
LoadAbsences before now (Ok Found) = before ≤ now
LoadAbsences before now (Ok Absent) = Raised before now
LoadAbsences before now (Err _) = before ≤ now

-- where files are known afterwards, those of other names are as before
abbrev pub KeepsOthers : Option Files → Option Files → List ℕ → Type 0
KeepsOthers before now name =
    IfSome now (λ after. IsSomeAnd before (λ earlier. (other : List ℕ) → other ≢ name → after other ≡ earlier other))
