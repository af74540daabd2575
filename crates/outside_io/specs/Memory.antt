-- The shelf and the sink in memory, which are this project's own: what they hold, and when their
-- calls fail.
use Rattle.std.specs.Prelude.{ℕ, ◌+◌, ◌<◌, ◌≤◌, ◌⊎◌, List, [], ◌∷◌, ◌++◌, length, Contains}
use Rattle.std.specs.Prelude.{Result, Ok, Err}
use Rattle.board_base.specs.Counts.{one_more}
use Rattle.outside_io.specs.declared.answers.Loaded.{Loaded}
use Rattle.outside_io.specs.declared.answers.Loaded.TheVariants.{Found, Absent}
use Rattle.outside_io.specs.declared.answers.ShelfFault.{ShelfFault}
use Rattle.outside_io.specs.declared.answers.ShelfFault.TheVariants.{Failed, OutOfMemory}
use Rattle.outside_io.specs.Shelf.{Kept}

-- A sink in memory: what it took, how many bytes it has room for in all, the numbers of the writes
-- that fail, how many writes were numbered, and how many failed.
pub record SinkValue : Type 0 where
  pub bytes : List ℕ
  pub room : ℕ
  pub fail : List ℕ
  pub calls : ℕ
  pub faults : ℕ

-- a sink that has taken nothing
abbrev pub empty_sink : ℕ → List ℕ → SinkValue
empty_sink room fail = record { bytes = []; room = room; fail = fail; calls = 0; faults = 0 }

-- a write fails exactly where its number is among those that fail, or its piece is longer than the
-- room that is left
abbrev pub WriteFails : SinkValue → List ℕ → Type 0
WriteFails sink piece = Contains sink.fail (one_more sink.calls) ⊎ (sink.room < length sink.bytes + length piece)

-- the sink after a numbered write
abbrev pub after_write : {T E : Type 0} → SinkValue → List ℕ → Result T E → SinkValue
after_write sink piece (Ok _) = record sink { bytes = sink.bytes ++ piece; calls = one_more sink.calls }
after_write sink piece (Err _) = record sink { calls = one_more sink.calls; faults = one_more sink.faults }

-- A shelf in memory: the files that were put or stored, the last of a name being the one that is
-- there, the stores, how many stores it can keep in all, how many bytes one may have with its name,
-- the numbers of the calls that fail, how many calls were numbered, how many failed, and how many
-- files weren't there.
pub record ShelfValue : Type 0 where
  pub files : List Kept
  pub stores : List Kept
  pub places : ℕ
  pub room : ℕ
  pub fail : List ℕ
  pub calls : ℕ
  pub faults : ℕ
  pub absences : ℕ

-- a shelf with no file and no store
abbrev pub empty_shelf : ℕ → ℕ → List ℕ → ShelfValue
empty_shelf places room fail =
    record { files = []; stores = []; places = places; room = room; fail = fail; calls = 0; faults = 0; absences = 0 }

-- the next call is one of those that fail by their number
abbrev pub NextFails : ShelfValue → Type 0
NextFails shelf = Contains shelf.fail (one_more shelf.calls)

-- a store fails exactly where its number is among those that fail, or its name and bytes are too
-- long, or no place is left
abbrev pub StoreFails : ShelfValue → List ℕ → List ℕ → Type 0
StoreFails shelf name bytes =
    NextFails shelf ⊎ (shelf.room < length name + length bytes) ⊎ (shelf.places ≤ length shelf.stores)

-- the shelf after a load, which changes no file and no store
abbrev pub after_load : ShelfValue → Result Loaded ShelfFault → ShelfValue
after_load shelf (Ok Found) = record shelf { calls = one_more shelf.calls }
after_load shelf (Ok Absent) = record shelf { calls = one_more shelf.calls; absences = one_more shelf.absences }
after_load shelf (Err Failed) = record shelf { calls = one_more shelf.calls; faults = one_more shelf.faults }
after_load shelf (Err OutOfMemory) = record shelf { calls = one_more shelf.calls }

-- the shelf after a store
abbrev pub after_store : {T E : Type 0} → ShelfValue → Kept → Result T E → ShelfValue
after_store shelf kept (Ok _) =
    record shelf { files = shelf.files ++ kept ∷ []; stores = shelf.stores ++ kept ∷ []; calls = one_more shelf.calls }
after_store shelf kept (Err _) = record shelf { calls = one_more shelf.calls; faults = one_more shelf.faults }
