-- A bus over 65,536 bytes that notes its accesses (this project's own choice).
use Rattle.std.specs.Prelude.{◌≡◌, ◌-◌, ◌++◌, ℕ, List, [], ◌∷◌, length, replicate, slice_index, slice_set}
use Rattle.flat_bus.specs.declared.logged.Logged.{Logged}
use Rattle.flat_bus.specs.declared.logged.Direction.{Direction}
use Rattle.flat_bus.specs.declared.logged.Direction.TheVariants.{Read, Write}
use Rattle.cpu_core.specs.BusCycles.{Access, read_of, write_of}

-- the bytes, the accesses noted, and how many more can be noted
pub record FlatValue : Type 0 where
  pub bytes : List ℕ
  pub log : List Logged
  pub room : ℕ

-- n bytes that are all 0
unfoldable pub zeros : ℕ → List ℕ
zeros n = replicate n 0

-- one access more in the log, at the clock that is the number of those before it
abbrev pub noted : Direction → ℕ → ℕ → FlatValue → FlatValue
noted direction a v s =
    record s { log = s.log ++ record { clock = length s.log; direction = direction; addr = a; byte = v } ∷ []; room = s.room - 1 }

-- a read gives the byte at its address, and a write changes it alone; both are noted
abbrev pub FlatStep : Access → FlatValue → FlatValue → Type 0
FlatStep (read_of a v) s t = (v ≡ slice_index s.bytes a) × (t ≡ noted Read a v s)
FlatStep (write_of a v) s t = t ≡ record (noted Write a v s) { bytes = slice_set s.bytes a v }

-- the same of a bus that notes nothing
abbrev pub UnloggedStep : Access → List ℕ → List ℕ → Type 0
UnloggedStep (read_of a v) s t = (v ≡ slice_index s a) × (t ≡ s)
UnloggedStep (write_of a v) s t = t ≡ slice_set s a v
