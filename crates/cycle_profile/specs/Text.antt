-- The lines of a profile. They are this project's own.
use Rattle.std.specs.Prelude.{ℕ, ◌+◌, List, [], ◌∷◌, ◌++◌, codes, decimal, nat_lt, if◌then◌else◌}
use Rattle.text_line.specs.Words.{line, hex_word}
use Rattle.cycle_profile.specs.declared.counts.Counts.{Counts}
use Rattle.cycle_profile.specs.Profile.{ProfileValue}

-- the line of an address: its entries, clocks and device accesses
unfoldable pub routine_line : ℕ → Counts → List ℕ
routine_line address counts =
    line (codes "R" ∷ hex_word address ∷ decimal counts.entries ∷ decimal counts.clocks ∷ decimal counts.accesses ∷ [])

-- an address with no clocks has no line
abbrev pub routine_text : ℕ → Counts → List ℕ
routine_text address counts = if nat_lt 0 counts.clocks then routine_line address counts else []

-- the lines of the addresses from this one on, in rising order
unfoldable pub routines_text : ℕ → List Counts → List ℕ
routines_text address [] = []
routines_text address (first ∷ others) = routine_text address first ++ routines_text (address + 1) others

-- the line of all clocks
unfoldable pub total_text : ℕ → List ℕ
total_text clocks = line (codes "T" ∷ decimal clocks ∷ [])

-- the lines of the addresses with clocks, and then that of all clocks
unfoldable pub profile_text : ProfileValue → List ℕ
profile_text p = routines_text 0 p.counts ++ total_text p.clocks
