-- A mark for the lowest byte of each of some addresses.
use Rattle.std.specs.Prelude.{◌≡◌, ℕ, ◌%◌, ◌==◌, Bool, true, false, List, slice_index_or}
use Rattle.std.specs.List.{list_any}

-- the lowest byte of each of these addresses has its mark
pub record AreMarked (marks : List Bool) (addresses : List ℕ) : Type 0 where
  pub marked : (pc : ℕ) → list_any (λ address. address == pc) addresses ≡ true → slice_index_or marks (pc % 256) false ≡ true
