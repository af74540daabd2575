-- A text that goes out in blocks. It is this project's own.
use Rattle.std.specs.Prelude.{◌≡◌, ℕ, List, ◌++◌, take}
use Rattle.std.specs.Prelude.{Option}
use Rattle.std.specs.Prelude.{Result, Ok, Err}
use Rattle.outside_io.specs.Known.{grown}

-- a sink has taken a first part of a text, and the rest of it waits
pub record IsGathered (before now : Option (List ℕ)) (text rest : List ℕ) : Type 0 where
  pub sent : List ℕ
  pub taken : now ≡ grown before sent
  pub parts : text ≡ sent ++ rest

-- Ok: the sink took a first part of the text, perhaps none, and the rest of it waits. Err: it took
-- a first part.
abbrev pub Gathers : {T E : Type 0} → Option (List ℕ) → Option (List ℕ) → List ℕ → List ℕ → Result T E → Type 0
Gathers before now text rest (Ok _) = IsGathered before now text rest
Gathers before now text rest (Err _) = (k : ℕ) × (now ≡ grown before (take k text))
