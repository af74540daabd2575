-- What a write does to the bytes that a sink has taken. A sink is this project's own view of a
-- stream of output.
use Rattle.std.specs.Prelude.{◌≡◌, ℕ, List, take}
use Rattle.std.specs.Prelude.{Option}
use Rattle.std.specs.Prelude.{Result, Ok, Err}
use Rattle.outside_io.specs.Known.{grown}

-- Ok: the whole piece was taken. Err: a prefix of it, perhaps none or all of it.
abbrev pub Takes : {T E : Type 0} → Option (List ℕ) → Option (List ℕ) → List ℕ → Result T E → Type 0
Takes before now piece (Ok _) = now ≡ grown before piece
Takes before now piece (Err _) = (k : ℕ) × (now ≡ grown before (take k piece))
