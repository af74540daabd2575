-- What the options of a command say. This project's own choice.
use Rattle.std.specs.Prelude.{ℕ, Bool, List, Option}

-- the names of the files, the numbers and the flags; with no cut where the option isn't given
pub record SettingsValue : Type 0 where
  pub state : Option (List ℕ)
  pub earom : Option (List ℕ)
  pub until : Option ℕ
  pub cuts : List ℕ
  pub save : Option (List ℕ)
  pub cost : Bool
  pub timers : Bool
