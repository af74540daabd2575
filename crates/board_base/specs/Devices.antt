-- A device with its count of calls, as contracts see it.
use Rattle.std.specs.Prelude.{ℕ}

-- the state, and the calls counted
pub record DeviceValue (S : Type 0) : Type 0 where
  pub device : S
  pub calls : ℕ
