-- Two times of which either may never come.
use Rattle.std.specs.Prelude.{ℕ, min, Option, Some, None}

-- the lesser of those that come
unfoldable pub sooner_of : Option ℕ → Option ℕ → Option ℕ
sooner_of None other = other
sooner_of (Some time) None = Some time
sooner_of (Some time) (Some other) = Some (min time other)
