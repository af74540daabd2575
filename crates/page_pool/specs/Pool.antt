-- A pool of pages that several may hold. This project's own choice.
use Rattle.std.specs.Prelude.{ℕ, ◌+◌, ◌-◌, ◌==◌, if◌then◌else◌, List, Option, Some, None, option_map, option_and_then, is_some, IsSome, get_or, slice_set}
use Rattle.std.specs.List.{count_by}

-- the bytes of a page, and how many hold it
pub record Holding : Type 0 where
  pub bytes : List ℕ
  pub holders : ℕ

-- what lies at a place, where something does
abbrev pub held_at : List (Option Holding) → ℕ → Option Holding
held_at pool place = get_or pool place None

-- a page lies at the place
abbrev pub IsLive : List (Option Holding) → ℕ → Type 0
IsLive pool place = IsSome (held_at pool place)

-- at how many places a page lies
abbrev pub live_of : List (Option Holding) → ℕ
live_of pool = count_by is_some pool

-- one holder more
abbrev pub held_more : Holding → Holding
held_more page = record { bytes = page.bytes; holders = page.holders + 1 }

-- one holder less, and nothing where it was the last
abbrev pub held_less : Holding → Option Holding
held_less page = if page.holders == 1 then None else Some (record { bytes = page.bytes; holders = page.holders - 1 })

-- the pool with new bytes and one holder at a place
abbrev pub pool_taken : List (Option Holding) → ℕ → List ℕ → List (Option Holding)
pool_taken pool place bytes = slice_set pool place (Some (record { bytes = bytes; holders = 1 }))

-- the pool with one holder more at a place
abbrev pub pool_shared : List (Option Holding) → ℕ → List (Option Holding)
pool_shared pool place = slice_set pool place (option_map held_more (held_at pool place))

-- the pool with one holder less at a place
abbrev pub pool_given : List (Option Holding) → ℕ → List (Option Holding)
pool_given pool place = slice_set pool place (option_and_then held_less (held_at pool place))
