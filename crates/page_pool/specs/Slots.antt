-- How a pool lies in its memory: a slot for each place, and the places that are free.
use Rattle.std.specs.Prelude.{◌≡◌, ◌≢◌, ℕ, ◌+◌, ◌<◌, ◌≤◌, ◌==◌, if◌then◌else◌, List, Option, Some, None, length, map, get_or, vec_capacity}
use Rattle.page_pool.specs.Pool.{Holding, held_at, live_of}
use Rattle.page_pool.specs.declared.pool.TheConstants.{POOL_LIMIT}
use Rattle.page_pool.specs.declared.pool.Slot.{Slot}
use Rattle.page_pool.specs.declared.pool.PagePool.TheInside.{Inside}

-- a slot without holders is free
abbrev pub held_in : Slot → Option Holding
held_in slot = if slot.holders == 0 then None else Some (record { bytes = slot.bytes; holders = slot.holders })

-- what lies at each place
abbrev pub pool_view : Inside → List (Option Holding)
pool_view inside = map held_in inside.slots.items

-- the free places, each once, and no other
pub record IsFree (free : List ℕ) (pool : List (Option Holding)) : Type 0 where
  pub within : (k d : ℕ) → k < length free → get_or free k d < length pool
  pub empty : (k d : ℕ) → k < length free → held_at pool (get_or free k d) ≡ None
  pub apart : (i j d : ℕ) → i < j → j < length free → get_or free i d ≢ get_or free j d
  pub rest : live_of pool + length free ≡ length pool

-- a pool's memory is whole: its free places are listed, with the memory for them all
pub record IsPool (inside : Inside) : Type 0 where
  pub limit : length (pool_view inside) ≤ POOL_LIMIT
  pub room : length (pool_view inside) ≤ vec_capacity inside.free
  pub free : IsFree inside.free.items (pool_view inside)
