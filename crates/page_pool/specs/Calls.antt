-- The calls that a pool is given, one after another, and what they leave of its places.
use Rattle.std.specs.Prelude.{◌≡◌, ℕ, ◌<◌, List, [], ◌∷◌, Option, None, option_map, length}
use Rattle.page_pool.specs.Pool.{Holding, held_at, IsLive, pool_taken, pool_shared, pool_given}

-- a call that changes a pool, with the place that it is for
pub data Call : Type 0 where
  take_at : ℕ → List ℕ → Call
  share_at : ℕ → Call
  give_at : ℕ → Call

-- a page is taken at a free place, and shared or given back at a live one
abbrev pub IsDue : List (Option Holding) → Call → Type 0
IsDue pool (take_at place bytes) = (place < length pool) × (held_at pool place ≡ None)
IsDue pool (share_at place) = IsLive pool place
IsDue pool (give_at place) = IsLive pool place

-- the pool after a call
abbrev pub called : List (Option Holding) → Call → List (Option Holding)
called pool (take_at place bytes) = pool_taken pool place bytes
called pool (share_at place) = pool_shared pool place
called pool (give_at place) = pool_given pool place

-- the pool after calls in turn
abbrev pub all_called : List (Option Holding) → List Call → List (Option Holding)
all_called pool [] = pool
all_called pool (call ∷ calls) = all_called (called pool call) calls

-- each call is due, and the place is live before and after each
abbrev pub StaysLive : List (Option Holding) → List Call → ℕ → Type 0
StaysLive pool [] place = IsLive pool place
StaysLive pool (call ∷ calls) place = IsDue pool call × IsLive pool place × StaysLive (called pool call) calls place

-- the bytes at a place, where it is live
abbrev pub bytes_at : List (Option Holding) → ℕ → Option (List ℕ)
bytes_at pool place = option_map (λ page. page.bytes) (held_at pool place)

-- whatever is called, a place has the same bytes for as long as it is live
abbrev pub LivePagesStay : Type 0
LivePagesStay = (pool : List (Option Holding)) (calls : List Call) (place : ℕ) → StaysLive pool calls place
    → bytes_at (all_called pool calls) place ≡ bytes_at pool place
