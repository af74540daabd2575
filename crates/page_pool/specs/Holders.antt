-- The holders of a place, counted by the calls that a pool is given.
use Rattle.std.specs.Prelude.{◌≡◌, ℕ, ◌+◌, ◌<◌, ◌≤◌, ◌==◌, List, [], ◌∷◌, Bool, false, Option, Some, IfSome, option_map, unwrap_or, length, take}
use Rattle.std.specs.List.{count_by}
use Rattle.page_pool.specs.Pool.{Holding, held_at}
use Rattle.page_pool.specs.Calls.{Call, take_at, share_at, give_at, IsDue, called, all_called, bytes_at}

-- how many hold the page at a place, and 0 where none lies there
abbrev pub holders_at : List (Option Holding) → ℕ → ℕ
holders_at pool place = unwrap_or (option_map (λ page. page.holders) (held_at pool place)) 0

-- each page of a pool has one holder or more
abbrev pub HasHolders : List (Option Holding) → Type 0
HasHolders pool = (place : ℕ) → IfSome (held_at pool place) (λ page. 1 ≤ page.holders)

-- each call is due when its turn comes
abbrev pub AreDue : List (Option Holding) → List Call → Type 0
AreDue pool [] = Unit {0}
AreDue pool (call ∷ calls) = IsDue pool call × AreDue (called pool call) calls

-- a page is taken or shared at the place
abbrev pub is_gain : ℕ → Call → Bool
is_gain place (take_at at bytes) = at == place
is_gain place (share_at at) = at == place
is_gain place (give_at at) = false

-- a page is given back at the place
abbrev pub is_loss : ℕ → Call → Bool
is_loss place (take_at at bytes) = false
is_loss place (share_at at) = false
is_loss place (give_at at) = at == place

-- how often a page is taken or shared at the place, and how often one is given back
abbrev pub gains : ℕ → List Call → ℕ
gains place calls = count_by (is_gain place) calls

abbrev pub losses : ℕ → List Call → ℕ
losses place calls = count_by (is_loss place) calls

-- the holders of a place are those before the calls, and one for each take and share, less one for
-- each give
abbrev pub HoldersAreCounted : List (Option Holding) → List Call → ℕ → Type 0
HoldersAreCounted pool calls place =
    holders_at (all_called pool calls) place + losses place calls ≡ holders_at pool place + gains place calls

-- however many of the calls are done, a page was taken and shared at the place more often than
-- given back
abbrev pub Outnumber : ℕ → List Call → Type 0
Outnumber place calls = (n : ℕ) → 1 ≤ n → n ≤ length calls → losses place (take n calls) < gains place (take n calls)

-- A page is taken at a place, and other calls follow. For as long as the takes and shares of the
-- place outnumber its gives, its bytes lie there.
abbrev pub OutnumberedPagesStay : Type 0
OutnumberedPagesStay = (pool : List (Option Holding)) (place : ℕ) (bytes : List ℕ) (calls : List Call)
    → AreDue pool (take_at place bytes ∷ calls) → Outnumber place (take_at place bytes ∷ calls)
    → bytes_at (all_called pool (take_at place bytes ∷ calls)) place ≡ Some bytes
