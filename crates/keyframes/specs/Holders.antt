-- Who holds the pages of a pool.
use Rattle.std.specs.Prelude.{◌≡◌, ◌≢◌, ℕ, ◌<◌, ◌^◌, List, Option, None, Some, eqb, IfSome, bytes_eq, if◌then◌else◌, MatchBool, option_map, get_or, sum_by}
use Rattle.std.specs.List.{count_by, range_with_len}
use Rattle.board_base.specs.Board.{BoardValue}
use Rattle.keyframes.specs.declared.frame.Frame.{Frame}
use Rattle.page_pool.specs.Pool.{Holding, held_at, IsLive}
use Rattle.keyframes.specs.Frames.{page_bytes}
use Rattle.keyframes.specs.Keys.{page_of}

-- how often a place stands in a list
abbrev pub times_in : List ℕ → ℕ → ℕ
times_in places place = count_by (eqb place) places

-- how many hold what lies there
abbrev pub holders_in : Option Holding → ℕ
holders_in None = 0
holders_in (Some page) = page.holders

-- how many hold the page at a place
abbrev pub holders_of : List (Option Holding) → ℕ → ℕ
holders_of pool place = holders_in (held_at pool place)

-- each live page has a holder
abbrev pub AreHeld : List (Option Holding) → Type 0
AreHeld pool = (place : ℕ) → IfSome (held_at pool place) (λ page. 0 < page.holders)

-- what is live afterwards was live, with the same bytes
abbrev pub LeavesBytes : List (Option Holding) → List (Option Holding) → Type 0
LeavesBytes old new = (place : ℕ) → IsLive new place → IsLive old place × (page_bytes new place ≡ page_bytes old place)

-- what was live has the bytes that it had, and is live
abbrev pub KeepsBytes : List (Option Holding) → List (Option Holding) → Type 0
KeepsBytes old new = (place : ℕ) → IsLive old place → IsLive new place × (page_bytes new place ≡ page_bytes old place)

-- the page before where it has the bytes, and else a place that was free
abbrev pub IsHeldPage : List (Option Holding) → Option ℕ → List ℕ → ℕ → Type 0
IsHeldPage pool None bytes place = held_at pool place ≡ None
IsHeldPage pool (Some before) bytes place =
    MatchBool (bytes_eq (page_bytes pool before) bytes) (place ≡ before) (held_at pool place ≡ None)

-- one page more, where the one before is none or has other bytes
abbrev pub taken_for : List (Option Holding) → Option ℕ → List ℕ → ℕ
taken_for pool None bytes = 1
taken_for pool (Some before) bytes = if bytes_eq (page_bytes pool before) bytes then 0 else 1

-- a live page that a board more can hold
abbrev pub IsShareable : List (Option Holding) → ℕ → Type 0
IsShareable pool place = IsLive pool place × (holders_of pool place < 2 ^ 31)

-- a place that was free, and that no earlier page of the row has
abbrev pub IsNewPage : List (Option Holding) → List ℕ → ℕ → Type 0
IsNewPage pool row k = (held_at pool (get_or row k 0) ≡ None) × ((j : ℕ) → j < k → get_or row j 0 ≢ get_or row k 0)

-- page k of a row: the page before where it has the bytes, and else a new one
abbrev pub IsRowPage : List (Option Holding) → Option ℕ → List ℕ → List ℕ → ℕ → Type 0
IsRowPage pool None bytes row k = IsNewPage pool row k
IsRowPage pool (Some before) bytes row k =
    MatchBool (bytes_eq (page_bytes pool before) bytes) (get_or row k 0 ≡ before) (IsNewPage pool row k)

-- page k of a frame, where there is one
abbrev pub page_at : Option Frame → ℕ → Option ℕ
page_at frame k = option_map (λ frame. get_or frame.pages.items k 0) frame

-- how many of the first n pages of a board are taken, where equal ones are shared with those of a
-- frame
abbrev pub row_taken : List (Option Holding) → Option Frame → BoardValue → ℕ → ℕ
row_taken pool frame b n = sum_by (λ k. taken_for pool (page_at frame k) (page_of b k)) (range_with_len 0 n)
