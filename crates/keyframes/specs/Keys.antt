-- Boards kept along a run, in pages that they share. This project's own choice.
use Rattle.std.specs.Prelude.{◌≡◌, ◌≢◌, ℕ, ◌+◌, ◌*◌, ◌<◌, ◌≤◌, ◌||◌, Bool, true, false, zero, suc, List, [], ◌∷◌, ◌++◌, Option, Some, None, length, take, drop, get_or, flat_map}
use Rattle.std.specs.Prelude.{eqb, nat_lt, nat_le, ◌-◌, if◌then◌else◌, MatchOption, not, bytes_eq}
use Rattle.std.specs.List.{count_by, list_any, range_with_len}
use Rattle.board_base.specs.Board.{BoardValue}
use Rattle.page_pool.specs.declared.pool.TheConstants.{PAGE_LEN}
use Rattle.keyframes.specs.declared.pages.TheConstants.{BOARD_PAGES, RAM_PAGES}

-- a kept board, and the places of its pages
pub record Keyframe : Type 0 where
  pub board : BoardValue
  pub pages : List ℕ

-- the kept boards, how many pages there are for them, and how many boards at most
pub record KeyframesValue : Type 0 where
  pub kept : List Keyframe
  pub capacity : ℕ
  pub limit : ℕ

-- page k of a board: its RAM has the first eight pages, its vector RAM the others
abbrev pub page_of : BoardValue → ℕ → List ℕ
page_of b k = if nat_lt k RAM_PAGES then take PAGE_LEN (drop (PAGE_LEN * k) b.ram) else take PAGE_LEN (drop (PAGE_LEN * (k - RAM_PAGES)) b.vram)

-- the places of all pages of kept boards
abbrev pub places_of : List Keyframe → List ℕ
places_of kept = flat_map (λ keyframe. keyframe.pages) kept

-- how many places have a page of a kept board
abbrev pub live_of : KeyframesValue → ℕ
live_of keys = count_by (λ place. list_any (eqb place) (places_of keys.kept)) (range_with_len 0 keys.capacity)

-- the first, third, fifth and so on
abbrev pub thinned : {A : Type 0} → List A → List A
thinned [] = []
thinned (first ∷ []) = first ∷ []
thinned (first ∷ second ∷ rest) = first ∷ thinned rest

-- some thinnings
abbrev pub keys_thinned : ℕ → KeyframesValue → KeyframesValue
keys_thinned zero keys = keys
keys_thinned (suc n) keys = keys_thinned n (record keys { kept = thinned keys.kept })

-- there may be too few pages for a board more, or there is no room for it
abbrev pub is_crowded : KeyframesValue → Bool
is_crowded keys = nat_lt keys.capacity (live_of keys + BOARD_PAGES) || nat_le keys.limit (length keys.kept)

-- thinned for as long as there is no room, and no more
pub record MakesRoom (old new : KeyframesValue) : Type 0 where
  pub thinnings : ℕ
  pub thinned : new ≡ keys_thinned thinnings old
  pub crowded : (n : ℕ) → n < thinnings → is_crowded (keys_thinned n old) ≡ true
  pub roomy : is_crowded new ≡ false

-- the last one, as the board before a new one
abbrev pub last_of : {A : Type 0} → List A → Option A
last_of [] = None
last_of (first ∷ []) = Some first
last_of (first ∷ second ∷ rest) = last_of (second ∷ rest)

-- a place that no kept board has, nor another page of this board
abbrev pub IsFresh : List Keyframe → List ℕ → ℕ → Type 0
IsFresh kept pages k = (list_any (eqb (get_or pages k 0)) (places_of kept) ≡ false)
    × ((j : ℕ) → j < BOARD_PAGES → j ≢ k → get_or pages j 0 ≢ get_or pages k 0)

-- a page that is equal to the one at its place of the board before is shared with it, and any other
-- is at a fresh place
abbrev pub IsPageOf : List Keyframe → BoardValue → List ℕ → ℕ → Type 0
IsPageOf kept b pages k = MatchOption (last_of kept) (IsFresh kept pages k)
    (λ before. (page_of b k ≡ page_of before.board k → get_or pages k 0 ≡ get_or before.pages k 0)
    × (page_of b k ≢ page_of before.board k → IsFresh kept pages k))

-- how many pages of a board differ from those of the board before, and all where there is none
abbrev pub pages_taken : Option Keyframe → BoardValue → ℕ
pages_taken None b = BOARD_PAGES
pages_taken (Some before) b = count_by (λ k. not (bytes_eq (page_of before.board k) (page_of b k))) (range_with_len 0 BOARD_PAGES)

-- the board is kept as the last, and as many pages more are live as differ from those of the board
-- before
pub record Keeps (old new : KeyframesValue) (b : BoardValue) : Type 0 where
  pub pages : List ℕ
  pub kept : new ≡ record old { kept = old.kept ++ (record { board = b; pages = pages }) ∷ [] }
  pub len : length pages ≡ BOARD_PAGES
  pub each : (k : ℕ) → k < BOARD_PAGES → IsPageOf old.kept b pages k
  pub live : live_of new ≡ live_of old + pages_taken (last_of old.kept) b

-- the clocks rise from each board to the next
abbrev pub HaveRisingClocks : List Keyframe → Type 0
HaveRisingClocks kept = (i j : ℕ) (d : Keyframe) → i < j → j < length kept → (get_or kept i d).board.clock < (get_or kept j d).board.clock

-- the last whose clock is not above
pub record IsNearest (kept : List Keyframe) (clock index : ℕ) : Type 0 where
  pub within : index < length kept
  pub below : (d : Keyframe) → (get_or kept index d).board.clock ≤ clock
  pub last : (j : ℕ) (d : Keyframe) → index < j → j < length kept → clock < (get_or kept j d).board.clock
