-- Frames and rows: what holds of them between two calls.
use Rattle.std.specs.Prelude.{◌≡◌, ℕ, ◌≤◌, ◌<◌, List, [], ◌∷◌, ◌++◌, get_or, All, Option, Vec, flat_map, length, vec_capacity}
use Rattle.std.specs.declared.alloc.Global.{Global}
use Rattle.page_pool.specs.Pool.{Holding, IsLive}
use Rattle.page_pool.specs.declared.pool.TheConstants.{PAGE_LEN}
use Rattle.keyframes.specs.declared.pages.TheConstants.{BOARD_PAGES}
use Rattle.keyframes.specs.declared.frame.Frame.{Frame}
use Rattle.keyframes.specs.Frames.{IsRest, page_bytes, rest_of}
use Rattle.keyframes.specs.Keys.{last_of, page_of}
use Rattle.board_base.specs.Board.{BoardValue, IsBoard}
use Rattle.keyframes.specs.Holders.{AreHeld, IsRowPage, holders_of, page_at, times_in}

-- the places of all pages of frames
abbrev pub frame_places : List Frame → List ℕ
frame_places frames = flat_map (λ frame. frame.pages.items) frames

-- the pages of these frames are live, and no others, and each has just the holders that the frames
-- are
pub record HoldsFrames (pool : List (Option Holding)) (frames : List Frame) : Type 0 where
  pub held : AreHeld pool
  pub holders : (place : ℕ) → holders_of pool place ≡ times_in (frame_places frames) place

-- an empty row with the memory for the pages of a board
abbrev pub IsRow : Vec ℕ Global → Type 0
IsRow row = (row.items ≡ []) × (BOARD_PAGES ≤ vec_capacity row)

abbrev pub AreRows : List (Vec ℕ Global) → Type 0
AreRows rows = All IsRow rows

-- each frame has a row with the memory for the pages of a board
abbrev pub AreFrames : List Frame → Type 0
AreFrames frames = All (λ frame. BOARD_PAGES ≤ vec_capacity frame.pages) frames

-- a frame's fields are those of a board, and its pages live, whole and as many as a board has
pub record IsFrame (pool : List (Option Holding)) (frame : Frame) : Type 0 where
  pub rest : IsRest frame.rest
  pub len : length frame.pages.items ≡ BOARD_PAGES
  pub live : All (IsLive pool) frame.pages.items
  pub whole : All (λ place. length (page_bytes pool place) ≡ PAGE_LEN) frame.pages.items

-- a frame of the board comes after the others, with pages that it shares with the last of them
-- where they are equal
pub record IsKept (before : List (Option Holding)) (old : List Frame) (pool : List (Option Holding)) (b : BoardValue) (new : List Frame) : Type 0 where
  pub frame : Frame
  pub joined : new ≡ old ++ frame ∷ []
  pub board : IsBoard b
  pub rest : frame.rest ≡ rest_of b
  pub len : length frame.pages.items ≡ BOARD_PAGES
  pub room : BOARD_PAGES ≤ vec_capacity frame.pages
  pub bytes : (k : ℕ) → k < BOARD_PAGES → page_bytes pool (get_or frame.pages.items k 0) ≡ page_of b k
  pub pages : (k : ℕ) → k < BOARD_PAGES → IsRowPage before (page_at (last_of old) k) (page_of b k) frame.pages.items k
