-- How keyframes lie in their memory.
use Rattle.std.specs.Prelude.{◌≡◌, ℕ, ◌+◌, ◌<◌, ◌≤◌, List, [], All, Option, length, map, get_or, vec_capacity}
use Rattle.page_pool.specs.Pool.{Holding}
use Rattle.keyframes.specs.declared.keyframes.TheConstants.{PAGES_MIN, FRAMES_MIN}
use Rattle.keyframes.specs.declared.store.TheConstants.{FRAMES_LIMIT}
use Rattle.keyframes.specs.declared.store.Store.{Store}
use Rattle.keyframes.specs.declared.frame.Frame.{Frame}
use Rattle.keyframes.specs.declared.keyframes.Keyframes.TheInside.{Inside}
use Rattle.keyframes.specs.Frames.{board_of}
use Rattle.keyframes.specs.Keys.{Keyframe, KeyframesValue}
use Rattle.keyframes.specs.Store.{AreFrames, AreRows, HoldsFrames, IsFrame}

-- the kept board of a frame
abbrev pub the_keyframe : List (Option Holding) → Frame → Keyframe
the_keyframe pool frame = record { board = board_of pool frame; pages = frame.pages.items }

-- the value of a store, with its limit
abbrev pub keys_of : Store → ℕ → KeyframesValue
keys_of store limit = record {
  kept = map (the_keyframe store.pool) store.kept.items;
  capacity = length store.pool;
  limit = limit;
}

-- the value of the fields
abbrev pub keys_view : Inside → KeyframesValue
keys_view inside = keys_of inside.store inside.limit

-- the clocks rise
abbrev pub AreRising : List Frame → Type 0
AreRising frames = (i j : ℕ) (d : Frame) → i < j → j < length frames → (get_or frames i d).rest.clock < (get_or frames j d).rest.clock

-- the frames have rising clocks and hold all live pages, and there is memory for as many as the
-- limit
pub record IsStore (store : Store) (limit : ℕ) : Type 0 where
  pub pages : PAGES_MIN ≤ length store.pool
  pub least : FRAMES_MIN ≤ limit
  pub most : limit ≤ FRAMES_LIMIT
  pub frames : All (IsFrame store.pool) store.kept.items
  pub frame_rows : AreFrames store.kept.items
  pub rising : AreRising store.kept.items
  pub holders : HoldsFrames store.pool store.kept.items
  pub spare : store.spare.items ≡ []
  pub rows : AreRows store.rows.items
  pub count : length store.kept.items + length store.rows.items ≡ limit
  pub kept_room : limit ≤ vec_capacity store.kept
  pub spare_room : limit ≤ vec_capacity store.spare
  pub rows_room : limit ≤ vec_capacity store.rows

-- the fields are whole
abbrev pub IsWhole : Inside → Type 0
IsWhole inside = IsStore inside.store inside.limit
