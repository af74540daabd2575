-- A board that is kept as the last of a store's.
use Rattle.std.proofs.Common.{◌≡◌, ◌≢◌, ℕ, ◌+◌, ◌<◌, ◌≤◌, List, [], ◌∷◌, ◌++◌, Option, Some, None, IfSome, IsSome, All, MatchOption, Bool, true, false, not, bytes_eq}
use Rattle.std.proofs.Common.{option_map, refl, sym, ◌∙◌, ap, subst, length, map, get_or, eqb, cond, if◌then◌else◌, zero, suc, inl, inr, nat_lt, arith, length-append}
use Rattle.std.proofs.lemmas.List.{get_or_append_left, get_or_push, get_or_default, get_or-map, length-map, map_push}
use Rattle.std.proofs.lemmas.List.Elements.{All-nil, All-cons, All-push, All-tail}
use Rattle.std.proofs.lemmas.List.Folds.{flat_map-map}
use Rattle.std.proofs.lemmas.List.Sums.{sum_by-cons}
use Rattle.std.proofs.lemmas.Bool.{cases_Bool, cases_lt, false≢true, false_from_ne_true, MatchBool-at_true, MatchBool-at_false}
use Rattle.std.proofs.lemmas.Slice.Eq.{bytes_eq-Decides}
use Rattle.std.specs.List.{sum_by, list_any, range_with_len}
use Rattle.board_base.specs.Board.{BoardValue}
use Rattle.page_pool.specs.Pool.{Holding, IsLive, held_at, live_of}
use Rattle.keyframes.specs.declared.store.Store.{Store}
use Rattle.keyframes.specs.declared.frame.Frame.{Frame}
use Rattle.keyframes.specs.Frames.{board_of, page_bytes}
use Rattle.keyframes.specs.Holders.{IsNewPage, IsRowPage, KeepsBytes, holders_in, page_at, row_taken}
use Rattle.keyframes.specs.Inside.{AreRising, keys_of, the_keyframe}
use Rattle.keyframes.specs.Keys.{HaveRisingClocks, IsFresh, IsPageOf, Keeps, Keyframe, KeyframesValue, keys_thinned, last_of, page_of, pages_taken, thinned}
use Rattle.keyframes.specs.Keys.{live_of as keys_live}
use Rattle.keyframes.specs.Store.{HoldsFrames, IsFrame, IsKept, frame_places}
use Rattle.keyframes.proofs.BoardLaws.{board-joined, page-board, page-len}
use Rattle.keyframes.proofs.HolderLaws.{any-times}
use Rattle.keyframes.proofs.RoomLaws.{StaysAsItWas, all-thinned, board-same, frame-same, frames-live, map-same, store-live, thinned-keeps}

-- the clocks of the kept boards are those of their frames
module _ (f : Frame → Keyframe) (same : (x : Frame) → (f x).board.clock ≡ x.rest.clock) where
  pub clock-mapped : (frames : List Frame) (j : ℕ) (e : Frame) (d : Keyframe) → j < length frames → (get_or (map f frames) j d).board.clock ≡ (get_or frames j e).rest.clock
  clock-mapped frames j e d h = ap (λ (k : Keyframe). k.board.clock) (get_or-map f frames j e d h) ∙ same (get_or frames j e)

  pub rising-mapped : (frames : List Frame) → AreRising frames → HaveRisingClocks (map f frames)
  rising-mapped [] rising i j d h k = absurd (omega (arith, k))
  rising-mapped (x ∷ frames) rising i j d h k =
      let within : j < length (x ∷ frames) = omega (arith, k, length-map (x ∷ frames) f) in
      omega (arith, clock-mapped (x ∷ frames) i x d (omega (arith, h, within)), clock-mapped (x ∷ frames) j x d within, rising i j x h within)

  pub later-mapped : (frames : List Frame) (from clock : ℕ) → ((j : ℕ) (d : Frame) → from ≤ j → j < length frames → clock < (get_or frames j d).rest.clock)
      → (j : ℕ) (d : Keyframe) → from ≤ j → j < length (map f frames) → clock < (get_or (map f frames) j d).board.clock
  later-mapped [] from clock later j d h k = absurd (omega (arith, k))
  later-mapped (x ∷ frames) from clock later j d h k =
      let within : j < length (x ∷ frames) = omega (arith, k, length-map (x ∷ frames) f) in
      omega (arith, clock-mapped (x ∷ frames) j x d within, later j x h within)

pub all-one : {A : Type 0} (P : A → Type 0) (x : A) → P x → All P (x ∷ [])
all-one P x p zero d h = p
all-one P x p (suc k) d h = absurd (omega (arith, h))

-- a frame that was there is as it was
frame-stays : (old new : List (Option Holding)) (frame : Frame) → IsFrame old frame → KeepsBytes old new → StaysAsItWas old new frame
frame-stays old new frame is kept = λ k d h. kept (get_or frame.pages.items k d) (is.live k d h)

last-live : (pool : List (Option Holding)) (frames : List Frame) (frame : Frame) → HoldsFrames pool (frames ++ frame ∷ []) → All (IsLive pool) frame.pages.items
last-live pool frames frame holds =
    subst (λ (f : Frame). All (IsLive pool) f.pages.items) (get_or_push frames frame frame (length frames) refl)
    (frames-live pool (frames ++ frame ∷ []) holds frame (length frames) (omega (arith, length-append frames (frame ∷ []))))

-- all frames
pub frames-kept : (old new : List (Option Holding)) (frames after : List Frame) (b : BoardValue) → All (IsFrame old) frames → KeepsBytes old new
    → IsKept old frames new b after → HoldsFrames new after → All (IsFrame new) after
frames-kept old new frames after b all kept is holds =
    subst (All (IsFrame new)) (sym is.joined)
    (All-push (IsFrame new) frames is.frame (λ k d h. frame-same old new (get_or frames k d) (all k d h) (frame-stays old new (get_or frames k d) (all k d h) kept))
    (record {
      rest = rw is.rest (record { clock = is.board.clock; middle = is.board.middle; in0 = is.board.in0 });
      len = is.len;
      live = last-live new frames is.frame (rw is.joined at holds);
      whole = λ k d h.
          let within : k < 16 = omega (arith, h, is.len) in
          ap (λ (place : ℕ). length (page_bytes new place)) (get_or_default is.frame.pages.items k d 0 h)
          ∙ ap (λ (bytes : List ℕ). length bytes) (is.bytes k within) ∙ page-len b k is.board within;
    }))

pub keyframes-kept : (old new : List (Option Holding)) (frames after : List Frame) (b : BoardValue) → All (IsFrame old) frames → KeepsBytes old new
    → (is : IsKept old frames new b after) → map (the_keyframe new) after ≡ map (the_keyframe old) frames ++ (record { board = b; pages = is.frame.pages.items }) ∷ []
keyframes-kept old new frames after b all kept is =
    let same : map (the_keyframe new) frames ≡ map (the_keyframe old) frames =
    map-same (the_keyframe new) (the_keyframe old) frames
    (λ k d h. board-same old new (get_or frames k d) (frame-stays old new (get_or frames k d) (all k d h) kept)) in
    let last : the_keyframe new is.frame ≡ record { board = b; pages = is.frame.pages.items } =
    ap (λ (board : BoardValue). let one : Keyframe = record { board = board; pages = is.frame.pages.items } in one)
    (board-joined new is.frame b is.board is.rest is.len is.bytes) in
    ap (map (the_keyframe new)) is.joined ∙ map_push (the_keyframe new) frames is.frame ∙ rw (same, last) refl

-- the clocks rise
below-last : (kept : List Keyframe) (clock : ℕ) → HaveRisingClocks kept → IfSome (last_of kept) (λ last. last.board.clock < clock) → All (λ one. one.board.clock < clock) kept
below-last [] clock rising last = All-nil (λ one. one.board.clock < clock)
below-last (x ∷ []) clock rising last = all-one (λ one. one.board.clock < clock) x last
below-last (x ∷ y ∷ kept) clock rising last =
    let rest = below-last (y ∷ kept) clock (λ i j d h k. rising (suc i) (suc j) d (omega (arith, h)) (omega (arith, k))) last in
    All-cons (λ one. one.board.clock < clock) x (y ∷ kept) (omega (arith, rising 0 1 x (omega arith) (omega arith), rest 0 x (omega arith))) rest

last-map : {A B : Type 0} (f : A → B) (xs : List A) → last_of (map f xs) ≡ option_map f (last_of xs)
last-map f [] = refl
last-map f (x ∷ []) = refl
last-map f (x ∷ y ∷ xs) = last-map f (y ∷ xs)

pub below-kept : (old now : Store) (limit n clock : ℕ) → AreRising old.kept.items → IfSome (last_of (keys_of old limit).kept) (λ last. last.board.clock < clock)
    → keys_of now limit ≡ keys_thinned n (keys_of old limit) → All (λ frame. frame.rest.clock < clock) now.kept.items
below-kept old now limit n clock rising last thinned = λ k d h.
    let e = ap (λ (keyframe : Keyframe). keyframe.board.clock) (get_or-map (the_keyframe now.pool) now.kept.items k d (the_keyframe now.pool d) h) in
    omega (arith, e, after k (the_keyframe now.pool d) (omega (arith, h, length-map now.kept.items (the_keyframe now.pool))))
  where
    IsBelow : Keyframe → Type 0
    IsBelow keyframe = keyframe.board.clock < clock

    before : All IsBelow (keys_of old limit).kept
    before = below-last (keys_of old limit).kept clock (rising-mapped (the_keyframe old.pool) (λ x. refl) old.kept.items rising) last

    after : All IsBelow (map (the_keyframe now.pool) now.kept.items)
    after = subst (λ (keys : KeyframesValue). All IsBelow keys.kept) (sym thinned)
        (thinned-keeps (λ (keys : KeyframesValue). All IsBelow keys.kept) (λ keys. all-thinned IsBelow keys.kept) n (keys_of old limit) before)

pub rising-kept : (frames : List Frame) (frame : Frame) → AreRising frames → All (λ f. f.rest.clock < frame.rest.clock) frames → AreRising (frames ++ frame ∷ [])
rising-kept frames frame rising below i j d h k =
    let before : i < length frames = omega (arith, h, k, length-append frames (frame ∷ [])) in
    rw (get_or_append_left frames (frame ∷ []) d i before) (elim (cases_lt j (length frames)) [
      | inl left ↦ rw (get_or_append_left frames (frame ∷ []) d j left) (rising i j d h left)
      | inr from ↦ rw (get_or_push frames frame d j (omega (arith, k, from, length-append frames (frame ∷ [])))) (below i d before)
    ])

-- the places of its pages
module _ (pool : List (Option Holding)) (frames : List Frame) (holds : HoldsFrames pool frames) (all : All (IsFrame pool) frames) (b : BoardValue) (pages : List ℕ) where
  unheld : (place : ℕ) → held_at pool place ≡ None → list_any (eqb place) (frame_places frames) ≡ false
  unheld place none = any-times (frame_places frames) place ∙ ap (nat_lt 0) (sym (holds.holders place) ∙ ap holders_in none)

  -- a later page has another place than a new one
  later-apart : (last : Option Frame) → IfSome last (IsFrame pool) → (j k : ℕ) (bytes : List ℕ) → j < 16 → k < j → held_at pool (get_or pages k 0) ≡ None
      → IsRowPage pool (page_at last j) bytes pages j → get_or pages j 0 ≢ get_or pages k 0
  later-apart None is j k bytes h before none row = λ e. row.1 k before (sym e)
  later-apart (Some frame) is j k bytes h before none row = λ e. elim (cases_Bool (bytes_eq (page_bytes pool (get_or frame.pages.items j 0)) bytes)) [
    | inl same ↦
        let at : get_or pages k 0 ≡ get_or frame.pages.items j 0 = sym e ∙ MatchBool-at_true _ _ same row in
        false≢true (subst IsSome (subst (λ (place : ℕ). held_at pool place ≡ None) at none) (is.live j 0 (omega (arith, h, is.len))))
    | inr other ↦ (MatchBool-at_false _ _ other row).1 k before (sym e)
  ]

  module _ (last : Option Frame) (is : IfSome last (IsFrame pool)) (rows : (k : ℕ) → k < 16 → IsRowPage pool (page_at last k) (page_of b k) pages k) where
    fresh : (k : ℕ) → IsNewPage pool pages k → IsFresh (map (the_keyframe pool) frames) pages k
    fresh k new = (
      ap (list_any (eqb (get_or pages k 0))) (flat_map-map (λ (f : Keyframe). f.pages) (the_keyframe pool) frames) ∙ unheld (get_or pages k 0) new.0,
      λ j h apart. elim (cases_lt j k) [
        | inl before ↦ new.1 j before
        | inr from ↦ later-apart last is j k (page_of b j) h (omega (arith, from, apart)) new.0 (rows j h)
      ],
    )

  -- each page, as the value has it
  abbrev IsOnPage : Option Keyframe → ℕ → Type 0
  IsOnPage last k = MatchOption last (IsFresh (map (the_keyframe pool) frames) pages k)
      (λ before. (page_of b k ≡ page_of before.board k → get_or pages k 0 ≡ get_or before.pages k 0)
      × (page_of b k ≢ page_of before.board k → IsFresh (map (the_keyframe pool) frames) pages k))

  page-is : (last : Option Frame) → IfSome last (IsFrame pool) → ((k : ℕ) → k < 16 → IsRowPage pool (page_at last k) (page_of b k) pages k) → (k : ℕ) → k < 16
      → IsOnPage (option_map (the_keyframe pool) last) k
  page-is None is rows k h = fresh None is rows k (rows k h)
  page-is (Some frame) is rows k h = (
    λ same. MatchBool-at_true _ _ ((bytes_eq-Decides before (page_of b k)).1 (sym bytes ∙ sym same)) row,
    λ other. fresh (Some frame) is rows k (MatchBool-at_false _ _ (false_from_ne_true _ (λ e. other (sym ((bytes_eq-Decides before (page_of b k)).0 e) ∙ sym bytes))) row),
  )
    where
      before : List ℕ
      before = page_bytes pool (get_or frame.pages.items k 0)

      bytes : page_of (board_of pool frame) k ≡ page_bytes pool (get_or frame.pages.items k 0)
      bytes = page-board pool frame k is h

      row : IsRowPage pool (Some (get_or frame.pages.items k 0)) (page_of b k) pages k
      row = rows k h

  pub each-page : (last : Option Frame) → last_of frames ≡ last → IfSome last (IsFrame pool) → ((k : ℕ) → k < 16 → IsRowPage pool (page_at last k) (page_of b k) pages k)
      → (k : ℕ) → k < 16 → IsPageOf (map (the_keyframe pool) frames) b pages k
  each-page last e is rows k h =
      subst (λ (o : Option Keyframe). IsOnPage o k) (ap (option_map (the_keyframe pool)) (sym e) ∙ sym (last-map (the_keyframe pool) frames)) (page-is last is rows k h)

pub last-frame : (pool : List (Option Holding)) (frames : List Frame) → All (IsFrame pool) frames → IfSome (last_of frames) (IsFrame pool)
last-frame pool [] all = tt
last-frame pool (x ∷ []) all = all 0 x (omega arith)
last-frame pool (x ∷ y ∷ frames) all = last-frame pool (y ∷ frames) (All-tail (IsFrame pool) x (y ∷ frames) all)

-- how many pages are taken
sum-same : (f g : ℕ → ℕ) (from n : ℕ) → ((k : ℕ) → from ≤ k → k < from + n → f k ≡ g k) → sum_by f (range_with_len from n) ≡ sum_by g (range_with_len from n)
sum-same f g from zero same = refl
sum-same f g from (suc n) same =
    let rest = sum-same f g (from + 1) n (λ k h l. same k (omega (arith, h)) (omega (arith, l))) in
    omega (arith, rest, sum_by-cons f from (range_with_len (from + 1) n), sum_by-cons g from (range_with_len (from + 1) n), same from (omega arith) (omega arith))

taken-is : (pool : List (Option Holding)) (b : BoardValue) (last : Option Frame) → IfSome last (IsFrame pool)
    → row_taken pool last b 16 ≡ pages_taken (option_map (the_keyframe pool) last) b
taken-is pool b None is = refl
taken-is pool b (Some frame) is = sum-same (λ k. if is_at k then 0 else 1) (λ k. cond (not (bytes_eq (page_of (board_of pool frame) k) (page_of b k))) 1 0) 0 16
    (λ k h l. turned (is_at k) ∙ ap (λ (bytes : List ℕ). cond (not (bytes_eq bytes (page_of b k))) 1 0) (sym (page-board pool frame k is l)))
  where
    is_at : ℕ → Bool
    is_at k = bytes_eq (page_bytes pool (get_or frame.pages.items k 0)) (page_of b k)

    turned : (x : Bool) → ◌≡◌ {A = ℕ} (if x then 0 else 1) (cond (not x) 1 0)
    turned true = refl
    turned false = refl

pub live-kept : (old new : Store) (limit : ℕ) (b : BoardValue) → HoldsFrames old.pool old.kept.items → HoldsFrames new.pool new.kept.items → All (IsFrame old.pool) old.kept.items
    → live_of new.pool ≡ live_of old.pool + row_taken old.pool (last_of old.kept.items) b 16
    → keys_live (keys_of new limit) ≡ keys_live (keys_of old limit) + pages_taken (last_of (keys_of old limit).kept) b
live-kept old new limit b old_holds new_holds all live =
    let taken : row_taken old.pool (last_of old.kept.items) b 16 ≡ pages_taken (last_of (keys_of old limit).kept) b =
    taken-is old.pool b (last_of old.kept.items) (last-frame old.pool old.kept.items all)
    ∙ ap (λ (o : Option Keyframe). pages_taken o b) (sym (last-map (the_keyframe old.pool) old.kept.items)) in
    (store-live new limit new_holds) ∙ live ∙ rw (← (store-live old limit old_holds), ← taken) refl

pub store-keeps : (old new : Store) (limit : ℕ) (b : BoardValue) → HoldsFrames old.pool old.kept.items → HoldsFrames new.pool new.kept.items → All (IsFrame old.pool) old.kept.items
    → KeepsBytes old.pool new.pool → length new.pool ≡ length old.pool → IsKept old.pool old.kept.items new.pool b new.kept.items
    → live_of new.pool ≡ live_of old.pool + row_taken old.pool (last_of old.kept.items) b 16 → Keeps (keys_of old limit) (keys_of new limit) b
store-keeps old new limit b old_holds new_holds all bytes len is live = record {
  pages = is.frame.pages.items;
  kept = rw (keyframes-kept old.pool new.pool old.kept.items new.kept.items b all bytes is, len) refl;
  len = is.len;
  each = each-page old.pool old.kept.items old_holds all b is.frame.pages.items (last_of old.kept.items) refl (last-frame old.pool old.kept.items all) is.pages;
  live = live-kept old new limit b old_holds new_holds all live;
}

pub last-joined : {A : Type 0} (xs : List A) (x : A) → last_of (xs ++ x ∷ []) ≡ Some x
last-joined [] x = refl
last-joined (y ∷ []) x = refl
last-joined (y ∷ z ∷ xs) x = last-joined (z ∷ xs) x

-- the board that was kept is the last
pub last-kept : (old new : KeyframesValue) (b : BoardValue) (clock : ℕ) → Keeps old new b → b.clock < clock → IfSome (last_of new.kept) (λ last. last.board.clock < clock)
last-kept old new b clock keeps below =
    let keyframe : Keyframe = record { board = b; pages = keeps.pages } in
    let e : last_of new.kept ≡ Some keyframe = ap (λ (keys : KeyframesValue). last_of keys.kept) keeps.kept ∙ last-joined old.kept keyframe in
    rw e below
