-- A store whose frames are thinned until there is room.
use Rattle.std.proofs.Common.{◌≡◌, ℕ, ◌+◌, ◌*◌, ◌<◌, ◌≤◌, ◌||◌, List, [], ◌∷◌, Option, All, Bool, true, false, refl, sym, ◌∙◌, ap, subst, length, map, flat_map, take, drop, get_or}
use Rattle.std.proofs.Common.{eqb, nat_lt, nat_le, cond, zero, suc, inl, inr, arith}
use Rattle.std.proofs.lemmas.List.{get_or_default, length-map}
use Rattle.std.proofs.lemmas.List.Folds.{flat_map-map}
use Rattle.std.proofs.lemmas.List.Elements.{All-tail, All-take, All-drop}
use Rattle.std.proofs.lemmas.List.Sums.{sum_by-cons, sum_by-le}
use Rattle.std.proofs.lemmas.Bool.Decides.{eqb_tells}
use Rattle.std.proofs.lemmas.Bool.{leb-true, ltb-false, ltb-true, or_cases, or_parts}
use borrow.Author.Count.{below_more}
use Rattle.std.specs.List.{count_by, list_any, range_with_len}
use Rattle.page_pool.specs.Pool.{Holding, IsLive, live_of}
use Rattle.keyframes.specs.declared.store.Store.{Store}
use Rattle.keyframes.specs.declared.frame.Frame.{Frame}
use Rattle.keyframes.specs.Frames.{page_bytes}
use Rattle.keyframes.specs.Holders.{LeavesBytes, times_in}
use Rattle.keyframes.specs.Inside.{AreRising, IsStore, keys_of, the_keyframe}
use Rattle.keyframes.specs.Keys.{Keyframe, KeyframesValue, MakesRoom, is_crowded, keys_thinned, thinned}
use Rattle.keyframes.specs.Keys.{live_of as keys_live}
use Rattle.keyframes.specs.Store.{HoldsFrames, IsFrame, frame_places}
use Rattle.keyframes.proofs.HolderLaws.{live-held, times-append, live-places}
use Rattle.keyframes.proofs.FillLaws.{times-some}
use Rattle.keyframes.proofs.ThinLaws.{length-places}

-- the elements of a thinned list are every second one
get-thinned : {A : Type 0} (xs : List A) (i : ℕ) (d : A) → get_or (thinned xs) i d ≡ get_or xs (2 * i) d
get-thinned [] i d = refl
get-thinned (a ∷ []) zero d = refl
get-thinned (a ∷ []) (suc i) d = ap (λ (n : ℕ). get_or (a ∷ []) n d) (let e : suc (suc (2 * i)) ≡ 2 * suc i = omega arith in e)
get-thinned (a ∷ b ∷ xs) zero d = refl
get-thinned (a ∷ b ∷ xs) (suc i) d = get-thinned xs i d ∙ ap (λ (n : ℕ). get_or (a ∷ b ∷ xs) n d) (let e : suc (suc (2 * i)) ≡ 2 * suc i = omega arith in e)

length-thinned : {A : Type 0} (xs : List A) → 2 * length (thinned xs) ≤ length xs + 1
length-thinned [] = omega arith
length-thinned (a ∷ []) = omega arith
length-thinned (a ∷ b ∷ xs) = omega (arith, length-thinned xs)

pub thinned-fewer : {A : Type 0} (xs : List A) → 2 ≤ length xs → length (thinned xs) < length xs
thinned-fewer xs two = omega (arith, two, length-thinned xs)

pub all-thinned : {A : Type 0} (P : A → Type 0) (xs : List A) → All P xs → All P (thinned xs)
all-thinned P xs all = λ k d h. subst P (sym (get-thinned xs k d)) (all (2 * k) d (omega (arith, h, length-thinned xs)))

pub rising-thinned : (frames : List Frame) → AreRising frames → AreRising (thinned frames)
rising-thinned frames rising i j d h k =
    let a = ap (λ (f : Frame). f.rest.clock) (get-thinned frames i d) in
    let b = ap (λ (f : Frame). f.rest.clock) (get-thinned frames j d) in
    omega (arith, rising (2 * i) (2 * j) d (omega (arith, h)) (omega (arith, k, length-thinned frames)), a, b)

map-thinned : {A B : Type 0} (f : A → B) (xs : List A) → map f (thinned xs) ≡ thinned (map f xs)
map-thinned f [] = refl
map-thinned f (a ∷ []) = refl
map-thinned f (a ∷ b ∷ xs) = ap (λ ys. f a ∷ ys) (map-thinned f xs)

pub map-same : {A B : Type 0} (f g : A → B) (xs : List A) → All (λ x. f x ≡ g x) xs → map f xs ≡ map g xs
map-same f g [] all = refl
map-same f g (x ∷ xs) all = rw (all 0 x (omega arith), map-same f g xs (All-tail (λ y. f y ≡ g y) x xs all)) refl

flat_map-same : (f g : ℕ → List ℕ) (xs : List ℕ) → All (λ x. f x ≡ g x) xs → flat_map f xs ≡ flat_map g xs
flat_map-same f g [] all = refl
flat_map-same f g (x ∷ xs) all = rw (all 0 x (omega arith), flat_map-same f g xs (All-tail (λ y. f y ≡ g y) x xs all)) refl

-- a frame whose pages live on with the same bytes is as it was, and the same board
abbrev pub StaysAsItWas : List (Option Holding) → List (Option Holding) → Frame → Type 0
StaysAsItWas old new frame = All (λ place. IsLive new place × (page_bytes new place ≡ page_bytes old place)) frame.pages.items

pub frame-same : (old new : List (Option Holding)) (frame : Frame) → IsFrame old frame → StaysAsItWas old new frame → IsFrame new frame
frame-same old new frame is stays = record { rest = is.rest; len = is.len; live = λ k d h. (stays k d h).0; whole = λ k d h. ap (λ (bytes : List ℕ). length bytes) (stays k d h).1 ∙ is.whole k d h }

pub board-same : (old new : List (Option Holding)) (frame : Frame) → StaysAsItWas old new frame → the_keyframe new frame ≡ the_keyframe old frame
board-same old new frame stays =
    let same : ℕ → Type 0 = λ place. page_bytes new place ≡ page_bytes old place in
    let all : All same frame.pages.items = λ k d h. (stays k d h).1 in
    rw (
      flat_map-same (page_bytes new) (page_bytes old) (take 8 frame.pages.items) (All-take same 8 frame.pages.items all),
      flat_map-same (page_bytes new) (page_bytes old) (drop 8 frame.pages.items) (All-drop same 8 frame.pages.items all),
    ) refl

-- the pages of kept frames are live
places-some : (frames : List Frame) (k : ℕ) (d : Frame) (place : ℕ) → k < length frames → 0 < times_in (get_or frames k d).pages.items place
    → 0 < times_in (frame_places frames) place
places-some [] k d place h some = absurd (omega (arith, h))
places-some (frame ∷ frames) zero d place h some = omega (arith, some, times-append frame.pages.items (frame_places frames) place)
places-some (frame ∷ frames) (suc k) d place h some =
    omega (arith, places-some frames k d place (omega (arith, h)) some, times-append frame.pages.items (frame_places frames) place)

pub frames-live : (pool : List (Option Holding)) (frames : List Frame) → HoldsFrames pool frames → (d : Frame) (k : ℕ) → k < length frames
    → All (IsLive pool) (get_or frames k d).pages.items
frames-live pool frames holds d k h = λ i e i_h.
    let items = (get_or frames k d).pages.items in
    let some : 0 < times_in items (get_or items i e) = times-at items i e i_h in
    live-held pool (get_or items i e) (omega (arith, holds.holders (get_or items i e), places-some frames k d (get_or items i e) h some))
  where
    times-at : (xs : List ℕ) (i e : ℕ) → i < length xs → 0 < times_in xs (get_or xs i e)
    times-at xs i e i_h = subst (λ (p : ℕ). 0 < times_in xs p) (sym (get_or_default xs i e 0 i_h)) (times-some xs i i_h)

-- a frame that stays is as it was
frames-stay : (old new : List (Option Holding)) (frames : List Frame) → LeavesBytes old new → HoldsFrames new frames → All (StaysAsItWas old new) frames
frames-stay old new frames leaves holds k d h i e at = let live = frames-live new frames holds d k h i e at in (live, (leaves _ live).1)

pub frames-left : (old new : List (Option Holding)) (frames : List Frame) → All (IsFrame old) frames → LeavesBytes old new → HoldsFrames new frames → All (IsFrame new) frames
frames-left old new frames all leaves holds = λ k d h. frame-same old new (get_or frames k d) (all k d h) (frames-stay old new frames leaves holds k d h)

pub view-thinned : (old new : Store) (limit : ℕ) → new.kept.items ≡ thinned old.kept.items → LeavesBytes old.pool new.pool → HoldsFrames new.pool new.kept.items
    → length new.pool ≡ length old.pool → keys_of new limit ≡ record (keys_of old limit) { kept = thinned (keys_of old limit).kept }
view-thinned old new limit kept leaves holds len =
    let list : map (the_keyframe new.pool) new.kept.items ≡ thinned (map (the_keyframe old.pool) old.kept.items) =
    map-same (the_keyframe new.pool) (the_keyframe old.pool) new.kept.items
    (λ k d h. board-same old.pool new.pool (get_or new.kept.items k d) (frames-stay old.pool new.pool new.kept.items leaves holds k d h))
    ∙ ap (map (the_keyframe old.pool)) kept ∙ map-thinned (the_keyframe old.pool) old.kept.items in
    rw (list, len) refl

-- some thinnings, each of a crowded list
pub record Thinned (old now : KeyframesValue) : Type 0 where
  pub thinnings : ℕ
  pub thinned : now ≡ keys_thinned thinnings old
  pub crowded : (n : ℕ) → n < thinnings → is_crowded (keys_thinned n old) ≡ true

-- what a thinning keeps, some keep
pub thinned-keeps : (P : KeyframesValue → Type 0) → ((keys : KeyframesValue) → P keys → P (record keys { kept = thinned keys.kept }))
    → (n : ℕ) (keys : KeyframesValue) → P keys → P (keys_thinned n keys)
thinned-keeps P keeps zero keys holds = holds
thinned-keeps P keeps (suc n) keys holds = thinned-keeps P keeps n (record keys { kept = thinned keys.kept }) (keeps keys holds)

thinned-last : (n : ℕ) (keys : KeyframesValue) → keys_thinned n (record keys { kept = thinned keys.kept }) ≡ record (keys_thinned n keys) { kept = thinned (keys_thinned n keys).kept }
thinned-last zero keys = refl
thinned-last (suc n) keys = thinned-last n (record keys { kept = thinned keys.kept })

pub thinned-more : (old now next : KeyframesValue) → Thinned old now → is_crowded now ≡ true → next ≡ record now { kept = thinned now.kept } → Thinned old next
thinned-more old now next t crowded more = record {
  thinnings = suc t.thinnings;
  thinned = more ∙ ap (λ (keys : KeyframesValue). record keys { kept = thinned keys.kept }) t.thinned ∙ sym (thinned-last t.thinnings old);
  crowded = λ n h. below_more (λ m. is_crowded (keys_thinned m old) ≡ true) t.thinnings t.crowded (ap is_crowded (sym t.thinned) ∙ crowded) n (omega (arith, h));
}

pub thinned-room : (old now : KeyframesValue) → Thinned old now → is_crowded now ≡ false → MakesRoom old now
thinned-room old now t roomy = record { thinnings = t.thinnings; thinned = t.thinned; crowded = t.crowded; roomy = roomy }

-- the live pages of a store, by its value
pub store-live : (store : Store) (limit : ℕ) → HoldsFrames store.pool store.kept.items → keys_live (keys_of store limit) ≡ live_of store.pool
store-live store limit holds = sym (
    live-places store.pool (frame_places store.kept.items) holds.held holds.holders
    ∙ ap (λ (places : List ℕ). count_by (λ place. list_any (eqb place) places) (range_with_len 0 (length store.pool)))
    (sym (flat_map-map (λ (k : Keyframe). k.pages) (the_keyframe store.pool) store.kept.items)))

pub store-crowded : (store : Store) (limit : ℕ) → IsStore store limit
    → is_crowded (keys_of store limit) ≡ (nat_lt (length store.pool) (live_of store.pool + 16) || nat_le limit store.kept.len)
store-crowded store limit is =
    let few : length (map (the_keyframe store.pool) store.kept.items) ≡ store.kept.len = length-map store.kept.items (the_keyframe store.pool) ∙ omega (arith, store.kept.ok) in
    rw (store-live store limit is.holders, few) refl

-- at most as many places are live as pages are kept
count-one : (from n x : ℕ) → (count_by (λ p. eqb p x) (range_with_len from n) ≤ 1) × (x < from → count_by (λ p. eqb p x) (range_with_len from n) ≡ 0)
count-one from zero x = (omega arith, λ h. refl)
count-one from (suc n) x =
    let rest = count-one (from + 1) n x in
    let e = sum_by-cons (λ (p : ℕ). cond (eqb p x) 1 0) from (range_with_len (from + 1) n) in
    elim (eqb_tells from x) [
      | inl (is, at) ↦
          let first : ◌≡◌ {A = ℕ} (cond (eqb from x) 1 0) 1 = rw is refl in
          (omega (arith, e, first, rest.1 (omega (arith, at))), λ h. absurd (omega (arith, h, at)))
      | inr (is, apart) ↦
          let first : ◌≡◌ {A = ℕ} (cond (eqb from x) 1 0) 0 = rw is refl in
          (omega (arith, e, first, rest.0), λ h. omega (arith, e, first, rest.1 (omega (arith, h))))
    ]

count-any : (places range : List ℕ) (x : ℕ) → count_by (λ p. list_any (eqb p) (x ∷ places)) range ≤ count_by (λ p. eqb p x) range + count_by (λ p. list_any (eqb p) places) range
count-any places [] x = omega arith
count-any places (p ∷ range) x =
    let a = sum_by-cons (λ (p : ℕ). cond (list_any (eqb p) (x ∷ places)) 1 0) p range in
    let b = sum_by-cons (λ (p : ℕ). cond (eqb p x) 1 0) p range in
    let c = sum_by-cons (λ (p : ℕ). cond (list_any (eqb p) places) 1 0) p range in
    omega (arith, count-any places range x, a, b, c, either (eqb p x) (list_any (eqb p) places))
  where
    either : (x y : Bool) → cond (x || y) 1 0 ≤ cond x 1 0 + cond y 1 0
    either true y = omega arith
    either false y = omega arith

count-places : (places : List ℕ) (n : ℕ) → count_by (λ p. list_any (eqb p) places) (range_with_len 0 n) ≤ length places
count-places [] n = omega (arith, sum_by-le (λ (p : ℕ). 0) 0 (range_with_len 0 n) (λ k d h. omega arith))
count-places (x ∷ places) n = omega (arith, count-places places n, count-any places (range_with_len 0 n) x, (count-one 0 n x).0)

live-most : (pool : List (Option Holding)) (frames : List Frame) → HoldsFrames pool frames → All (IsFrame pool) frames → live_of pool ≤ 16 * length frames
live-most pool frames holds all =
    omega (arith, live-places pool (frame_places frames) holds.held holds.holders, count-places (frame_places frames) (length pool), length-places pool frames all)

-- where it is crowded, there are two boards to thin
pub crowded-two : (store : Store) (limit : ℕ) → IsStore store limit → (nat_lt (length store.pool) (live_of store.pool + 16) || nat_le limit store.kept.len) ≡ true
    → 2 ≤ store.kept.len
crowded-two store limit is crowded = elim (or_cases (nat_lt (length store.pool) (live_of store.pool + 16)) (nat_le limit store.kept.len) crowded) [
  | inl pages ↦ omega (arith, is.pages, ltb-true (length store.pool) (live_of store.pool + 16) pages, live-most store.pool store.kept.items is.holders is.frames, store.kept.ok)
  | inr full ↦ omega (arith, is.least, leb-true limit store.kept.len full)
]

-- where it is not crowded, the pages of a board are free
pub room-free : (store : Store) (limit : ℕ) → IsStore store limit → is_crowded (keys_of store limit) ≡ false → live_of store.pool + 16 ≤ length store.pool
room-free store limit is roomy = ltb-false _ _ (or_parts _ _ (sym (store-crowded store limit is) ∙ roomy)).0
