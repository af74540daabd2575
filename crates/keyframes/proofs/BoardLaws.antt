-- The pages of a board, and the board of its pages.
use Rattle.std.proofs.Common.{◌≡◌, ℕ, ◌+◌, ◌-◌, ◌*◌, ◌<◌, ◌≤◌, List, [], ◌∷◌, ◌++◌, Option, All, Bool, refl, sym, ◌∙◌, ap, length, flat_map, take, drop, get_or, if◌then◌else◌, append-nil}
use Rattle.std.proofs.Common.{zero, suc, inl, inr, arith, length-drop, length-append}
use Rattle.std.proofs.lemmas.List.{take-append-drop, drop-drop, take_at, get_or-drop, get_or-take, length-take-le, take_more}
use Rattle.std.proofs.lemmas.List.Elements.{All-tail, All-take, All-drop}
use Rattle.std.proofs.Math.Seq.{drop-append-add, take-append_seam}
use Rattle.std.proofs.lemmas.Bool.{cases_lt, le-ltb, lt-ltb}
use Rattle.std.proofs.lemmas.Grind.{flat_map-append}
use Rattle.std.proofs.lemmas.Slice.{drop-append-drop}
use Rattle.board_base.specs.Board.{BoardValue, IsBoard}
use Rattle.page_pool.specs.Pool.{Holding}
use Rattle.keyframes.specs.declared.frame.Frame.{Frame}
use Rattle.keyframes.specs.Frames.{board_of, page_bytes, rest_of}
use Rattle.keyframes.specs.Keys.{page_of}
use Rattle.keyframes.specs.Store.{IsFrame}

-- pieces of 256 bytes, one after another
pub pieces-joined : (f : ℕ → List ℕ) (xs : List ℕ) (bytes : List ℕ) → length bytes ≡ 256 * length xs
    → ((k : ℕ) → k < length xs → f (get_or xs k 0) ≡ take 256 (drop (256 * k) bytes)) → flat_map f xs ≡ bytes
pieces-joined f [] [] len each = refl
pieces-joined f [] (b ∷ bytes) len each = absurd (omega (arith, len))
pieces-joined f (x ∷ xs) bytes len each =
    let first : f x ≡ take 256 bytes = each 0 (omega arith) in
    let rest : flat_map f xs ≡ drop 256 bytes =
    pieces-joined f xs (drop 256 bytes) (omega (arith, len, length-drop 256 bytes))
    (λ k h. each (suc k) (omega (arith, h)) ∙ ap (take 256) (ap (λ (n : ℕ). drop n bytes) (let e : 256 * suc k ≡ 256 + 256 * k = omega arith in e) ∙ sym (drop-drop (256 * k) 256 bytes))) in
    rw (first, rest) (take-append-drop 256 bytes)

pub piece-at : (f : ℕ → List ℕ) (xs : List ℕ) (k : ℕ) → All (λ x. length (f x) ≡ 256) xs → k < length xs → take 256 (drop (256 * k) (flat_map f xs)) ≡ f (get_or xs k 0)
piece-at f [] k all h = absurd (omega (arith, h))
piece-at f (x ∷ xs) zero all h = take_at (f x) (flat_map f xs) 256 (all 0 x (omega arith))
piece-at f (x ∷ xs) (suc k) all h =
    let len : length (f x) ≡ 256 = all 0 x (omega arith) in
    let at : drop (256 * suc k) (f x ++ flat_map f xs) ≡ drop (256 * k) (flat_map f xs) =
    ap (λ (n : ℕ). drop n (f x ++ flat_map f xs)) (let e : 256 * suc k ≡ length (f x) + 256 * k = omega (arith, len) in e) ∙ drop-append-add (f x) (flat_map f xs) (256 * k) in
    ap (take 256) at ∙ piece-at f xs k (All-tail (λ y. length (f y) ≡ 256) x xs all) (omega (arith, h))

-- the pages of a board, by the half
page-low : (b : BoardValue) (k : ℕ) → k < 8 → page_of b k ≡ take 256 (drop (256 * k) b.ram)
page-low b k h = ap (λ (x : Bool). if x then take 256 (drop (256 * k) b.ram) else take 256 (drop (256 * (k - 8)) b.vram)) (lt-ltb k 8 h)

page-high : (b : BoardValue) (k : ℕ) → 8 ≤ k → page_of b k ≡ take 256 (drop (256 * (k - 8)) b.vram)
page-high b k h = ap (λ (x : Bool). if x then take 256 (drop (256 * k) b.ram) else take 256 (drop (256 * (k - 8)) b.vram)) (le-ltb k 8 h)

pub page-len : (b : BoardValue) (k : ℕ) → IsBoard b → k < 16 → length (page_of b k) ≡ 256
page-len b k is h = elim (cases_lt k 8) [
  | inl low ↦ rw (page-low b k low) (length-take-le 256 (drop (256 * k) b.ram) (omega (arith, low, is.ram, length-drop (256 * k) b.ram)))
  | inr high ↦
      rw (page-high b k high) (length-take-le 256 (drop (256 * (k - 8)) b.vram) (omega (arith, h, high, is.vram, length-drop (256 * (k - 8)) b.vram)))
]

-- the board of a frame whose pages have the bytes of a board
pub board-joined : (pool : List (Option Holding)) (frame : Frame) (b : BoardValue) → IsBoard b → frame.rest ≡ rest_of b → length frame.pages.items ≡ 16
    → ((k : ℕ) → k < 16 → page_bytes pool (get_or frame.pages.items k 0) ≡ page_of b k) → board_of pool frame ≡ b
board-joined pool frame b is rest len each =
    let items = frame.pages.items in
    let ram : flat_map (page_bytes pool) (take 8 items) ≡ b.ram =
    pieces-joined (page_bytes pool) (take 8 items) b.ram (let e = length-take-le 8 items (omega (arith, len)) in let whole = is.ram in omega (arith, e, whole))
    (λ k h.
    let low : k < 8 = let e = length-take-le 8 items (omega (arith, len)) in omega (arith, h, e) in
    ap (page_bytes pool) (get_or-take 8 items k 0 low) ∙ each k (omega (arith, low)) ∙ page-low b k low) in
    let vram : flat_map (page_bytes pool) (drop 8 items) ≡ b.vram =
    pieces-joined (page_bytes pool) (drop 8 items) b.vram (let whole = is.vram in omega (arith, len, whole, length-drop 8 items))
    (λ k h.
    let below : 8 + k < 16 = omega (arith, h, len, length-drop 8 items) in
    ap (page_bytes pool) (get_or-drop 8 items k 0) ∙ each (8 + k) below ∙ page-high b (8 + k) (omega arith)
    ∙ ap (λ (n : ℕ). take 256 (drop (256 * n) b.vram)) (let e : 8 + k - 8 ≡ k = omega arith in e)) in
    rw (rest, ram, vram) refl

-- the pages of a frame's board have the bytes of its pages
pub page-board : (pool : List (Option Holding)) (frame : Frame) (k : ℕ) → IsFrame pool frame → k < 16
    → page_of (board_of pool frame) k ≡ page_bytes pool (get_or frame.pages.items k 0)
page-board pool frame k is h = elim (cases_lt k 8) [
  | inl low ↦
      page-low (board_of pool frame) k low
      ∙ piece-at (page_bytes pool) (take 8 items) k (All-take whole 8 items is.whole) (let e = length-take-le 8 items (omega (arith, len)) in omega (arith, e, low))
      ∙ ap (page_bytes pool) (get_or-take 8 items k 0 low)
  | inr high ↦
      page-high (board_of pool frame) k high
      ∙ piece-at (page_bytes pool) (drop 8 items) (k - 8) (All-drop whole 8 items is.whole) (omega (arith, len, h, high, length-drop 8 items))
      ∙ ap (page_bytes pool) (get_or-drop 8 items (k - 8) 0 ∙ ap (λ (n : ℕ). get_or items n 0) (let e : 8 + (k - 8) ≡ k = omega (arith, high) in e))
]
  where
    items : List ℕ
    items = frame.pages.items

    len : length frame.pages.items ≡ 16
    len = is.len

    whole : ℕ → Type 0
    whole place = length (page_bytes pool place) ≡ 256

-- the first n pieces, and what was there after them
pub record Written (f : ℕ → List ℕ) (pages : List ℕ) (n : ℕ) (old now : List ℕ) : Type 0 where
  pub len : length (flat_map f (take n pages)) ≡ 256 * n
  pub bytes : now ≡ flat_map f (take n pages) ++ drop (256 * n) old

flat_map-more : (f : ℕ → List ℕ) (pages : List ℕ) (n : ℕ) → n < length pages → flat_map f (take (n + 1) pages) ≡ flat_map f (take n pages) ++ f (get_or pages n 0)
flat_map-more f pages n h =
    ap (flat_map f) (take_more pages n 0 h) ∙ flat_map-append f (take n pages) (get_or pages n 0 ∷ [])
    ∙ ap (λ (bytes : List ℕ). flat_map f (take n pages) ++ bytes) (append-nil (f (get_or pages n 0)))

pub written-more : (f : ℕ → List ℕ) (pages : List ℕ) (n : ℕ) (old now piece next : List ℕ) → Written f pages n old now → n < length pages
    → length piece ≡ 256 → f (get_or pages n 0) ≡ piece → next ≡ take (256 * n) now ++ piece ++ drop (256 * n + 256) now → Written f pages (n + 1) old next
written-more f pages n old now piece next w h len is put = record {
  len = ap (λ (bytes : List ℕ). length bytes) more ∙ omega (arith, w.len, len, length-append (flat_map f (take n pages)) piece);
  bytes =
      put ∙ ap (λ (front : List ℕ). front ++ piece ++ drop (256 * n + 256) now) front ∙ ap (λ (back : List ℕ). flat_map f (take n pages) ++ piece ++ back) back
      ∙ ap (λ (bytes : List ℕ). bytes ++ drop (256 * (n + 1)) old) (sym more);
}
  where
    more : flat_map f (take (n + 1) pages) ≡ flat_map f (take n pages) ++ piece
    more = flat_map-more f pages n h ∙ ap (λ (bytes : List ℕ). flat_map f (take n pages) ++ bytes) is

    front : take (256 * n) now ≡ flat_map f (take n pages)
    front = rw (w.bytes, ← w.len) (take-append_seam (flat_map f (take n pages)) (drop (length (flat_map f (take n pages))) old))

    back : drop (256 * n + 256) now ≡ drop (256 * (n + 1)) old
    back =
        let e : 256 * (n + 1) ≡ 256 * n + 256 = omega arith in
        rw (w.bytes, e) (drop-append-drop (256 * n) old (flat_map f (take n pages)) (256 * n + 256) (omega arith) w.len)
