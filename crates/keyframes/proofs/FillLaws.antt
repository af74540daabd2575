-- A row that is filled with the pages of a board.
use Rattle.std.proofs.Common.{◌≡◌, ℕ, ◌+◌, ◌<◌, ◌≤◌, List, [], ◌∷◌, ◌++◌, Option, Some, None, IfSome, All, Bor, option_map, Bool, MatchBool, true, false, bytes_eq, refl, sym, subst, ap}
use Rattle.std.proofs.Common.{zero, suc, ◌∙◌, length, get_or, inl, inr, arith, length-append, if◌then◌else◌}
use Rattle.std.proofs.lemmas.List.{get_or_append_left, get_or_push}
use Rattle.std.proofs.lemmas.List.FromFn.{sum_by-map-range_with_len_more}
use Rattle.std.proofs.lemmas.List.Sums.{sum-map}
use Rattle.std.proofs.lemmas.Bool.{cases_Bool}
use Rattle.std.specs.List.{sum_by, range_with_len}
use borrow.Author.Count.{below_more}
use Rattle.board_base.specs.Board.{BoardValue}
use Rattle.page_pool.specs.Pool.{Holding, held_at, IsLive, live_of}
use Rattle.keyframes.specs.declared.frame.Frame.{Frame}
use Rattle.keyframes.specs.Frames.{page_bytes}
use Rattle.keyframes.specs.Keys.{page_of}
use Rattle.keyframes.specs.Holders.{AreHeld, KeepsBytes, IsShareable, IsHeldPage, IsNewPage, IsRowPage, holders_in, holders_of, page_at, row_taken, taken_for, times_in}
use Rattle.keyframes.proofs.HolderLaws.{times-append, times-same}

-- the first pages of a board are in the row
pub record Filling (old : List (Option Holding)) (frame : Option Frame) (b : BoardValue) (pool : List (Option Holding)) (row : List ℕ) (n : ℕ) : Type 0 where
  pub held : AreHeld pool
  pub len : length pool ≡ length old
  pub holders : (place : ℕ) → holders_of pool place ≡ holders_of old place + times_in row place
  pub kept : KeepsBytes old pool
  pub count : length row ≡ n
  pub room : live_of pool ≤ live_of old + n
  pub live : live_of pool ≡ live_of old + row_taken old frame b n
  pub bytes : (k : ℕ) → k < n → IsLive pool (get_or row k 0) × (page_bytes pool (get_or row k 0) ≡ page_of b k)
  pub pages : (k : ℕ) → k < n → IsRowPage old (page_at frame k) (page_of b k) row k

taken_for-le : (pool : List (Option Holding)) (before : Option ℕ) (bytes : List ℕ) → taken_for pool before bytes ≤ 1
taken_for-le pool None bytes = omega arith
taken_for-le pool (Some place) bytes = elim (cases_Bool (bytes_eq (page_bytes pool place) bytes)) [
  | inl same ↦ rw same (omega arith)
  | inr other ↦ rw other (omega arith)
]

-- the pages of the frame before are live
pub before-live : (pool : List (Option Holding)) (before : Option (Bor Frame)) (n : ℕ) → IfSome before (λ frame. length frame.now.pages.items ≡ 16)
    → IfSome before (λ frame. All (IsShareable pool) frame.now.pages.items) → n < 16 → IfSome (page_at (option_map (λ frame. frame.now) before) n) (IsLive pool)
before-live pool None n len live h = tt
before-live pool (Some frame) n len live h = (live n 0 (omega (arith, len, h))).0

-- what is taken for a page is the same while a row is filled
taken-same : (old pool : List (Option Holding)) (before : Option ℕ) (bytes : List ℕ) → KeepsBytes old pool → IfSome before (IsLive old)
    → taken_for pool before bytes ≡ taken_for old before bytes
taken-same old pool None bytes kept live = refl
taken-same old pool (Some place) bytes kept live = ap (λ (xs : List ℕ). if bytes_eq xs bytes then 0 else 1) (kept place live).1

pub sum-last : (f : ℕ → ℕ) (n : ℕ) → sum_by f (range_with_len 0 (n + 1)) ≡ sum_by f (range_with_len 0 n) + f n
sum-last f n =
    sym (sum-map f (range_with_len 0 (n + 1))) ∙ sum_by-map-range_with_len_more (λ x. x) f 0 n n (omega arith) ∙ ap (λ (m : ℕ). m + f n) (sum-map f (range_with_len 0 n))

none-held : (o : Option Holding) → IfSome o (λ page. 0 < page.holders) → holders_in o ≡ 0 → o ≡ None
none-held None held none = refl
none-held (Some page) held none = absurd (omega (arith, held, none))

pub times-some : (row : List ℕ) (j : ℕ) → j < length row → 0 < times_in row (get_or row j 0)
times-some [] j h = absurd (omega (arith, h))
times-some (x ∷ row) zero h = omega (arith, times-append (x ∷ []) row x, times-same x)
times-some (x ∷ row) (suc j) h = omega (arith, times-some row j (omega (arith, h)), times-append (x ∷ []) row (get_or row j 0))

-- a place that is free while a row is filled
new-page : (old pool : List (Option Holding)) (row : List ℕ) (place : ℕ) → AreHeld old → ((p : ℕ) → holders_of pool p ≡ holders_of old p + times_in row p)
    → held_at pool place ≡ None → IsNewPage old (row ++ place ∷ []) (length row)
new-page old pool row place held holders none =
    let e = holders place in
    let f : holders_of pool place ≡ 0 = ap holders_in none in
    rw (get_or_push row place 0 (length row) refl) (
      none-held (held_at old place) (held place) (omega (arith, e, f)),
      λ j h same.
          let at : get_or row j 0 ≡ place = sym (get_or_append_left row (place ∷ []) 0 j h) ∙ same in
          let i : 0 < times_in row place = subst (λ (p : ℕ). 0 < times_in row p) at (times-some row j h) in
          omega (arith, e, f, i),
    )

-- each of two cases goes over to another
match-map : (b : Bool) (P Q P' Q' : Type 0) → (P → P') → (Q → Q') → MatchBool b P Q → MatchBool b P' Q'
match-map true P Q P' Q' f g x = f x
match-map false P Q P' Q' f g x = g x

row-page : (old pool : List (Option Holding)) (row : List ℕ) (place : ℕ) (before : Option ℕ) (bytes : List ℕ) → AreHeld old
    → ((p : ℕ) → holders_of pool p ≡ holders_of old p + times_in row p) → KeepsBytes old pool → IfSome before (IsLive old)
    → IsHeldPage pool before bytes place → IsRowPage old before bytes (row ++ place ∷ []) (length row)
row-page old pool row place None bytes held holders kept live is = new-page old pool row place held holders is
row-page old pool row place (Some p) bytes held holders kept live is =
    match-map (bytes_eq (page_bytes old p) bytes) _ _ _ _ (λ e. get_or_push row place 0 (length row) refl ∙ e) (new-page old pool row place held holders)
    (subst (λ (xs : List ℕ). MatchBool (bytes_eq xs bytes) (place ≡ p) (held_at pool place ≡ None)) (kept p live).1 is)

-- a page stays as it is as another one is appended
old-new_page : (pool : List (Option Holding)) (row : List ℕ) (place k : ℕ) → k < length row → IsNewPage pool row k → IsNewPage pool (row ++ place ∷ []) k
old-new_page pool row place k h new =
    rw (get_or_append_left row (place ∷ []) 0 k h) (new.0, λ j before same. new.1 j before (sym (get_or_append_left row (place ∷ []) 0 j (omega (arith, h, before))) ∙ same))

old-page : (pool : List (Option Holding)) (row : List ℕ) (place k : ℕ) (before : Option ℕ) (bytes : List ℕ) → k < length row → IsRowPage pool before bytes row k
    → IsRowPage pool before bytes (row ++ place ∷ []) k
old-page pool row place k None bytes h is = old-new_page pool row place k h is
old-page pool row place k (Some p) bytes h is =
    match-map (bytes_eq (page_bytes pool p) bytes) _ _ _ _ (λ e. get_or_append_left row (place ∷ []) 0 k h ∙ e) (old-new_page pool row place k h) is

-- one page more
pub filling-one : (old : List (Option Holding)) (frame : Option Frame) (b : BoardValue) (pool new : List (Option Holding)) (row : List ℕ) (n place : ℕ) → AreHeld old
    → IfSome (page_at frame n) (IsLive old) → Filling old frame b pool row n
    → AreHeld new → length new ≡ length pool → ((p : ℕ) → holders_of new p ≡ holders_of pool p + times_in (place ∷ []) p)
    → IsLive new place × (page_bytes new place ≡ page_of b n) → KeepsBytes pool new → IsHeldPage pool (page_at frame n) (page_of b n) place
    → live_of new ≡ live_of pool + taken_for pool (page_at frame n) (page_of b n) → Filling old frame b new (row ++ place ∷ []) (n + 1)
filling-one old frame b pool new row n place old_held before f held len holders bytes kept is live = record {
  held = held;
  len = len ∙ f.len;
  holders = λ p. omega (arith, f.holders p, holders p, times-append row (place ∷ []) p);
  kept = λ p p_live. let next = kept p (f.kept p p_live).0 in (next.0, next.1 ∙ (f.kept p p_live).1);
  count = omega (arith, f.count, length-append row (place ∷ []));
  room = omega (arith, f.room, live, taken_for-le pool (page_at frame n) (page_of b n));
  live =
      omega (arith, f.live, live, taken-same old pool (page_at frame n) (page_of b n) f.kept before, sum-last (λ (k : ℕ). taken_for old (page_at frame k) (page_of b k)) n);
  bytes = below_more (λ k. IsLive new (get_or (row ++ place ∷ []) k 0) × (page_bytes new (get_or (row ++ place ∷ []) k 0) ≡ page_of b k)) n (λ k below.
      let page = kept (get_or row k 0) (f.bytes k below).0 in
      rw (get_or_append_left row (place ∷ []) 0 k (omega (arith, below, f.count))) (page.0, page.1 ∙ (f.bytes k below).1))
      (rw (get_or_push row place 0 n f.count) bytes);
  pages = below_more (λ k. IsRowPage old (page_at frame k) (page_of b k) (row ++ place ∷ []) k) n
      (λ k below. old-page old row place k (page_at frame k) (page_of b k) (omega (arith, below, f.count)) (f.pages k below))
      (subst (λ (m : ℕ). IsRowPage old (page_at frame n) (page_of b n) (row ++ place ∷ []) m) f.count
      (row-page old pool row place (page_at frame n) (page_of b n) old_held f.holders f.kept before is));
}

-- what was taken for all pages
pub filling-live : (old : List (Option Holding)) (frame : Option Frame) (b : BoardValue) (pool : List (Option Holding)) (row : List ℕ) (n all : ℕ) → Filling old frame b pool row n → n ≡ all
    → live_of pool ≡ live_of old + row_taken old frame b all
filling-live old frame b pool row n all f e = subst (λ (m : ℕ). live_of pool ≡ live_of old + row_taken old frame b m) e f.live
