-- The holders of pages, as pages are taken, shared and given back.
use Rattle.std.proofs.Common.{◌≡◌, ◌≢◌, ℕ, ◌+◌, ◌<◌, ◌≤◌, inl, inr, List, [], ◌∷◌, ◌++◌, Option, Some, None, IsSome, IfSome, option_map, ◌||◌, is_some, Bool, map, nat_lt, zero-add}
use Rattle.std.proofs.Common.{true, false, cond, eqb, refl, sym, ◌∙◌, ap, subst, length, slice_set, zero, suc, arith, bytes_eq}
use Rattle.std.proofs.lemmas.List.{get_or-set_same, get_or-set_other, get_or-map, length-map}
use Rattle.std.proofs.lemmas.List.Sums.{sum_by-append, sum-map, sum_by-cons}
use Rattle.std.proofs.lemmas.Bool.{cases_eq, lt-ltb}
use Rattle.std.proofs.lemmas.Slice.Eq.{bytes_eq-Decides}
use Rattle.std.proofs.lemmas.List.FromFn.{fill_by_all}
use Rattle.std.specs.List.{count_by, list_any, range_with_len, sum}
use Rattle.page_pool.specs.Pool.{Holding, held_at, IsLive, held_more, pool_shared, live_of}
use Rattle.keyframes.specs.Frames.{page_bytes, bytes_in}
use Rattle.keyframes.specs.Holders.{times_in, holders_in, holders_of, AreHeld, LeavesBytes, KeepsBytes}

pub times-same : (at : ℕ) → times_in (at ∷ []) at ≡ 1
times-same at = grind arith

-- a live place is one of the pool's
live-within : (pool : List (Option Holding)) (place : ℕ) → IsLive pool place → place < length pool
live-within [] place live = cc
live-within (o ∷ pool) zero live = omega arith
live-within (o ∷ pool) (suc place) live = let e = live-within pool place live in omega (arith, e)

here : (pool : List (Option Holding)) (at : ℕ) (o : Option Holding) → at < length pool → held_at (slice_set pool at o) at ≡ o
here pool at o h = get_or-set_same pool at o None h

there : (pool : List (Option Holding)) (at place : ℕ) (o : Option Holding) → at ≢ place → held_at (slice_set pool at o) place ≡ held_at pool place
there pool at place o apart = get_or-set_other pool at place o None (λ e. apart (sym e))

pub shared-kept : (pool : List (Option Holding)) (at : ℕ) → IsLive pool at → KeepsBytes pool (pool_shared pool at)
shared-kept pool at at_live place live = elim (cases_eq at place) [
  | inl same ↦ subst (λ (p : ℕ). IsLive (pool_shared pool at) p × (page_bytes (pool_shared pool at) p ≡ page_bytes pool p)) same
      (let e = here pool at (option_map held_more (held_at pool at)) (live-within pool at at_live) in
      (subst IsSome (sym e) (more-live (held_at pool at) at_live), ap bytes_in e ∙ more-bytes (held_at pool at)))
  | inr apart ↦
      let e = there pool at place (option_map held_more (held_at pool at)) apart in
      (subst IsSome (sym e) live, ap bytes_in e)
]
  where
    more-live : (o : Option Holding) → IsSome o → IsSome (option_map held_more o)
    more-live None live = live
    more-live (Some page) live = refl

    more-bytes : (o : Option Holding) → bytes_in (option_map held_more o) ≡ bytes_in o
    more-bytes None = refl
    more-bytes (Some page) = refl

-- the places of two lists
pub times-append : (xs ys : List ℕ) (place : ℕ) → times_in (xs ++ ys) place ≡ times_in xs place + times_in ys place
times-append xs ys place = sum_by-append (λ (x : ℕ). cond (eqb place x) 1 0) xs ys

-- what has holders is live
pub live-held : (pool : List (Option Holding)) (place : ℕ) → 0 < holders_of pool place → IsLive pool place
live-held pool place h = live (held_at pool place) h
  where
    live : (o : Option Holding) → 0 < holders_in o → IsSome o
    live None none = absurd (omega (arith, none))
    live (Some page) some = refl

-- one page of a row that is given back
pub record Giving (initial : List (Option Holding)) (all : List ℕ) (pool : List (Option Holding)) (left : List ℕ) : Type 0 where
  pub held : AreHeld pool
  pub len : length pool ≡ length initial
  pub holders : (place : ℕ) → holders_of pool place + times_in all place ≡ holders_of initial place + times_in left place
  pub enough : (place : ℕ) → times_in left place ≤ holders_of pool place
  pub bytes : LeavesBytes initial pool

-- the bytes that were read of a live page
pub read-bytes : (pool : List (Option Holding)) (at : ℕ) (got : List ℕ) → IsLive pool at → IfSome (held_at pool at) (λ page. got ≡ page.bytes) → page_bytes pool at ≡ got
read-bytes pool at got live read = of_read (held_at pool at) live read
  where
    of_read : (o : Option Holding) → IsSome o → IfSome o (λ page. got ≡ page.bytes) → bytes_in o ≡ got
    of_read None none read = let f : false ≡ true = none in cc
    of_read (Some page) some read = sym read

-- a page that is shared has the bytes that were compared
pub shared-bytes : (pool new : List (Option Holding)) (at result : ℕ) (got bytes : List ℕ) → new ≡ pool_shared pool at → result ≡ at → IsLive pool at
    → IfSome (held_at pool at) (λ page. got ≡ page.bytes) → bytes_eq got bytes ≡ true → IsLive new result × (page_bytes new result ≡ bytes)
shared-bytes pool new at result got bytes shared same live read equal =
    let kept = shared-kept pool at live at live in
    let e : page_bytes pool at ≡ bytes = read-bytes pool at got live read ∙ (bytes_eq-Decides got bytes).0 equal in
    rw (shared, same) (kept.0, kept.1 ∙ e)

-- a place is in a list where it stands there at least once
any-more : (b any : Bool) (n : ℕ) → any ≡ nat_lt 0 n → b || any ≡ nat_lt 0 (cond b 1 0 + n)
any-more true any n is = sym (lt-ltb 0 (1 + n) (omega arith))
any-more false any n is = is ∙ ap (nat_lt 0) (sym (zero-add n))

pub any-times : (places : List ℕ) (place : ℕ) → list_any (eqb place) places ≡ nat_lt 0 (times_in places place)
any-times [] place = refl
any-times (x ∷ places) place = rw (sum_by-cons (λ (y : ℕ). cond (eqb place y) 1 0) x places)
    (any-more (eqb place x) (list_any (eqb place) places) (times_in places place) (any-times places place))

-- and a page is live where it has a holder
live-holders : (o : Option Holding) → IfSome o (λ page. 0 < page.holders) → is_some o ≡ nat_lt 0 (holders_in o)
live-holders None held = refl
live-holders (Some page) held = sym (lt-ltb 0 page.holders held)

-- as many places are live as the list has
pub live-places : (pool : List (Option Holding)) (places : List ℕ) → AreHeld pool → ((place : ℕ) → holders_of pool place ≡ times_in places place)
    → live_of pool ≡ count_by (λ place. list_any (eqb place) places) (range_with_len 0 (length pool))
live-places pool places held holders =
    let in_pool : Option Holding → ℕ = λ o. cond (is_some o) 1 0 in
    let in_list : ℕ → ℕ = λ place. cond (list_any (eqb place) places) 1 0 in
    let same : (k : ℕ) → is_some (held_at pool k) ≡ list_any (eqb k) places = λ k.
    live-holders (held_at pool k) (held k) ∙ ap (nat_lt 0) (holders k) ∙ sym (any-times places k) in
    sym (sum-map in_pool pool) ∙ ap sum (fill_by_all in_list (map in_pool pool) (length pool) 0 (length-map pool in_pool)
    (λ k h. get_or-map in_pool pool k None 0 h ∙ ap (λ (b : Bool). cond b 1 0) (same k))) ∙ sum-map in_list (range_with_len 0 (length pool))
