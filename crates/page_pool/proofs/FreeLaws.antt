-- The free places of a pool, as pages are taken and given back.
use Rattle.std.proofs.Common.{◌≡◌, ℕ, ◌+◌, ◌<◌, List, [], ◌∷◌, ◌++◌, Option, None, IsSome, is_some, cond, length, replicate, get_or, slice_set, zero, suc, arith}
use Rattle.std.proofs.lemmas.Grind.{common_steps}
use Rattle.std.proofs.lemmas.List.{get_or-replicate}
use Rattle.std.proofs.lemmas.List.Folds.{sum_by-replicate}
use Rattle.std.proofs.lemmas.List.Sums.{sum_by-set}
use Rattle.page_pool.specs.Pool.{Holding, held_at, IsLive, live_of}
use Rattle.page_pool.specs.Slots.{IsFree}

-- whether something lies there, as a number
abbrev one_if_live : Option Holding → ℕ
one_if_live o = cond (is_some o) 1 0

-- a live place is one of the pool's
pub live-within : (pool : List (Option Holding)) (place : ℕ) → IsLive pool place → place < length pool
live-within [] place live = cc
live-within (o ∷ pool) zero live = omega arith
live-within (o ∷ pool) (suc place) live = let e = live-within pool place live in omega (arith, e)

-- one place is written
written-live : (pool : List (Option Holding)) (place : ℕ) (o : Option Holding) → place < length pool
    → live_of (slice_set pool place o) + one_if_live (held_at pool place) ≡ live_of pool + one_if_live o
written-live pool place o h = sum_by-set one_if_live pool place o None h

-- the last free place is taken
pub free-taken : (rest : List ℕ) (place : ℕ) (pool : List (Option Holding)) (page : Option Holding) → IsFree (rest ++ place ∷ []) pool
    → IsSome page → IsFree rest (slice_set pool place page)
free-taken rest place pool page free some =
    let within : place < length pool = grind (arith, common_steps, free.within (length rest) 0) in
    let none : held_at pool place ≡ None = grind (arith, common_steps, free.empty (length rest) 0) in
    record {
      within = λ k d h. grind (arith, common_steps, free.within k d);
      empty = λ k d h. grind (arith, common_steps, free.empty k d, free.apart k (length rest) d);
      apart = λ i j d h k. grind (arith, common_steps, free.apart i j d h);
      rest = grind (arith, common_steps, free.rest, written-live pool place page within);
    }

-- a live place stays live
pub free-kept : (free : List ℕ) (place : ℕ) (pool : List (Option Holding)) (page : Option Holding) → IsFree free pool
    → IsLive pool place → IsSome page → IsFree free (slice_set pool place page)
free-kept free place pool page is live some = record {
  within = λ k d h. grind (arith, common_steps, is.within k d);
  empty = λ k d h. grind (arith, common_steps, is.empty k d);
  apart = is.apart;
  rest = grind (arith, common_steps, is.rest, written-live pool place page (live-within pool place live));
}

-- a live place is free again
pub free-given : (free : List ℕ) (place : ℕ) (pool : List (Option Holding)) (page : Option Holding) → IsFree free pool
    → IsLive pool place → page ≡ None → IsFree (free ++ place ∷ []) (slice_set pool place page)
free-given free place pool page is live none = record {
  within = λ k d h. grind (arith, common_steps, live-within, is.within k d);
  empty = λ k d h. grind (arith, common_steps, live-within, is.empty k d);
  apart = λ i j d h k. grind (arith, common_steps, is.apart i j d h, is.empty i d);
  rest = grind (arith, common_steps, is.rest, written-live pool place page (live-within pool place live));
}

-- all places are free
pub free-all : (free : List ℕ) (pool : List (Option Holding)) → pool ≡ replicate (length free) None
    → ((k d : ℕ) → k < length free → get_or free k d ≡ k) → IsFree free pool
free-all free pool are each = rw are record {
  within = λ k d h. grind (arith, common_steps, each k d);
  empty = λ k d h. grind (arith, common_steps, each k d, get_or-replicate);
  apart = λ i j d h k. grind (arith, common_steps, each i d, each j d);
  rest = grind (arith, common_steps, sum_by-replicate one_if_live (length free) None);
}

-- where a place is live, not all are free
pub free-fewer : (free : List ℕ) (place : ℕ) (pool : List (Option Holding)) → IsFree free pool → IsLive pool place → length free < length pool
free-fewer free place pool is live = grind (arith, common_steps, is.rest, written-live pool place None (live-within pool place live))
