-- The least deadline of the names from some name on.
use Rattle.std.proofs.Common.{◌≡◌, ◌≢◌, ℕ, ◌+◌, ◌≤◌, ◌<◌, List, [], ◌∷◌, Option, Some, None, slice_get, MatchOption, nat_lt, true}
use Rattle.std.proofs.Common.{false, if◌then◌else◌, zero, suc, refl, arith, subst, get_or, drop, length, drop-cons, ◌-◌}
use Rattle.std.proofs.Math.ListN.{drop_of_length-le}
use Rattle.std.proofs.lemmas.Bool.{ltb-true, ltb-false}
use Rattle.event_queue.specs.Least.{IsLeastOf, earlier_of}

-- the least deadline of a list whose first name is this one
pub least_from : ℕ → List (Option ℕ) → Option (ℕ × ℕ)
least_from name [] = None
least_from name (time ∷ times) = earlier_of name time (least_from (suc name) times)

-- a deadline of a list whose first name is this one
record IsLeastFrom (from : ℕ) (times : List (Option ℕ)) (name at : ℕ) : Type 0 where
  place : ℕ
  there : name ≡ from + place
  held : slice_get times place ≡ Some (Some at)
  least : (other later : ℕ) → slice_get times other ≡ Some (Some later) → at ≤ later
  first : (other : ℕ) → slice_get times other ≡ Some (Some at) → place ≤ other

abbrev Empty : List (Option ℕ) → Type 0
Empty times = (name at : ℕ) → slice_get times name ≢ Some (Some at)

abbrev Found : ℕ → List (Option ℕ) → Option (ℕ × ℕ) → Type 0
Found from times found = MatchOption found (Empty times) (λ deadline. IsLeastFrom from times deadline.0 deadline.1)

empty-none : (times : List (Option ℕ)) → Empty times → Empty (None ∷ times)
empty-none times none zero at held = cc
empty-none times none (suc name) at held = none name at held

-- one name more before a list with a deadline that stays the least
least-shift : (from : ℕ) (time : Option ℕ) (times : List (Option ℕ)) (name at : ℕ) → IsLeastFrom (suc from) times name at
    → ((later : ℕ) → time ≡ Some later → at < later) → IsLeastFrom from (time ∷ times) name at
least-shift from time times name at best after = record {
  place = suc best.place;
  there = let e = best.there in omega arith;
  held = best.held;
  least = least_after;
  first = first_after;
}
  where
    least_after : (other later : ℕ) → slice_get (time ∷ times) other ≡ Some (Some later) → at ≤ later
    least_after zero later held = let a : time ≡ Some later = cc in let b = after later a in omega arith
    least_after (suc other) later held = best.least other later held

    first_after : (other : ℕ) → slice_get (time ∷ times) other ≡ Some (Some at) → suc best.place ≤ other
    first_after zero held = let a : time ≡ Some at = cc in let b = after at a in omega arith
    first_after (suc other) held = let a = best.first other held in omega arith

-- one name more before a list, whose deadline comes first
least-here : (from at : ℕ) (times : List (Option ℕ)) → ((other later : ℕ) → slice_get times other ≡ Some (Some later) → at ≤ later)
    → IsLeastFrom from (Some at ∷ times) from at
least-here from at times later_ones = record {
  place = 0;
  there = omega arith;
  held = refl;
  least = least_here;
  first = λ other held. omega arith;
}
  where
    least_here : (other later : ℕ) → slice_get (Some at ∷ times) other ≡ Some (Some later) → at ≤ later
    least_here zero later held = let a : at ≡ later = cc in omega arith
    least_here (suc other) later held = later_ones other later held

found-earlier : (from : ℕ) (time : Option ℕ) (times : List (Option ℕ)) (best : Option (ℕ × ℕ)) → Found (suc from) times best
    → Found from (time ∷ times) (earlier_of from time best)
found-earlier from None times None none = empty-none times none
found-earlier from None times (Some best) least = least-shift from None times best.0 best.1 least (λ later e. cc)
found-earlier from (Some at) times None none = least-here from at times (λ other later held. absurd (none other later held))
found-earlier from (Some at) times (Some best) least =
    elim (nat_lt best.1 at) as (λ b. nat_lt best.1 at ≡ b → Found from (Some at ∷ times) (if b then Some best else Some (from, at))) [
      | true ↦ λ e. least-shift from (Some at) times best.0 best.1 least (λ later f. let a : at ≡ later = cc in let b = ltb-true best.1 at e in omega arith)
      | false ↦ λ e. least-here from at times (λ other later held. let a = least.least other later held in let b = ltb-false best.1 at e in omega arith)
    ] refl

least_from-found : (from : ℕ) (times : List (Option ℕ)) → Found from times (least_from from times)
unfolding least_from
least_from-found from [] = λ name at held. cc
least_from-found from (time ∷ times) = found-earlier from time times (least_from (suc from) times) (least_from-found (suc from) times)

-- from name 0 on it is the least of all
pub least_from-is_least : (times : List (Option ℕ)) → IsLeastOf times (least_from 0 times)
least_from-is_least times = is_least (least_from 0 times) (least_from-found 0 times)
  where
    is_least : (found : Option (ℕ × ℕ)) → Found 0 times found → IsLeastOf times found
    is_least None none = none
    is_least (Some best) least = record {
      held = let e : least.place ≡ best.0 = (let f = least.there in omega arith) in subst (λ k. slice_get times k ≡ Some (Some best.1)) e least.held;
      least = least.least;
      first = λ other held. let e = least.there in let f = least.first other held in omega arith;
    }

-- past the last name there is nothing
pub least_from-end : (n : ℕ) (times : List (Option ℕ)) → length times ≤ n → None ≡ least_from n (drop n times)
unfolding least_from
least_from-end n times h = rw (drop_of_length-le times h) refl

-- one name less
pub least_from-before : (name : ℕ) (times : List (Option ℕ)) (d : Option ℕ) → 0 < name → name ≤ length times
    → least_from (name - 1) (drop (name - 1) times) ≡ earlier_of (name - 1) (get_or times (name - 1) d) (least_from name (drop name times))
unfolding least_from
least_from-before zero times d h within = absurd (omega arith)
least_from-before (suc before) times d h within =
    let e : suc before - 1 ≡ before = omega arith in
    rw (e, drop-cons times before d (omega arith)) refl
