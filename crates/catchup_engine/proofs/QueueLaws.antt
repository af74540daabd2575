-- The least of the two deadlines of the bus.
use Rattle.std.proofs.Common.{◌≡◌, ◌≤◌, ◌⊎◌, inl, inr, ℕ, zero, suc, min, List, replicate, slice_get, Option, Some, None, refl, subst, arith}
use Rattle.event_queue.specs.Least.{IsLeast, IsLeastOf}
use Rattle.catchup_engine.specs.Events.{deadlines_of, next_event_of}

none-held : (n name at : ℕ) → slice_get (replicate n None) name ≡ Some (Some at) → ⊥
none-held zero name at held = absurd (cc)
none-held (suc n) zero at held = absurd (cc)
none-held (suc n) (suc name) at held = none-held n name at held

-- of two deadlines one is found
one-held : (wrap entry name at : ℕ) → slice_get (deadlines_of wrap (Some entry)) name ≡ Some (Some at) → (at ≡ wrap) ⊎ (at ≡ entry)
one-held wrap entry zero at held = inl (cc)
one-held wrap entry (suc zero) at held = inr (cc)
one-held wrap entry (suc (suc name)) at held = absurd (none-held 14 name at held)

only-held : (wrap name at : ℕ) → slice_get (deadlines_of wrap None) name ≡ Some (Some at) → at ≡ wrap
only-held wrap zero at held = cc
only-held wrap (suc name) at held = absurd (none-held 15 name at held)

least-of_two : (wrap entry at : ℕ) → at ≤ wrap → at ≤ entry → (at ≡ wrap) ⊎ (at ≡ entry) → at ≡ min wrap entry
least-of_two wrap entry at low below (inl is) = omega arith
least-of_two wrap entry at low below (inr is) = omega arith

sooner-is : (wrap : ℕ) (entry : Option ℕ) (name at : ℕ) → IsLeast (deadlines_of wrap entry) name at → at ≡ next_event_of wrap entry
unfolding next_event_of
sooner-is wrap None name at least = only-held wrap name at least.held
sooner-is wrap (Some e) name at least =
    least-of_two wrap e at (least.least 0 wrap refl) (least.least 1 e refl) (one-held wrap e name at least.held)

-- what is found is the sooner of them
pub sooner-found : (wrap : ℕ) (entry : Option ℕ) (times : List (Option ℕ)) (name at : ℕ) → times ≡ deadlines_of wrap entry
    → IsLeastOf times (Some (name, at)) → at ≡ next_event_of wrap entry
sooner-found wrap entry times name at is least = sooner-is wrap entry name at (subst (λ (ts : List (Option ℕ)). IsLeast ts name at) is least)

-- and one of them is found
pub sooner-none : (wrap : ℕ) (entry : Option ℕ) (times : List (Option ℕ)) → times ≡ deadlines_of wrap entry → IsLeastOf times None → ⊥
sooner-none wrap entry times is none = by_entry entry (subst (λ (ts : List (Option ℕ)). IsLeastOf ts None) is none)
  where
    by_entry : (entry : Option ℕ) → IsLeastOf (deadlines_of wrap entry) None → ⊥
    by_entry None none = none 0 wrap refl
    by_entry (Some e) none = none 0 wrap refl
