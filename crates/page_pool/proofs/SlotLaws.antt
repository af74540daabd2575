-- What lies at the places of a pool, by its slots.
use Rattle.std.proofs.Common.{◌≡◌, ℕ, ◌+◌, ◌-◌, ◌<◌, ◌≤◌, List, Option, Some, None, IsSome, option_map, option_and_then, refl, sym}
use Rattle.std.proofs.Common.{◌∙◌, ap, subst, length, map, get_or, slice_set, replicate, [], ◌∷◌, ◌++◌, zero, suc, arith, length-set}
use Rattle.std.proofs.lemmas.Bool.Decides.{nat_tests}
use Rattle.std.proofs.lemmas.Grind.{common_steps}
use Rattle.std.proofs.lemmas.List.{map-set, get_or-map, length-map, length-replicate}
use Rattle.page_pool.proofs.FreeLaws.{live-within, free-all, free-taken, free-kept, free-given, free-fewer}
use Rattle.page_pool.specs.declared.pool.Slot.{Slot}
use Rattle.page_pool.specs.Pool.{Holding, IsLive, pool_shared, pool_given}
use Rattle.page_pool.specs.Slots.{held_in}

-- a slot with holders holds something, and one without nothing
pub held-some : (slot : Slot) → 0 < slot.holders → IsSome (held_in slot)
held-some slot some = grind (arith, nat_tests)

pub held-none : (slot : Slot) → slot.holders ≡ 0 → held_in slot ≡ None
held-none slot none = grind (arith, nat_tests)

-- a live slot has holders
pub live-holders : (slots : List Slot) (place : ℕ) (slot : Slot) → slot ≡ get_or slots place slot → IsLive (map held_in slots) place → 0 < slot.holders
live-holders slots place slot is live = grind (arith, nat_tests, common_steps, live-within, get_or-map)

-- one holder more in a slot
pub slot-shared : (slots : List Slot) (place : ℕ) (slot : Slot) → slot ≡ get_or slots place slot → IsLive (map held_in slots) place
    → map held_in (slice_set slots place (record { holders = slot.holders + 1; bytes = slot.bytes })) ≡ pool_shared (map held_in slots) place
slot-shared slots place slot is live = grind (arith, nat_tests, common_steps, live-within, map-set, get_or-map)

-- one holder less in a slot
pub slot-given : (slots : List Slot) (place : ℕ) (slot : Slot) → slot ≡ get_or slots place slot → IsLive (map held_in slots) place
    → map held_in (slice_set slots place (record { holders = slot.holders - 1; bytes = slot.bytes })) ≡ pool_given (map held_in slots) place
slot-given slots place slot is live = grind (arith, nat_tests, common_steps, live-within, map-set, get_or-map)

-- slots without holders
slots-empty : (n : ℕ) (bytes : List ℕ) → map held_in (replicate n (record { holders = 0; bytes = bytes })) ≡ replicate n None
slots-empty zero bytes = refl
slots-empty (suc n) bytes = ap (λ (pool : List (Option Holding)). None ∷ pool) (slots-empty n bytes)

pub new-slots : (slots : List Slot) (n : ℕ) (bytes : List ℕ) → slots ≡ replicate n (record { holders = 0; bytes = bytes })
    → map held_in slots ≡ replicate n None
new-slots slots n bytes are = ap (map held_in) are ∙ slots-empty n bytes

-- what the calls of a pool need, for `new`, `take`, `share` and `give`
pub ruleset new = (new-slots, free-all, length-map, length-replicate)

pub ruleset taken = (free-taken, held-some, map-set, length-map, length-set)

pub ruleset shared = (free-kept, held-some, slot-shared, live-holders, map-set, length-map, length-set)

pub ruleset given = (free-kept, free-given, free-fewer, held-some, held-none, slot-given, live-holders, map-set, length-map, length-set)
