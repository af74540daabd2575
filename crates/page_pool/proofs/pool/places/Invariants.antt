use Rattle.std.proofs.Common.{◌≡◌, ◌<◌, length, get_or, ℕ, vec_capacity}
use Rattle.page_pool.proofs.pool.places.Given as goal

-- the places below the next one, with the memory for all
abbrev pub invariant-loop-place : goal.invariant-loop-place
invariant-loop-place l =
    (length l.places.items ≡ l.place) × (vec_capacity l.places ≡ l.fn.count) × ((k d : ℕ) → k < l.place → get_or l.places.items k d ≡ k)
