-- Groups of clocks: their samples, one after another.
use Rattle.std.proofs.Common.{◌≡◌, ℕ, ◌+◌, ◌-◌, ◌*◌, ◌≤◌, ◌<◌, List, [], ◌∷◌, ◌++◌, length, replicate, ap, ◌∙◌, refl, arith, suc, zero}
use Rattle.std.specs.List.{sum}
use Rattle.std.proofs.lemmas.Bool.Decides.{nat_tests}
use Rattle.std.proofs.lemmas.Grind.{common_steps}
use Rattle.std.proofs.lemmas.List.{length-replicate, replicate-append-replicate}
use Rattle.std.proofs.lemmas.List.Folds.{sum_by-replicate}
use Rattle.std.specs.Int.{w32, to_le_bytes}
use Rattle.sound_pcm.specs.Samples.{samples, group_after, bytes_of}
use Rattle.sound_pcm.proofs.GatherLaws.{bytes-first, bytes-none}

-- further clocks make further samples
pub clocks-append : (per s c : ℕ) (ws vs : List ℕ) → (samples per s c (ws ++ vs) ≡ samples per s c ws ++ samples per (group_after per s c ws).0 (group_after per s c ws).1 vs)
    × (group_after per s c (ws ++ vs) ≡ group_after per (group_after per s c ws).0 (group_after per s c ws).1 vs)
unfolding samples group_after
clocks-append per s c [] vs = (refl, refl)
clocks-append per s c (w ∷ ws) vs =
    let whole = clocks-append per 0 0 ws vs in
    let more = clocks-append per (s + w) (c + 1) ws vs in
    (grind (arith, nat_tests, whole, more), grind (arith, nat_tests, whole, more))

-- clocks that make a group whole
pub whole : (per s c : ℕ) (w : ℕ) (ws rest : List ℕ) → c + (length ws + 1) ≡ per
    → (samples per s c ((w ∷ ws) ++ rest) ≡ (s + sum (w ∷ ws)) ∷ samples per 0 0 rest) × (group_after per s c ((w ∷ ws) ++ rest) ≡ group_after per 0 0 rest)
unfolding samples group_after
whole per s c w [] rest full = (grind (arith, nat_tests, common_steps), grind (arith, nat_tests))
whole per s c w (v ∷ ws) rest full =
    let others = whole per (s + w) (c + 1) v ws rest (omega arith) in
    (grind (arith, nat_tests, common_steps, others), grind (arith, nat_tests, others))

-- clocks that don't
pub short : (per s c : ℕ) (ws : List ℕ) → c + length ws < per → (samples per s c ws ≡ []) × (group_after per s c ws ≡ (s + sum ws, c + length ws))
unfolding samples group_after
short per s c [] few = (refl, grind arith)
short per s c (w ∷ ws) few =
    let others = short per (s + w) (c + 1) ws (omega arith) in
    (grind (arith, nat_tests, others), grind (arith, nat_tests, common_steps, others))

-- clocks of one weight: those that make a group whole, and those that don't
pub steady-whole : (per s c missing left w : ℕ) → c + missing ≡ per → 1 ≤ missing → missing ≤ left
    → (bytes_of (samples per s c (replicate left w)) ≡ to_le_bytes w32 (s + w * missing) ++ bytes_of (samples per 0 0 (replicate (left - missing) w)))
    × (group_after per s c (replicate left w) ≡ group_after per 0 0 (replicate (left - missing) w))
steady-whole per s c zero left w full some inside = absurd (omega arith)
steady-whole per s c (suc n) left w full some inside =
    let split = replicate-append-replicate (suc n) (left - suc n) w in
    let others = whole per s c w (replicate n w) (replicate (left - suc n) w) (omega (arith, length-replicate n w)) in
    (grind (arith, split, sum_by-replicate (λ x. x) (suc n) w, others, bytes-first), grind (arith, split, others))

pub steady-short : (per s c left w : ℕ) → c + left < per
    → (bytes_of (samples per s c (replicate left w)) ≡ []) × (group_after per s c (replicate left w) ≡ (s + w * left, c + left))
steady-short per s c left w few =
    let others = short per s c (replicate left w) (omega (arith, length-replicate left w)) in
    (ap bytes_of others.0 ∙ bytes-none, grind (arith, sum_by-replicate (λ x. x) left w, others, length-replicate left w))
