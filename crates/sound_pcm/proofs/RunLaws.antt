-- The samples of a whole run, group by group.
use Rattle.std.proofs.Common.{◌≡◌, ℕ, zero, suc, ◌+◌, ◌-◌, ◌*◌, ◌/◌, ◌%◌, ◌≤◌, ◌<◌, List, map, ap, refl, arith}
use Rattle.std.specs.List.{sum, range_with_len}
use Rattle.std.proofs.lemmas.List.FromFn.{length-map-range_with_len}
use Rattle.std.proofs.lemmas.Nat.{div-add-mod'}
use Rattle.std.proofs.Math.Nat.{mod-lt}
use Rattle.board_base.specs.declared.record.Record.{Record}
use Rattle.sound_pcm.specs.Samples.{weight, samples}
use Rattle.sound_pcm.specs.Mixing.{MixerValue, samples_of}
use Rattle.sound_pcm.specs.WholeRun.{run_samples, MakesRun}
use Rattle.sound_pcm.proofs.GroupLaws.{whole, short}
use Rattle.sound_pcm.proofs.LevelLaws.{map-range-append, map-range-shift}

-- sample k is the sum of the values of the k-th group
groups : (f : ℕ → ℕ) (per q r from : ℕ) → 1 ≤ per → r < per
    → samples per 0 0 (map f (range_with_len from (q * per + r))) ≡ map (λ k. sum (map f (range_with_len (from + k * per) per))) (range_with_len 0 q)
groups f zero q r from some few = absurd (omega arith)
groups f (suc p) zero r from some few = (short (suc p) 0 0 _ (omega (arith, few, length-map-range_with_len f from (0 * suc p + r)))).0
groups f (suc p) (suc q) r from some few =
    let count : suc q * suc p + r ≡ suc p + (q * suc p + r) = omega arith in
    let start : from + 0 * suc p ≡ from = omega arith in
    let split = map-range-append f from (from + suc p) (suc p) (q * suc p + r) refl in
    let first = (whole (suc p) 0 0 (f from) (map f (range_with_len (from + 1) p)) (map f (range_with_len (from + suc p) (q * suc p + r)))
    (omega (arith, length-map-range_with_len f (from + 1) p))).0 in
    let others = groups f (suc p) q r (from + suc p) some few in
    let later = map-range-shift (λ k. sum (map f (range_with_len ((from + suc p) + k * suc p) (suc p)))) (λ k. sum (map f (range_with_len (from + k * suc p) (suc p)))) 0 1 q
    (λ k inside. ap (λ (at : ℕ). sum (map f (range_with_len at (suc p)))) (omega arith)) in
    grind (arith, count, start, split, first, others, later)

pub makes_run : (m : MixerValue) → 1 ≤ m.per → m.sum ≡ 0 → m.count ≡ 0 → (sound1 sound2 : List Record) → (upto : ℕ) → MakesRun m sound1 sound2 upto
unfolding samples_of run_samples
makes_run m some none empty sound1 sound2 upto =
    let n = upto - m.clock in
    let made = groups (weight m.sound1 m.sound2 sound1 sound2) m.per (n / m.per) (n % m.per) m.clock some (mod-lt n some) in
    rw (none, empty) (rw (div-add-mod' n m.per) at made)
