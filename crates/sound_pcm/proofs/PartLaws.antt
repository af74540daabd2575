-- To take a first part of a run and then the rest is to take the whole.
use Rattle.std.proofs.Common.{◌≡◌, ℕ, ◌+◌, ◌-◌, ◌≤◌, ◌<◌, List, ◌++◌, ap, ◌∙◌, refl, arith}
use Rattle.board_base.specs.declared.record.Record.{Record}
use Rattle.sound_pcm.specs.Samples.{levels_after, levels_at, weight, weights, samples, group_after}
use Rattle.sound_pcm.specs.Mixing.{MixerValue, samples_of, mixed}
use Rattle.sound_pcm.specs.WholeRun.{AreBefore, AreFrom, IsCut, IsTakenInParts}
use Rattle.sound_pcm.proofs.GroupLaws.{clocks-append}
use Rattle.sound_pcm.proofs.LevelLaws.{at-append, at-all, at-none, after-append, weight-by, map-range-append, map-range-same}

-- a mixer from its parts
abbrev pub mixer : ℕ → ℕ → List ℕ → List ℕ → ℕ × ℕ → MixerValue
mixer clock per a b group = record { clock = clock; per = per; sound1 = a; sound2 = b; sum = group.0; count = group.1 }

-- The records of a POKEY from a clock on are split at another: up to it the levels are those of the
-- first records, and from it on those of the rest after these levels.
pub record Splits (from at : ℕ) (before : List ℕ) (all first : List Record) (after : List ℕ) (rest : List Record) : Type 0 where
  pub sooner : (k : ℕ) → from ≤ k → k < at → levels_at before all k ≡ levels_at before first k
  pub later : (k : ℕ) → at ≤ k → levels_at before all k ≡ levels_at after rest k
  pub levels : levels_after before all ≡ levels_after after rest

-- the samples up to the clock are made, and the next mixer makes the others
pub record IsStep (m : MixerValue) (all1 all2 : List Record) (made : List ℕ) (next : MixerValue) (rest1 rest2 : List Record) (upto : ℕ) : Type 0 where
  pub samples : samples_of m all1 all2 upto ≡ made ++ samples_of next rest1 rest2 upto
  pub state : mixed m all1 all2 upto ≡ mixed next rest1 rest2 upto

pub split_at : (m : MixerValue) (all1 all2 first1 first2 rest1 rest2 : List Record) (after1 after2 ws : List ℕ) (at n upto : ℕ) → m.clock + n ≡ at → at ≤ upto
    → weights m.sound1 m.sound2 first1 first2 m.clock n ≡ ws → Splits m.clock at m.sound1 all1 first1 after1 rest1 → Splits m.clock at m.sound2 all2 first2 after2 rest2
    → IsStep m all1 all2 (samples m.per m.sum m.count ws) (mixer at m.per after1 after2 (group_after m.per m.sum m.count ws)) rest1 rest2 upto
unfolding samples_of mixed
split_at m all1 all2 first1 first2 rest1 rest2 after1 after2 ws at n upto is to are one two =
    let count : upto - m.clock ≡ n + (upto - at) = omega arith in
    let parts = map-range-append (weight m.sound1 m.sound2 all1 all2) m.clock at n (upto - at) is in
    let sooner : weights m.sound1 m.sound2 all1 all2 m.clock n ≡ weights m.sound1 m.sound2 first1 first2 m.clock n =
    map-range-same _ _ m.clock n (λ k low high. weight-by _ _ _ _ _ _ _ _ k (one.sooner k low (omega arith)) (two.sooner k low (omega arith))) in
    let later : weights m.sound1 m.sound2 all1 all2 at (upto - at) ≡ weights after1 after2 rest1 rest2 at (upto - at) =
    map-range-same _ _ at (upto - at) (λ k low high. weight-by _ _ _ _ _ _ _ _ k (one.later k low) (two.later k low)) in
    let all : weights m.sound1 m.sound2 all1 all2 m.clock (upto - m.clock) ≡ ws ++ weights after1 after2 rest1 rest2 at (upto - at) = cc in
    let made = clocks-append m.per m.sum m.count ws (weights after1 after2 rest1 rest2 at (upto - at)) in
    record { samples = rw all made.0; state = rw (all, one.levels, two.levels, made.1) refl }

in-parts : (from at : ℕ) (before : List ℕ) (first rest : List Record) → AreBefore at first → AreFrom at rest
    → Splits from at before (first ++ rest) first (levels_after before first) rest
in-parts from at before first rest sooner later = record {
  sooner = λ k low high. at-append before first rest k ∙ at-none _ rest at k later high;
  later = λ k low. at-append before first rest k ∙ ap (λ (l : List ℕ). levels_at l rest k) (at-all before first at k sooner (omega arith));
  levels = after-append before first rest;
}

pub taken_in_parts : (m : MixerValue) → (first1 first2 rest1 rest2 : List Record) → (at upto : ℕ) → IsCut m first1 first2 rest1 rest2 at upto
    → IsTakenInParts m first1 first2 rest1 rest2 at upto
unfolding samples_of mixed
taken_in_parts m first1 first2 rest1 rest2 at upto cut =
    let step = split_at m (first1 ++ rest1) (first2 ++ rest2) first1 first2 rest1 rest2 (levels_after m.sound1 first1) (levels_after m.sound2 first2) _
    at (at - m.clock) upto (omega (arith, cut.from)) cut.to refl
    (in-parts m.clock at m.sound1 first1 rest1 cut.before1 cut.after1) (in-parts m.clock at m.sound2 first2 rest2 cut.before2 cut.after2) in
    record { made = step.samples; state = step.state }
