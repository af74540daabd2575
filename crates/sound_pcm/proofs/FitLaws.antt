-- The greatest sample.
use Rattle.std.proofs.Common.{ℕ, ◌+◌, ◌-◌, ◌*◌, ◌≤◌, ◌<◌, List, [], ◌∷◌, inl, inr, true, false, nat_le, if◌then◌else◌, refl, arith}
use Rattle.std.specs.Prelude.{All}
use Rattle.std.specs.List.{sum, range_with_len}
use Rattle.std.proofs.lemmas.Bool.Decides.{eqb_tells}
use Rattle.std.proofs.lemmas.Grind.{elements}
use Rattle.std.proofs.lemmas.List.Elements.{All-nil, All-cons, All-head, All-tail, All-map}
use Rattle.std.proofs.lemmas.List.Sums.{sum_by-le}
use Rattle.board_base.specs.declared.record.Record.{Record}
use Rattle.board_base.specs.declared.record.Record.TheVariants.{Levels}
use Rattle.board_base.specs.Records.{clock_of}
use Rattle.sound_pcm.specs.declared.mixer.TheConstants.{MAX_LEVEL}
use Rattle.sound_pcm.specs.Mixing.{MixerValue, HoldsLevels, samples_of}
use Rattle.sound_pcm.specs.Samples.{levels_of, levels_at, weight, samples}
use Rattle.sound_pcm.specs.WholeRun.{AreFourLevels, HasLevels, MakesSmallSamples}

-- four levels, each at most 15, weigh 60 at most
four-sum : (levels : List ℕ) → AreFourLevels levels → sum levels ≤ 60
four-sum levels four =
    omega (arith, sum_by-le (λ x. x) MAX_LEVEL levels four.each)

record-four : (before : List ℕ) (made : Record) → AreFourLevels before → HoldsLevels made → AreFourLevels (levels_of before made)
record-four before (Levels clock a b c d) four (la, lb, lc, ld) = record { count = refl; each = grind (arith, elements) }
record-four before _ four holds = four

at-four : (before : List ℕ) (records : List Record) (clock : ℕ) → AreFourLevels before → All HoldsLevels records → AreFourLevels (levels_at before records clock)
unfolding levels_at
at-four before [] clock four holds = four
at-four before (made ∷ others) clock four holds =
    at-four (if nat_le (clock_of made) clock then levels_of before made else before) others clock
    (elim (nat_le (clock_of made) clock) as (λ b. AreFourLevels (if b then levels_of before made else before)) [
      | true ↦ record-four before made four (All-head HoldsLevels made others holds)
      | false ↦ four
    ]) (All-tail HoldsLevels made others holds)

-- a clock weighs 120 at most
weight-most : (before1 before2 : List ℕ) (sound1 sound2 : List Record) (clock : ℕ) → AreFourLevels before1 → AreFourLevels before2
    → All HoldsLevels sound1 → All HoldsLevels sound2 → weight before1 before2 sound1 sound2 clock ≤ 120
unfolding weight
weight-most before1 before2 sound1 sound2 clock first1 first2 levels1 levels2 =
    omega (arith, four-sum _ (at-four before1 sound1 clock first1 levels1), four-sum _ (at-four before2 sound2 clock first2 levels2))

-- samples of clocks that weigh 120 at most
samples-most : (per s c : ℕ) (ws : List ℕ) → c < per → s ≤ 120 * c → All (λ w. w ≤ 120) ws → All (λ sample. sample ≤ 120 * per) (samples per s c ws)
unfolding samples
samples-most per s c [] few low light = All-nil (λ sample. sample ≤ 120 * per)
samples-most per s c (w ∷ ws) few low light =
    let first = All-head (λ w. w ≤ 120) w ws light in
    let others = All-tail (λ w. w ≤ 120) w ws light in
    elim (eqb_tells (c + 1) per) [
      | inl (full, last) ↦ rw full (All-cons (λ sample. sample ≤ 120 * per) (s + w) _ (omega arith) (samples-most per 0 0 ws (omega arith) (omega arith) others))
      | inr (more, left) ↦ rw more (samples-most per (s + w) (c + 1) ws (omega arith) (omega arith) others)
    ]

pub samples_fit : (m : MixerValue) (sound1 sound2 : List Record) (upto : ℕ) → HasLevels m sound1 sound2 → MakesSmallSamples m sound1 sound2 upto
unfolding samples_of
samples_fit m sound1 sound2 upto is =
    let light = All-map (λ w. w ≤ 120) (weight m.sound1 m.sound2 sound1 sound2) (range_with_len m.clock (upto - m.clock))
    (λ k d inside. weight-most m.sound1 m.sound2 sound1 sound2 _ is.first1 is.first2 is.levels1 is.levels2) in
    λ k d inside. omega (arith, samples-most m.per m.sum m.count _ is.unfinished is.sum light k d inside)
