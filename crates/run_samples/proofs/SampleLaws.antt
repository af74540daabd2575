-- The samples of a mixer over a run are those of the boards of the run.
use Rattle.std.proofs.Common.{◌≡◌, ℕ, ◌+◌, ◌-◌, ◌*◌, ◌/◌, ◌≤◌, ◌<◌, List, [], ◌∷◌, ◌++◌, map, zero, suc, refl, sym, ap, ◌∙◌, arith, slice_index_or}
use Rattle.std.proofs.lemmas.Grind.{elements}
use Rattle.std.proofs.lemmas.List.Elements.{All-append}
use Rattle.std.specs.List.{sum, range_with_len}
use Rattle.std.proofs.Math.Nat.{div-mul-le_self, mul-le-mul_right}
use Rattle.board_base.specs.declared.part.Part.TheVariants.{Pokey1, Pokey2}
use Rattle.board_base.specs.declared.board.TheConstants.{CLOCK_LIMIT}
use Rattle.board_base.specs.declared.record.Record.{Record}
use Rattle.tape_ports.specs.declared.entry.TapeEntry.{TapeEntry}
use Rattle.lockstep_board.specs.Lockstep.{Board}
use Rattle.lockstep_board.specs.Run.{boundary_steps, stepped, to_boundary}
use Rattle.lockstep_board.specs.Order.{HasNoRecords, cleared, AreMadeBetween, behind, records_of}
use Rattle.lockstep_board.proofs.Behind.{behind-cleared, stepped-behind}
use Rattle.lockstep_board.proofs.Clocks.{stepped-clock}
use Rattle.lockstep_board.proofs.Ends.{boundary_steps-few}
use Rattle.lockstep_board.proofs.InOrder.{stepped-made}
use Rattle.lockstep_board.proofs.Runs.{stepped-add}
use Rattle.sound_pcm.specs.declared.mixer.TheConstants.{MAX_LEVEL}
use Rattle.sound_pcm.specs.Mixing.{AreLevels, MixerValue, samples_of}
use Rattle.sound_pcm.specs.Samples.{bytes_of, levels_after, levels_at, weight, weights}
use Rattle.sound_pcm.specs.WholeRun.{AreBefore, AreFrom, run_samples}
use Rattle.sound_pcm.proofs.LevelLaws.{at-all, at-append, at-none, map-range-same, map-range-shift}
use Rattle.sound_pcm.proofs.MixLaws.{made-from}
use Rattle.sound_pcm.proofs.RunLaws.{makes_run}
use Rattle.run_samples.specs.BoardSamples.{IsMixerOf, board_sample, board_samples, sampled_bytes, weight_of}
use Rattle.run_samples.specs.Sampling.{CanMix, before-made}
use Rattle.run_samples.proofs.LastLaws.{last-run}

-- a level of some, or 0
or-low : (levels : List ℕ) → AreLevels levels → (i : ℕ) → slice_index_or levels i 0 ≤ MAX_LEVEL
or-low [] all i = omega arith
or-low (level ∷ levels) all zero = all 0 0 (omega arith)
or-low (level ∷ levels) all (suc i) = or-low levels (λ k d inside. all (suc k) d (omega (arith, inside))) i

-- four levels, and eight
abbrev four : List ℕ → List ℕ
four xs = slice_index_or xs 0 0 ∷ slice_index_or xs 1 0 ∷ slice_index_or xs 2 0 ∷ slice_index_or xs 3 0 ∷ []

four-levels : (xs : List ℕ) → AreLevels xs → AreLevels (four xs)
four-levels xs all = let at = or-low xs all in grind (arith, elements, at 0, at 1, at 2, at 3)

pub eight-levels : (xs ys : List ℕ) → AreLevels xs → AreLevels ys → AreLevels (four xs ++ four ys)
eight-levels xs ys first second = All-append (λ level. level ≤ MAX_LEVEL) (four xs) (four ys) (four-levels xs first) (four-levels ys second)

-- the levels at a clock, where later records follow
at-clock : (before now : List ℕ) (first rest : List Record) (clock : ℕ) → AreBefore (clock + 1) first → AreFrom (clock + 1) rest
    → levels_after before first ≡ now → levels_at before (first ++ rest) clock ≡ now
at-clock before now first rest clock sooner later is =
    at-append before first rest clock ∙ at-none (levels_at before first clock) rest (clock + 1) clock later (omega arith)
    ∙ at-all before first (clock + 1) clock sooner (omega arith) ∙ is

none-made : (b : Board) → HasNoRecords b → AreMadeBetween b.peripherals.clock (records_of b) b.peripherals.clock
none-made b none =
    rw (none.strokes, none.levels1, none.levels2, none.written) (record { strokes = omega arith; levels1 = omega arith; levels2 = omega arith; written = omega arith })

module _ (entries : List TapeEntry) (b : Board) (none : HasNoRecords b) where
  -- the weight of a clock, by the records of the whole run, is that of the board after it
  weight-at : (n i : ℕ) → i < n
      → weight b.peripherals.sound1.last b.peripherals.sound2.last (stepped entries n b).peripherals.levels1 (stepped entries n b).peripherals.levels2 (b.peripherals.clock + i)
      ≡ weight_of (stepped entries (suc i) b)
  unfolding weight
  weight-at n i inside =
      let there = stepped entries (suc i) b in
      let m = n - suc i in
      let rest = stepped entries m (cleared there) in
      let count : suc i + m ≡ n = omega (arith, inside) in
      let whole : stepped entries n b ≡ behind (records_of there) rest =
      ap (λ k. stepped entries k b) (sym count) ∙ stepped-add entries (suc i) m b ∙ ap (stepped entries m) (sym (behind-cleared there))
      ∙ stepped-behind entries m (records_of there) (cleared there) in
      let same : there.peripherals.clock ≡ (b.peripherals.clock + i) + 1 = omega (arith, stepped-clock entries (suc i) b) in
      let first = stepped-made entries b.peripherals.clock (suc i) b (none-made b none) in
      let later = stepped-made entries there.peripherals.clock m (cleared there)
      (none-made (cleared there) (record { strokes = refl; levels1 = refl; levels2 = refl; written = refl })) in
      let last = last-run entries (suc i) b none in
      let one = at-clock b.peripherals.sound1.last there.peripherals.sound1.last there.peripherals.levels1 rest.peripherals.levels1 (b.peripherals.clock + i)
      (rw (sym same) (before-made Pokey1 b.peripherals.clock there.peripherals.clock there.peripherals.levels1 first.levels1))
      (rw (sym same) (made-from Pokey1 there.peripherals.clock rest.peripherals.clock rest.peripherals.levels1 later.levels1)) last.0 in
      let two = at-clock b.peripherals.sound2.last there.peripherals.sound2.last there.peripherals.levels2 rest.peripherals.levels2 (b.peripherals.clock + i)
      (rw (sym same) (before-made Pokey2 b.peripherals.clock there.peripherals.clock there.peripherals.levels2 first.levels2))
      (rw (sym same) (made-from Pokey2 there.peripherals.clock rest.peripherals.clock rest.peripherals.levels2 later.levels2)) last.1 in
      ap (λ (c : Board). weight b.peripherals.sound1.last b.peripherals.sound2.last c.peripherals.levels1 c.peripherals.levels2 (b.peripherals.clock + i)) whole
      ∙ ap (λ l. sum l + sum (levels_at b.peripherals.sound2.last (there.peripherals.levels2 ++ rest.peripherals.levels2) (b.peripherals.clock + i))) one
      ∙ ap (λ l. sum there.peripherals.sound1.last + sum l) two

  -- and so are the sums of groups
  group-inside : (n per k : ℕ) → k < n / per → k * per + per ≤ n
  group-inside n per k h =
      let least : (k + 1) * per ≤ n / per * per = mul-le-mul_right per (omega (arith, h)) in
      omega (arith, least, div-mul-le_self n per)

  sample-at : (n per k : ℕ) → k * per + per ≤ n
      → sum (weights b.peripherals.sound1.last b.peripherals.sound2.last (stepped entries n b).peripherals.levels1 (stepped entries n b).peripherals.levels2 (b.peripherals.clock + k * per) per)
      ≡ board_sample entries per b k
  sample-at n per k inside =
      ap sum (map-range-shift _ (λ i. weight_of (stepped entries (suc i) b)) (b.peripherals.clock + k * per) (k * per) per
      (λ i h. let e : b.peripherals.clock + k * per + i ≡ b.peripherals.clock + (k * per + i) = omega arith in
      rw e (weight-at n (k * per + i) (omega (arith, h, inside)))))

  pub run-sampled : (limit per : ℕ) (m : MixerValue) → 1 ≤ per → IsMixerOf b per m
      → bytes_of (samples_of m (to_boundary entries limit b).peripherals.levels1 (to_boundary entries limit b).peripherals.levels2 (to_boundary entries limit b).peripherals.clock)
      ≡ sampled_bytes entries limit per b
  unfolding to_boundary board_samples sampled_bytes run_samples
  run-sampled limit per m some is =
      let n = boundary_steps entries limit b in
      let last = stepped entries n b in
      let count : last.peripherals.clock - b.peripherals.clock ≡ n = omega (arith, stepped-clock entries n b) in
      rw is
      (ap bytes_of
      (makes_run (record { clock = b.peripherals.clock; per = per; sound1 = b.peripherals.sound1.last; sound2 = b.peripherals.sound2.last; sum = 0; count = 0 }) some refl refl
      last.peripherals.levels1 last.peripherals.levels2 last.peripherals.clock
      ∙ ap (λ c. map (λ k. sum (weights b.peripherals.sound1.last b.peripherals.sound2.last last.peripherals.levels1 last.peripherals.levels2 (b.peripherals.clock + k * per) per))
      (range_with_len 0 (c / per))) count ∙ map-range-same _ (board_sample entries per b) 0 (n / per)
      (λ k low high. sample-at n per k (group-inside n per k (omega (arith, high))))))

  -- the records of a run may be mixed
  pub run-room : (limit per : ℕ) (m : MixerValue) → limit ≤ CLOCK_LIMIT → b.peripherals.clock ≤ CLOCK_LIMIT + 16 → IsMixerOf b per m
      → CanMix m b.peripherals.clock (records_of (to_boundary entries limit b)) (to_boundary entries limit b).peripherals.clock
  unfolding to_boundary
  run-room limit per m low start is =
      let n = boundary_steps entries limit b in
      let made = stepped-made entries b.peripherals.clock n b (none-made b none) in
      record { here = ap (λ (v : MixerValue). v.clock) is; to = omega (arith, stepped-clock entries n b, boundary_steps-few entries limit b); made1 = made.levels1; made2 = made.levels2 }
