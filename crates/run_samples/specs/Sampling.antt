-- A mixer as an observer of a run. This project's own.
use Rattle.std.specs.Prelude.{◌≡◌, ℕ, ◌≤◌, ◌<◌, List, [], ◌∷◌, ◌++◌}
use Rattle.std.proofs.Common.{refl, ap, ◌∙◌, arith}
use Rattle.board_base.specs.declared.board.TheConstants.{CLOCK_END}
use Rattle.board_base.specs.declared.part.Part.{Part}
use Rattle.board_base.specs.declared.part.Part.TheVariants.{Pokey1, Pokey2}
use Rattle.board_base.specs.declared.record.Record.{Record}
use Rattle.board_base.specs.Records.{clock_of, MadeBetween}
use Rattle.board_base.proofs.RecordLaws.{made-within}
use Rattle.std.proofs.lemmas.List.Elements.{All-nil, All-cons}
use Rattle.lockstep_board.specs.Lockstep.{Board}
use Rattle.lockstep_board.specs.Order.{Recorded}
use Rattle.run_windows.specs.RecordObserver.{TakesInParts}
use Rattle.sound_pcm.specs.Mixing.{MixerValue, mixed, samples_of}
use Rattle.sound_pcm.specs.Samples.{bytes_of}
use Rattle.sound_pcm.specs.WholeRun.{AreBefore, IsCut}
use Rattle.sound_pcm.proofs.GatherLaws.{bytes-append}
use Rattle.sound_pcm.proofs.MixLaws.{made-from}
use Rattle.sound_pcm.proofs.PartLaws.{taken_in_parts}
use Rattle.run_samples.specs.BoardSamples.{IsMixerOf}
use Rattle.run_samples.specs.declared.samples.Sampler.{Sampler}

-- the records are those of the clocks from the mixer's own on
pub record CanMix (m : MixerValue) (from : ℕ) (l : Recorded) (upto : ℕ) : Type 0 where
  pub here : m.clock ≡ from
  pub to : upto ≤ CLOCK_END
  pub made1 : MadeBetween Pokey1 from l.levels1 upto
  pub made2 : MadeBetween Pokey2 from l.levels2 upto

-- a sampler that begins a group of `per` clocks where a board stands
abbrev pub IsSamplerOf : Board → ℕ → Sampler → Type 0
IsSamplerOf b per s = IsMixerOf b per s.mixer

-- the samples that the records make, and the mixer after them
abbrev pub samples_in : Sampler → Recorded → ℕ → List ℕ
samples_in s l upto = bytes_of (samples_of s.mixer l.levels1 l.levels2 upto)

abbrev pub sampler_after : Sampler → Recorded → ℕ → Sampler
sampler_after s l upto = record { mixer = mixed s.mixer l.levels1 l.levels2 upto }

pub before-made : (part : Part) (from to : ℕ) (records : List Record) → MadeBetween part from records to → AreBefore to records
before-made part from to [] made = All-nil (λ r. clock_of r < to)
before-made part from to (r ∷ records) made = All-cons (λ r. clock_of r < to) r records made.2 (before-made part (clock_of r) to records made.3)

-- the first of two lists of records, made from a clock on
first-made : (part : Part) (from other at upto : ℕ) (first rest : List Record) → MadeBetween part from (first ++ rest) upto → MadeBetween part other first at
    → from ≤ at → MadeBetween part from first at
first-made part from other at upto [] rest all sooner low = low
first-made part from other at upto (r ∷ first) rest all sooner low =
    (all.0, all.1, sooner.2, first-made part (clock_of r) (clock_of r) at upto first rest all.3 sooner.3 (let h = sooner.2 in omega arith))

pub sampled_in_parts : TakesInParts {W = Sampler} (λ s from l upto. CanMix s.mixer from l upto) samples_in sampler_after
unfolding mixed
sampled_in_parts s from first at rest upto parts may =
    let a = parts.sooner in
    let b = parts.later in
    let low = made-within Pokey1 from at first.levels1 a.levels1 in
    let high = made-within Pokey1 at upto rest.levels1 b.levels1 in
    let here = may.here in
    let most = may.to in
    let cut : IsCut s.mixer first.levels1 first.levels2 rest.levels1 rest.levels2 at upto = record {
      from = omega arith;
      to = high;
      before1 = before-made Pokey1 from at first.levels1 a.levels1;
      before2 = before-made Pokey2 from at first.levels2 a.levels2;
      after1 = made-from Pokey1 at upto rest.levels1 b.levels1;
      after2 = made-from Pokey2 at upto rest.levels2 b.levels2;
    } in
    let taken = taken_in_parts s.mixer first.levels1 first.levels2 rest.levels1 rest.levels2 at upto cut in
    record {
      room_first = record {
        here = here;
        to = omega arith;
        made1 = first-made Pokey1 from from at upto first.levels1 rest.levels1 may.made1 a.levels1 low;
        made2 = first-made Pokey2 from from at upto first.levels2 rest.levels2 may.made2 a.levels2 low;
      };
      room_rest = record {
        here = refl;
        to = most;
        made1 = b.levels1;
        made2 = b.levels2;
      };
      text =
          ap bytes_of taken.made
          ∙ bytes-append (samples_of s.mixer first.levels1 first.levels2 at)
          (samples_of (mixed s.mixer first.levels1 first.levels2 at) rest.levels1 rest.levels2 upto);
      state = ap (λ (m : MixerValue). let t : Sampler = record { mixer = m } in t) taken.state;
    }
