-- The samples of a whole run, and what it is to make them in parts.
use Rattle.std.specs.Prelude.{◌≡◌, ℕ, ◌+◌, ◌-◌, ◌*◌, ◌/◌, ◌≤◌, ◌<◌, List, ◌++◌, length, map, sum, All}
use Rattle.std.specs.List.{range_with_len}
use Rattle.board_base.specs.declared.record.Record.{Record}
use Rattle.board_base.specs.Records.{clock_of}
use Rattle.sound_pcm.specs.Samples.{weights}
use Rattle.sound_pcm.specs.declared.mixer.TheConstants.{MAX_LEVEL, MAX_PER}
use Rattle.sound_pcm.specs.Mixing.{MixerValue, AreLevels, HoldsLevels, samples_of, mixed}

-- the samples of the clocks from one to another: sample k is the sum of the weights of `per` clocks
-- from `from + k * per` on, one for each such group that is whole
unfoldable pub run_samples : List ℕ → List ℕ → List Record → List Record → ℕ → ℕ → ℕ → List ℕ
run_samples before1 before2 sound1 sound2 from per upto =
    map (λ k. sum (weights before1 before2 sound1 sound2 (from + k * per) per)) (range_with_len 0 ((upto - from) / per))

-- a mixer that begins a group makes the samples of the run
abbrev pub MakesRun : MixerValue → List Record → List Record → ℕ → Type 0
MakesRun m sound1 sound2 upto =
    samples_of m sound1 sound2 upto ≡ run_samples m.sound1 m.sound2 sound1 sound2 m.clock m.per upto

-- records of the clocks before one; of that clock or later
abbrev pub AreBefore : ℕ → List Record → Type 0
AreBefore at records = All (λ made. clock_of made < at) records

abbrev pub AreFrom : ℕ → List Record → Type 0
AreFrom at records = All (λ made. at ≤ clock_of made) records

-- a clock of the run at which it is cut, with the records of both POKEYs before it and from it on
pub record IsCut (m : MixerValue) (first1 first2 rest1 rest2 : List Record) (at upto : ℕ) : Type 0 where
  pub from : m.clock ≤ at
  pub to : at ≤ upto
  pub before1 : AreBefore at first1
  pub before2 : AreBefore at first2
  pub after1 : AreFrom at rest1
  pub after2 : AreFrom at rest2

-- to take a first part and then the rest is to take the whole: the samples are those of the parts,
-- and so is the mixer
pub record IsTakenInParts (m : MixerValue) (first1 first2 rest1 rest2 : List Record) (at upto : ℕ) : Type 0 where
  pub made : samples_of m (first1 ++ rest1) (first2 ++ rest2) upto
      ≡ samples_of m first1 first2 at ++ samples_of (mixed m first1 first2 at) rest1 rest2 upto
  pub state : mixed m (first1 ++ rest1) (first2 ++ rest2) upto ≡ mixed (mixed m first1 first2 at) rest1 rest2 upto

-- four levels, each at most 15
pub record AreFourLevels (levels : List ℕ) : Type 0 where
  pub count : length levels ≡ 4
  pub each : AreLevels levels

-- a mixer whose levels, and those of the records that it takes, are at most 15
pub record HasLevels (m : MixerValue) (sound1 sound2 : List Record) : Type 0 where
  pub longest : m.per ≤ MAX_PER
  pub unfinished : m.count < m.per
  pub sum : m.sum ≤ 8 * MAX_LEVEL * m.count
  pub first1 : AreFourLevels m.sound1
  pub first2 : AreFourLevels m.sound2
  pub levels1 : All HoldsLevels sound1
  pub levels2 : All HoldsLevels sound2

-- each sample that it makes is at most the sum of eight such levels over the longest group
abbrev pub MakesSmallSamples : MixerValue → List Record → List Record → ℕ → Type 0
MakesSmallSamples m sound1 sound2 upto = All (λ sample. sample ≤ 120 * 65535) (samples_of m sound1 sound2 upto)
