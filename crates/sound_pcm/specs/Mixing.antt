-- A mixer, as contracts see it.
use Rattle.std.specs.Prelude.{ℕ, ◌+◌, ◌-◌, ◌≤◌, ◌<◌, List, [], ◌∷◌, All, replicate, sum}
use Rattle.board_base.specs.declared.part.Part.{Part}
use Rattle.board_base.specs.declared.part.Part.TheVariants.{Pokey1, Pokey2}
use Rattle.board_base.specs.declared.record.Record.{Record}
use Rattle.board_base.specs.declared.record.Record.TheVariants.{Levels}
use Rattle.sound_pcm.specs.declared.mixer.TheConstants.{MAX_LEVEL}
use Rattle.sound_pcm.specs.Samples.{levels_of, levels_after, weights, samples, group_after}

-- the clocks done, the clocks of a group, the four levels of each POKEY, and the sum and the number
-- of clocks of the group under way
pub record MixerValue : Type 0 where
  pub clock : ℕ
  pub per : ℕ
  pub sound1 : List ℕ
  pub sound2 : List ℕ
  pub sum : ℕ
  pub count : ℕ

-- each level is at most 15
abbrev pub AreLevels : List ℕ → Type 0
AreLevels levels = All (λ level. level ≤ MAX_LEVEL) levels

-- a record of levels holds levels
abbrev pub HoldsLevels : Record → Type 0
HoldsLevels (Levels clock l1 l2 l3 l4) = (l1 ≤ MAX_LEVEL) × (l2 ≤ MAX_LEVEL) × (l3 ≤ MAX_LEVEL) × (l4 ≤ MAX_LEVEL)
HoldsLevels _ = Unit {0}

-- the records of levels came from one clock to another, which isn't in it any more, in the order of
-- their clocks; any other record is passed over
abbrev pub LevelsBetween : ℕ → List Record → ℕ → Type 0
LevelsBetween from [] to = Unit {0}
LevelsBetween from (Levels clock l1 l2 l3 l4 ∷ others) to = (from ≤ clock) × (clock < to) × LevelsBetween clock others to
LevelsBetween from (_ ∷ others) to = LevelsBetween from others to

-- the samples that a mixer makes of the records of both POKEYs up to a clock
unfoldable pub samples_of : MixerValue → List Record → List Record → ℕ → List ℕ
samples_of m sound1 sound2 upto =
    samples m.per m.sum m.count (weights m.sound1 m.sound2 sound1 sound2 m.clock (upto - m.clock))

-- the mixer after them
unfoldable pub mixed : MixerValue → List Record → List Record → ℕ → MixerValue
mixed m sound1 sound2 upto =
    let group = group_after m.per m.sum m.count (weights m.sound1 m.sound2 sound1 sound2 m.clock (upto - m.clock)) in
    record {
      clock = upto;
      per = m.per;
      sound1 = levels_after m.sound1 sound1;
      sound2 = levels_after m.sound2 sound2;
      sum = group.0;
      count = group.1;
    }

-- the mixer at a clock, where the levels stayed
abbrev pub held : MixerValue → ℕ → MixerValue
held m upto =
    let group = group_after m.per m.sum m.count (replicate (upto - m.clock) (sum m.sound1 + sum m.sound2)) in
    record m { clock = upto; sum = group.0; count = group.1 }

-- the mixer after a record of a POKEY
abbrev pub changed : MixerValue → Part → Record → MixerValue
changed m Pokey1 made = record m { sound1 = levels_of m.sound1 made }
changed m Pokey2 made = record m { sound2 = levels_of m.sound2 made }
changed m _ made = m
