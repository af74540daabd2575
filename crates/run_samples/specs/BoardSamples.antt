-- The samples of a run of the lockstep board. They are this project's own.
use Rattle.std.specs.Prelude.{◌≡◌, ℕ, ◌+◌, ◌*◌, ◌/◌, ◌≤◌, List, All, map, suc}
use Rattle.std.specs.List.{sum, range_with_len}
use Rattle.tape_ports.specs.declared.entry.TapeEntry.{TapeEntry}
use Rattle.lockstep_board.specs.Lockstep.{Board}
use Rattle.lockstep_board.specs.Run.{boundary_steps, stepped}
use Rattle.sound_pcm.specs.Mixing.{MixerValue}
use Rattle.sound_pcm.specs.Samples.{bytes_of}

-- the weight of a board: the sum of the eight levels that its POKEYs put out
abbrev pub weight_of : Board → ℕ
weight_of b = sum b.peripherals.sound1.last + sum b.peripherals.sound2.last

-- sample k is the sum of the weights after each of `per` clocks, from clock k * per of the run on
abbrev pub board_sample : List TapeEntry → ℕ → Board → ℕ → ℕ
board_sample entries per b k = sum (map (λ i. weight_of (stepped entries (suc i) b)) (range_with_len (k * per) per))

-- a sample for each group of clocks that the run to a boundary does whole
unfoldable pub board_samples : List TapeEntry → ℕ → ℕ → Board → List ℕ
board_samples entries limit per b = map (board_sample entries per b) (range_with_len 0 (boundary_steps entries limit b / per))

-- their bytes
unfoldable pub sampled_bytes : List TapeEntry → ℕ → ℕ → Board → List ℕ
sampled_bytes entries limit per b = bytes_of (board_samples entries limit per b)

-- a mixer that begins a group of `per` clocks where a board stands, with the levels that its POKEYs
-- put out
abbrev pub IsMixerOf : Board → ℕ → MixerValue → Type 0
IsMixerOf b per m =
    m ≡ record { clock = b.peripherals.clock; per = per; sound1 = b.peripherals.sound1.last; sound2 = b.peripherals.sound2.last; sum = 0; count = 0 }

-- no sample is above the sum of eight levels of 15 over the longest group
abbrev pub AreSmallSamples : List ℕ → Type 0
AreSmallSamples made = All (λ sample. sample ≤ 120 * 65535) made
