-- The greatest sample of a run.
use Rattle.std.proofs.Common.{ℕ, ◌*◌, ◌/◌, ◌≤◌, ◌<◌, List, get_or, map, suc, arith}
use Rattle.std.specs.Prelude.{All}
use Rattle.std.specs.List.{sum, range_with_len}
use Rattle.std.proofs.lemmas.List.Elements.{All-map, All-weaker}
use Rattle.std.proofs.lemmas.List.FromFn.{length-map-range_with_len}
use Rattle.std.proofs.lemmas.List.Sums.{sum_by-le}
use Rattle.cpu_core.specs.Ranges.{IsByte}
use Rattle.tape_ports.specs.declared.entry.TapeEntry.{TapeEntry}
use Rattle.lockstep_board.specs.Lockstep.{Board}
use Rattle.lockstep_board.specs.Ranges.{AreLevels, IsBoardInRange}
use Rattle.lockstep_board.specs.Run.{boundary_steps, stepped}
use Rattle.lockstep_board.proofs.BoardRange.{stepped-in_range}
use Rattle.sound_pcm.specs.declared.mixer.TheConstants.{MAX_PER}
use Rattle.run_samples.specs.BoardSamples.{AreSmallSamples, board_sample, board_samples, weight_of}

-- four levels weigh 60 at most, and a board 120
levels-light : (now : List ℕ) → AreLevels now → sum now ≤ 60
levels-light now is =
    let low = All-weaker (λ level. level < 16) (λ level. level ≤ 15) (λ level below. omega (arith, below)) now is.levels in
    let most = sum_by-le (λ x. x) 15 now low in
    omega (arith, most, is.last)

board-light : (b : Board) → IsBoardInRange b → weight_of b ≤ 120
board-light b is =
    omega (arith, levels-light b.peripherals.sound1.last is.peripherals.sound1.levels, levels-light b.peripherals.sound2.last is.peripherals.sound2.levels)

-- a group's sample
sample-small : (entries : List TapeEntry) (b : Board) (per k : ℕ) → All (λ entry. IsByte entry.value) entries → IsBoardInRange b → per ≤ MAX_PER
    → board_sample entries per b k ≤ 120 * 65535
sample-small entries b per k bytes is few =
    let clocks = range_with_len (k * per) per in
    let weight = λ (i : ℕ). weight_of (stepped entries (suc i) b) in
    let low : All (λ w. w ≤ 120) (map weight clocks) =
    All-map (λ w. w ≤ 120) weight clocks (λ i d inside. board-light (stepped entries (suc (get_or clocks i d)) b) (stepped-in_range entries (suc (get_or clocks i d)) b bytes is)) in
    omega (arith, sum_by-le (λ x. x) 120 (map weight clocks) low, length-map-range_with_len weight (k * per) per, few)

pub run_samples_fit : (entries : List TapeEntry) (limit per : ℕ) (b : Board) → All (λ entry. IsByte entry.value) entries → IsBoardInRange b → per ≤ MAX_PER
    → AreSmallSamples (board_samples entries limit per b)
unfolding board_samples
run_samples_fit entries limit per b bytes is few =
    let groups = range_with_len 0 (boundary_steps entries limit b / per) in
    All-map (λ sample. sample ≤ 120 * 65535) (board_sample entries per b) groups (λ k d inside. sample-small entries b per (get_or groups k d) bytes is few)
