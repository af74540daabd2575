-- The profile of a run of the lockstep board. It is this project's own.
use Rattle.std.specs.Prelude.{◌≡◌, ℕ, ◌+◌, ◌-◌, ◌≤◌, List, [], ◌∷◌, ◌++◌, replicate, if◌then◌else◌, zero, suc}
use Rattle.board_base.specs.declared.board.TheConstants.{CLOCK_LIMIT}
use Rattle.tape_ports.specs.declared.entry.TapeEntry.{TapeEntry}
use Rattle.lockstep_board.specs.Breaks.{turn}
use Rattle.lockstep_board.specs.Lockstep.{Board}
use Rattle.lockstep_board.specs.Run.{is_over, to_boundary, IsPlaced}
use Rattle.catchup_engine.specs.Traced.{observed}
use Rattle.cycle_profile.specs.declared.profile.TheConstants.{ADDRESSES}
use Rattle.cycle_profile.specs.Counts.{no_counts}
use Rattle.cycle_profile.specs.Profile.{AddsUp, ProfileValue, after}
use Rattle.cycle_profile.specs.Text.{profile_text}
use Rattle.log_text.specs.LogText.{last_text}

-- the least number of turns after which a run to a boundary is over, looked for among so many
unfoldable pub turns_until : List TapeEntry → ℕ → ℕ → Board → ℕ
turns_until entries limit zero b = 0
turns_until entries limit (suc most) b =
    if is_over limit b then 0 else suc (turns_until entries limit most (turn entries b))

-- a turn takes a clock at least, and what is left of a sequence is one that may begin at the limit
-- or after it
abbrev pub run_turns : List TapeEntry → ℕ → Board → ℕ
run_turns entries limit b = turns_until entries limit ((limit - b.peripherals.clock) + 1) b

-- a profile of nothing, with one routine on its list
abbrev pub no_profile : ℕ → ProfileValue
no_profile pc = record { routines = pc ∷ []; counts = replicate ADDRESSES no_counts; clocks = 0 }

-- the profile of the turns of a run
unfoldable pub run_profile : List TapeEntry → ℕ → Board → ProfileValue
run_profile entries limit b = observed after entries (run_turns entries limit b) (no_profile b.cpu.pc) b

-- its lines, and then the last line of the run
unfoldable pub profiled_text : List TapeEntry → ℕ → Board → List ℕ
profiled_text entries limit b =
    let last = to_boundary entries limit b in
    profile_text (run_profile entries limit b) ++ last_text last.peripherals.clock last.cpu.pc last.cpu.jam

-- The clocks of the profile of a run are the clocks that the run takes.
abbrev pub AllClocksAreCounted : List TapeEntry → ℕ → Board → Type 0
AllClocksAreCounted entries limit b =
    limit ≤ CLOCK_LIMIT → IsPlaced b
    → (run_profile entries limit b).clocks ≡ (to_boundary entries limit b).peripherals.clock - b.peripherals.clock

-- The clocks of all addresses add up to those of the profile.
abbrev pub AddressesAddUp : List TapeEntry → ℕ → Board → Type 0
AddressesAddUp entries limit b = limit ≤ CLOCK_LIMIT → IsPlaced b → AddsUp (run_profile entries limit b)
