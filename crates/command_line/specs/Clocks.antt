-- What holds of the numbers of a command. This project's own choice.
use Rattle.std.specs.Prelude.{ℕ, ◌≤◌, List, length, All, AllPairs}
use Rattle.std.specs.Option.{IfSome}
use Rattle.board_base.specs.declared.board.TheConstants.{CLOCK_LIMIT}
use Rattle.command_line.specs.CommandValue.{CommandValue, asm_of, debug_of, frames_of, pcm_of, profile_of, run_of, seek_of, show_of, soak_of}
use Rattle.command_line.specs.declared.number.TheConstants.{CUTS}
use Rattle.command_line.specs.SettingsValue.{SettingsValue}

-- the clock to end at and each cut are within the limit of the clocks, and no cut is before an
-- earlier one
pub record AreClocks (said : SettingsValue) : Type 0 where
  pub until : IfSome said.until (λ clock. clock ≤ CLOCK_LIMIT)
  pub cuts : All (λ clock. clock ≤ CLOCK_LIMIT) said.cuts
  pub rising : AllPairs (λ earlier later. earlier ≤ later) said.cuts

-- the clocks of a list: one at least, not too many, and each within the limit of the clocks
pub record AreListed (clocks : List ℕ) : Type 0 where
  pub some : 1 ≤ length clocks
  pub few : length clocks ≤ CUTS
  pub within : All (λ clock. clock ≤ CLOCK_LIMIT) clocks

-- the numbers of a command are clocks; those that a seek lists are by its type
abbrev pub HasClocks : CommandValue → Type 0
HasClocks (run_of run) = AreClocks run.settings
HasClocks (asm_of words) = Unit {0}
HasClocks (debug_of words) = AreClocks words.run.settings
HasClocks (show_of state) = Unit {0}
HasClocks (soak_of seed) = Unit {0}
HasClocks (pcm_of words) = AreClocks words.run.settings
HasClocks (frames_of run) = AreClocks run.settings
HasClocks (seek_of words) = AreClocks words.run.settings
HasClocks (profile_of run) = AreClocks run.settings
