-- The bytes that report a run otherwise than by its log.
use Rattle.std.specs.Prelude.{ℕ, ◌≤◌, List, map, min}
use Rattle.command_line.specs.declared.number.TheConstants.{PER_LIMIT}
use Rattle.tape_ports.specs.declared.entry.TapeEntry.{TapeEntry}
use Rattle.lockstep_board.specs.Lockstep.{Board}
use Rattle.board_debug.specs.BoardsText.{boards_text}
use Rattle.run_samples.specs.BoardSamples.{sampled_bytes}
use Rattle.run_trace.specs.BoardFrames.{framed_text}
use Rattle.run_trace.specs.BoardProfile.{profiled_text}
use Rattle.gravitar_commands.specs.declared.reporting.RunReport.{RunReport}
use Rattle.gravitar_commands.specs.declared.reporting.RunReport.TheVariants.{Samples, Frames, Profile}

-- a sample has 1 to 65,535 clocks
abbrev pub CanReport : RunReport → Type 0
CanReport (Samples per) = (1 ≤ per) × (per ≤ PER_LIMIT)
CanReport Frames = Unit {0}
CanReport Profile = Unit {0}

-- what is reported of a run from a board to a limit
abbrev pub report_text : RunReport → List TapeEntry → ℕ → Board → List ℕ
report_text (Samples per) entries limit b = sampled_bytes entries limit per b
report_text Frames entries limit b = framed_text entries limit b
report_text Profile entries limit b = profiled_text entries limit b

-- the boards at some clocks of a run, each lowered to the limit
abbrev pub sought_text : List ℕ → List TapeEntry → ℕ → Board → List ℕ
sought_text clocks entries limit b = boards_text entries (map (min limit) clocks) b
