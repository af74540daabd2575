-- A command as a value.
use Rattle.command_line.specs.declared.command.Command.{Command}
use Rattle.command_line.specs.declared.command.Command.TheVariants.{Run, Asm, Debug, Show, Soak, Pcm, Frames, Seek, Profile}
use Rattle.command_line.specs.CommandValue.{CommandValue, asm_of, debug_of, frames_of, pcm_of, profile_of, run_of, seek_of, show_of, soak_of}

-- the words that a command holds
abbrev pub command_value : Command → CommandValue
command_value (Run words) = run_of words
command_value (Asm words) = asm_of words
command_value (Debug words) = debug_of words
command_value (Show state) = show_of state.now
command_value (Soak seed) = soak_of seed
command_value (Pcm words) = pcm_of words
command_value (Frames words) = frames_of words
command_value (Seek words) = seek_of words
command_value (Profile words) = profile_of words
