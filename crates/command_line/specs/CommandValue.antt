-- A command with its words. This project's own choice.
use Rattle.std.specs.Prelude.{ℕ, List}
use Rattle.command_line.specs.SettingsValue.{SettingsValue}

-- the names of the files of a run, and what its options say
pub record RunValue : Type 0 where
  pub image : List ℕ
  pub tape : List ℕ
  pub settings : SettingsValue

-- the names of the two sources of an image, and of the image's file
pub record AsmValue : Type 0 where
  pub processor : List ℕ
  pub generator : List ℕ
  pub image : List ℕ

-- the files of a debugger's session are those of a run, and its script
pub record DebugValue : Type 0 where
  pub run : RunValue
  pub script : List ℕ

-- the samples of a run: its files, and the clocks of a sample
pub record PcmValue : Type 0 where
  pub run : RunValue
  pub per : ℕ

-- the clocks to seek in a run, as they are listed
pub record SeekValue : Type 0 where
  pub run : RunValue
  pub clocks : List ℕ

-- a run, two sources to assemble, a debugger's session, the name of the state to show, the number
-- of a workload, a run whose samples are asked for, one whose frames are, one in which clocks are
-- sought, or one whose profile is asked for
pub data CommandValue : Type 0 where
  run_of : RunValue → CommandValue
  asm_of : AsmValue → CommandValue
  debug_of : DebugValue → CommandValue
  show_of : List ℕ → CommandValue
  soak_of : ℕ → CommandValue
  pcm_of : PcmValue → CommandValue
  frames_of : RunValue → CommandValue
  seek_of : SeekValue → CommandValue
  profile_of : RunValue → CommandValue
