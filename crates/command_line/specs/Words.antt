-- The words of the command line: the commands, their options and names. This project's own choice.
use Rattle.std.specs.Prelude.{ℕ, Bool, true, false, not, ◌&&◌, List, find, length, nat_eq, nat_lt, codes, bytes_eq, Option, Some, None, if◌then◌else◌}
use Rattle.std.specs.List.{starts_with}
use Rattle.command_line.specs.declared.option.Opt.{Opt}
use Rattle.command_line.specs.declared.option.Opt.TheVariants.{State, Earom, Until, Cuts, Save, Cost, Timers}
use Rattle.command_line.specs.declared.option.TheConstants.{ASM_OPTIONS, DEBUG_OPTIONS, LOOK_OPTIONS, RUN_OPTIONS, SHOW_OPTIONS, SOAK_OPTIONS}
use Rattle.command_line.specs.declared.verb.Verb.{Verb}
use Rattle.command_line.specs.declared.verb.Verb.TheVariants.{Run, Asm, Debug, Show, Soak, Pcm, Frames, Seek, Profile}
use Rattle.command_line.specs.declared.verb.TheConstants.{VERBS}

-- the word of a command
abbrev pub verb_word : Verb → List ℕ
verb_word Run = codes "run"
verb_word Asm = codes "asm"
verb_word Debug = codes "debug"
verb_word Show = codes "show"
verb_word Soak = codes "soak"
verb_word Pcm = codes "pcm"
verb_word Frames = codes "frames"
verb_word Seek = codes "seek"
verb_word Profile = codes "profile"

-- the options that a command takes
abbrev pub options_of : Verb → List Opt
options_of Run = RUN_OPTIONS
options_of Asm = ASM_OPTIONS
options_of Debug = DEBUG_OPTIONS
options_of Show = SHOW_OPTIONS
options_of Soak = SOAK_OPTIONS
options_of Pcm = LOOK_OPTIONS
options_of Frames = LOOK_OPTIONS
options_of Seek = LOOK_OPTIONS
options_of Profile = LOOK_OPTIONS

-- the word of an option
abbrev pub option_word : Opt → List ℕ
option_word State = codes "--state"
option_word Earom = codes "--earom"
option_word Until = codes "--until"
option_word Cuts = codes "--cuts"
option_word Save = codes "--save"
option_word Cost = codes "--cost"
option_word Timers = codes "--timers"

-- whether the word after an option is its value
abbrev pub takes_value : Opt → Bool
takes_value State = true
takes_value Earom = true
takes_value Until = true
takes_value Cuts = true
takes_value Save = true
takes_value Cost = false
takes_value Timers = false

-- the command that a word names
abbrev pub verb_of : List ℕ → Option Verb
verb_of word = find (λ verb. bytes_eq (verb_word verb) word) VERBS

-- the option that a word names, of those that a command takes
abbrev pub option_of : Verb → List ℕ → Option Opt
option_of verb word = find (λ option. bytes_eq (option_word option) word) (options_of verb)

-- a word with two dashes in front is never a name
abbrev pub is_dashed : List ℕ → Bool
is_dashed word = starts_with nat_eq word (codes "--")

-- any other word names a file, but the empty one
abbrev pub name_of : List ℕ → Option (List ℕ)
name_of word = if nat_lt 0 (length word) && not (is_dashed word) then Some word else None
