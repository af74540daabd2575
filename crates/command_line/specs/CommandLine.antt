-- How the words of a command line are read. This project's own choice.
use Rattle.std.specs.Prelude.{ℕ, not, List, [], ◌∷◌, drop, length, take_while, Option, None, option_and_then, option_map}
use Rattle.command_line.specs.declared.verb.Verb.{Verb}
use Rattle.command_line.specs.declared.verb.Verb.TheVariants.{Run, Asm, Debug, Show, Soak, Pcm, Frames, Seek, Profile}
use Rattle.command_line.specs.CommandValue.{CommandValue, RunValue, asm_of, debug_of, frames_of, pcm_of, profile_of, run_of, seek_of, show_of, soak_of}
use Rattle.command_line.specs.Numbers.{clocks_of, number_of, per_of}
use Rattle.command_line.specs.Settings.{settings_of}
use Rattle.command_line.specs.SettingsValue.{SettingsValue}
use Rattle.command_line.specs.Words.{is_dashed, name_of, verb_of}

-- the arguments stand before the first word with two dashes in front
abbrev pub arguments_of : List (List ℕ) → List (List ℕ)
arguments_of words = take_while (λ word. not (is_dashed word)) words

-- the words of the options follow them
abbrev pub options_after : List (List ℕ) → List (List ℕ)
options_after words = drop (length (arguments_of words)) words

-- a run of two files, where both words are names
abbrev pub run_words : List ℕ → List ℕ → SettingsValue → Option RunValue
run_words image tape said = option_and_then (λ i. option_map (λ t. record { image = i; tape = t; settings = said }) (name_of tape)) (name_of image)

-- a command with its arguments and what its options say
abbrev pub built : Verb → List (List ℕ) → SettingsValue → Option CommandValue
built Run (image ∷ tape ∷ []) said = option_map run_of (run_words image tape said)
built Asm (processor ∷ generator ∷ image ∷ []) said =
    option_and_then (λ p. option_and_then (λ g. option_map (λ i. asm_of (record { processor = p; generator = g; image = i })) (name_of image)) (name_of generator)) (name_of processor)
built Debug (image ∷ tape ∷ script ∷ []) said =
    option_and_then (λ run. option_map (λ s. debug_of (record { run = run; script = s })) (name_of script)) (run_words image tape said)
built Show (state ∷ []) said = option_map show_of (name_of state)
built Soak (seed ∷ []) said = option_map soak_of (number_of seed)
built Pcm (image ∷ tape ∷ per ∷ []) said =
    option_and_then (λ run. option_map (λ n. pcm_of (record { run = run; per = n })) (per_of per)) (run_words image tape said)
built Frames (image ∷ tape ∷ []) said = option_map frames_of (run_words image tape said)
built Seek (image ∷ tape ∷ clocks ∷ []) said =
    option_and_then (λ run. option_map (λ list. seek_of (record { run = run; clocks = list })) (clocks_of clocks)) (run_words image tape said)
built Profile (image ∷ tape ∷ []) said = option_map profile_of (run_words image tape said)
built _ _ said = None

-- the one command of a list of words, or none
abbrev pub command_of : List (List ℕ) → Option CommandValue
command_of [] = None
command_of (first ∷ words) =
    option_and_then (λ verb. option_and_then (built verb (arguments_of words)) (settings_of verb (options_after words))) (verb_of first)
