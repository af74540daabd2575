-- How the options of a command are read. This project's own choice.
use Rattle.std.specs.Prelude.{ℕ, true, false, ◌==◌, List, [], ◌∷◌, length, Option, Some, None, option_and_then, option_map, if◌then◌else◌}
use Rattle.command_line.specs.declared.option.Opt.{Opt}
use Rattle.command_line.specs.declared.option.Opt.TheVariants.{State, Earom, Until, Cuts, Save, Cost, Timers}
use Rattle.command_line.specs.declared.verb.Verb.{Verb}
use Rattle.command_line.specs.Numbers.{cuts_of, number_of}
use Rattle.command_line.specs.SettingsValue.{SettingsValue}
use Rattle.command_line.specs.Words.{name_of, option_of, takes_value}

-- no option is given
abbrev pub no_settings : SettingsValue
no_settings = record { state = None; earom = None; until = None; cuts = []; save = None; cost = false; timers = false }

-- a value is taken where there is none yet
abbrev pub first_value : {A B : Type 0} → Option A → Option B → Option B
first_value None value = value
first_value (Some _) value = None

-- the settings with the value of one option more: each is given once, by a word of its kind
abbrev pub with_value : Opt → List ℕ → SettingsValue → Option SettingsValue
with_value State word s = option_map (λ name. record s { state = Some name }) (first_value s.state (name_of word))
with_value Earom word s = option_map (λ name. record s { earom = Some name }) (first_value s.earom (name_of word))
with_value Until word s = option_map (λ number. record s { until = Some number }) (first_value s.until (number_of word))
with_value Cuts word s = option_map (λ cuts. record s { cuts = cuts }) (if length s.cuts == 0 then cuts_of word else None)
with_value Save word s = option_map (λ name. record s { save = Some name }) (first_value s.save (name_of word))
with_value Cost word s = None
with_value Timers word s = None

-- the settings with one more option that has no value
abbrev pub with_flag : Opt → SettingsValue → Option SettingsValue
with_flag State s = None
with_flag Earom s = None
with_flag Until s = None
with_flag Cuts s = None
with_flag Save s = None
with_flag Cost s = if s.cost then None else Some (record s { cost = true })
with_flag Timers s = if s.timers then None else Some (record s { timers = true })

-- what comes of an option that is named: its value is awaited, or it is set at once
abbrev pub after_option : Opt → SettingsValue → Option SettingsValue → (SettingsValue → Option SettingsValue) → Option SettingsValue
after_option option said awaiting set = if takes_value option then awaiting else option_and_then set (with_flag option said)

-- the settings that the words say after those said so far, where an option may await its value
unfoldable pub settings_from : Verb → SettingsValue → Option Opt → List (List ℕ) → Option SettingsValue
settings_from verb said None [] = Some said
settings_from verb said (Some option) [] = None
settings_from verb said None (word ∷ words) =
    option_and_then (λ option. after_option option said (settings_from verb said (Some option) words) (λ more. settings_from verb more None words)) (option_of verb word)
settings_from verb said (Some option) (word ∷ words) =
    option_and_then (λ more. settings_from verb more None words) (with_value option word said)

-- the settings that the words of a command's options say: each option is one that the command
-- takes, and none lacks its value
abbrev pub settings_of : Verb → List (List ℕ) → Option SettingsValue
settings_of verb words = settings_from verb no_settings None words
