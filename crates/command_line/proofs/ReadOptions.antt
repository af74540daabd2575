-- The options of a command, read word by word from a list whose elements show as words.
use Rattle.std.proofs.Common.{◌≡◌, ℕ, ◌+◌, ◌<◌, ◌≤◌, true, false, List, [], ◌∷◌, length, get_or, map, drop, Option, Some, None, refl, sym, ap, ◌∙◌, arith}
use Rattle.std.specs.Option.{is_some}
use Rattle.std.proofs.lemmas.List.{at_drop_all, at_drop_more, get_or-map, length-map}
use Rattle.command_line.specs.declared.option.Opt.{Opt}
use Rattle.command_line.specs.declared.verb.Verb.{Verb}
use Rattle.command_line.specs.Settings.{settings_from, with_flag, with_value}
use Rattle.command_line.specs.SettingsValue.{SettingsValue}
use Rattle.command_line.specs.Words.{option_of, takes_value}

-- the list has this word at this place
pub record StandsAt {X : Type 0} (f : X → List ℕ) (words : List X) (k : ℕ) (word : List ℕ) : Type 0 where
  pub item : X
  pub is : item ≡ get_or words k item
  pub shows : word ≡ f item
  pub inside : k < length words

-- a word that an element shows stands at the element's place
pub stands : {X : Type 0} (f : X → List ℕ) {words : List X} {k : ℕ} {word : List ℕ} (item : X)
    → item ≡ get_or words k item → word ≡ f item → k < length words → StandsAt f words k word
stands f item is shows inside = record { item = item; is = is; shows = shows; inside = inside }

-- the words that are left begin with the word at this place
next : {X Y : Type 0} (f : X → List ℕ) (F : List (List ℕ) → Y) (words : List X) (k : ℕ) (word : List ℕ) → StandsAt f words k word
    → F (drop k (map f words)) ≡ F (word ∷ drop (k + 1) (map f words))
next f F words k word at =
    let found : get_or (map f words) k word ≡ word = get_or-map f words k at.item word at.inside ∙ (ap f (sym at.is) ∙ sym at.shows) in
    at_drop_more F (map f words) k word (omega (arith, length-map words f, at.inside)) ∙ ap (λ w. F (w ∷ drop (k + 1) (map f words))) found

no_value : (verb : Verb) (said : SettingsValue) (option : Opt) (word : List ℕ) (words : List (List ℕ))
    → with_value option word said ≡ None → settings_from verb said (Some option) (word ∷ words) ≡ None
unfolding settings_from
no_value verb said option word words is = rw is refl

value : (verb : Verb) (said more : SettingsValue) (option : Opt) (word : List ℕ) (words : List (List ℕ))
    → with_value option word said ≡ Some more → settings_from verb said (Some option) (word ∷ words) ≡ settings_from verb more None words
unfolding settings_from
value verb said more option word words is = rw is refl

no_option : (verb : Verb) (said : SettingsValue) (word : List ℕ) (words : List (List ℕ))
    → option_of verb word ≡ None → settings_from verb said None (word ∷ words) ≡ None
unfolding settings_from
no_option verb said word words is = rw is refl

awaiting : (verb : Verb) (said : SettingsValue) (option : Opt) (word : List ℕ) (words : List (List ℕ))
    → option_of verb word ≡ Some option → takes_value option ≡ true → settings_from verb said None (word ∷ words) ≡ settings_from verb said (Some option) words
unfolding settings_from
awaiting verb said option word words is takes = rw is (rw takes refl)

no_flag : (verb : Verb) (said : SettingsValue) (option : Opt) (word : List ℕ) (words : List (List ℕ))
    → option_of verb word ≡ Some option → takes_value option ≡ false → with_flag option said ≡ None → settings_from verb said None (word ∷ words) ≡ None
unfolding settings_from
no_flag verb said option word words is takes none = rw is (rw takes (rw none refl))

flag : (verb : Verb) (said more : SettingsValue) (option : Opt) (word : List ℕ) (words : List (List ℕ))
    → option_of verb word ≡ Some option → takes_value option ≡ false → with_flag option said ≡ Some more
    → settings_from verb said None (word ∷ words) ≡ settings_from verb more None words
unfolding settings_from
flag verb said more option word words is takes set = rw is (rw takes (rw set refl))

lacking : (verb : Verb) (said : SettingsValue) (option : Opt) → settings_from verb said (Some option) [] ≡ None
unfolding settings_from
lacking verb said option = refl

done : (verb : Verb) (said : SettingsValue) → settings_from verb said None [] ≡ Some said
unfolding settings_from
done verb said = refl

-- the word is no value of the awaited option
pub value_refused : {X : Type 0} (f : X → List ℕ) (verb : Verb) (said : SettingsValue) (awaited : Option Opt) (option : Opt) (words : List X) (k : ℕ) (word : List ℕ)
    → awaited ≡ Some option → StandsAt f words k word → with_value option word said ≡ None → settings_from verb said awaited (drop k (map f words)) ≡ None
value_refused f verb said awaited option words k word waits at is =
    ap (λ a. settings_from verb said a (drop k (map f words))) waits
    ∙ (next f (settings_from verb said (Some option)) words k word at ∙ no_value verb said option word (drop (k + 1) (map f words)) is)

-- the word is the value of the awaited option
pub value_taken : {X : Type 0} (f : X → List ℕ) (verb : Verb) (said more : SettingsValue) (awaited : Option Opt) (option : Opt) (words : List X) (k : ℕ) (word : List ℕ)
    → awaited ≡ Some option → StandsAt f words k word → with_value option word said ≡ Some more
    → settings_from verb said awaited (drop k (map f words)) ≡ settings_from verb more None (drop (k + 1) (map f words))
value_taken f verb said more awaited option words k word waits at is =
    ap (λ a. settings_from verb said a (drop k (map f words))) waits
    ∙ (next f (settings_from verb said (Some option)) words k word at ∙ value verb said more option word (drop (k + 1) (map f words)) is)

-- the word names no option of the command
pub option_refused : {X : Type 0} (f : X → List ℕ) (verb : Verb) (said : SettingsValue) (awaited : Option Opt) (words : List X) (k : ℕ) (word : List ℕ)
    → awaited ≡ None → StandsAt f words k word → option_of verb word ≡ None → settings_from verb said awaited (drop k (map f words)) ≡ None
option_refused f verb said awaited words k word none at is =
    ap (λ a. settings_from verb said a (drop k (map f words))) none
    ∙ (next f (settings_from verb said None) words k word at ∙ no_option verb said word (drop (k + 1) (map f words)) is)

-- the word names an option that awaits its value
pub option_awaits : {X : Type 0} (f : X → List ℕ) (verb : Verb) (said : SettingsValue) (awaited : Option Opt) (option : Opt) (words : List X) (k : ℕ) (word : List ℕ)
    → awaited ≡ None → StandsAt f words k word → option_of verb word ≡ Some option → takes_value option ≡ true
    → settings_from verb said awaited (drop k (map f words)) ≡ settings_from verb said (Some option) (drop (k + 1) (map f words))
option_awaits f verb said awaited option words k word none at is takes =
    ap (λ a. settings_from verb said a (drop k (map f words))) none
    ∙ (next f (settings_from verb said None) words k word at ∙ awaiting verb said option word (drop (k + 1) (map f words)) is takes)

-- the word names an option without a value that is given already
pub flag_refused : {X : Type 0} (f : X → List ℕ) (verb : Verb) (said : SettingsValue) (awaited : Option Opt) (option : Opt) (words : List X) (k : ℕ) (word : List ℕ)
    → awaited ≡ None → StandsAt f words k word → option_of verb word ≡ Some option → takes_value option ≡ false → with_flag option said ≡ None
    → settings_from verb said awaited (drop k (map f words)) ≡ None
flag_refused f verb said awaited option words k word none at is takes set =
    ap (λ a. settings_from verb said a (drop k (map f words))) none
    ∙ (next f (settings_from verb said None) words k word at ∙ no_flag verb said option word (drop (k + 1) (map f words)) is takes set)

-- the word names an option without a value
pub flag_taken : {X : Type 0} (f : X → List ℕ) (verb : Verb) (said more : SettingsValue) (awaited : Option Opt) (option : Opt) (words : List X) (k : ℕ) (word : List ℕ)
    → awaited ≡ None → StandsAt f words k word → option_of verb word ≡ Some option → takes_value option ≡ false → with_flag option said ≡ Some more
    → settings_from verb said awaited (drop k (map f words)) ≡ settings_from verb more None (drop (k + 1) (map f words))
flag_taken f verb said more awaited option words k word none at is takes set =
    ap (λ a. settings_from verb said a (drop k (map f words))) none
    ∙ (next f (settings_from verb said None) words k word at ∙ flag verb said more option word (drop (k + 1) (map f words)) is takes set)

-- no word is left for the awaited option
pub value_lacks : {X : Type 0} (f : X → List ℕ) (verb : Verb) (said : SettingsValue) (awaited : Option Opt) (words : List X) (k : ℕ)
    → is_some awaited ≡ true → length words ≤ k → settings_from verb said awaited (drop k (map f words)) ≡ None
value_lacks f verb said None words k waits past = cc
value_lacks f verb said (Some option) words k waits past =
    at_drop_all (settings_from verb said (Some option)) (map f words) k (omega (arith, length-map words f, past)) ∙ lacking verb said option

-- no word is left
pub all_said : {X : Type 0} (f : X → List ℕ) (verb : Verb) (said : SettingsValue) (awaited : Option Opt) (words : List X) (k : ℕ)
    → is_some awaited ≡ false → length words ≤ k → settings_from verb said awaited (drop k (map f words)) ≡ Some said
all_said f verb said (Some option) words k none past = cc
all_said f verb said None words k none past =
    at_drop_all (settings_from verb said None) (map f words) k (omega (arith, length-map words f, past)) ∙ done verb said
