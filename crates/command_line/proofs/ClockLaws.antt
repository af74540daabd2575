-- The numbers of a command that is read are clocks.
use Rattle.std.proofs.Common.{◌≡◌, ℕ, suc, ◌≤◌, ◌==◌, Bool, true, false, cond, leb, List, [], ◌∷◌, length, Option, Some, None, ◌&&◌, refl, ap, subst, arith}
use Rattle.std.specs.List.{All, AllPairs, slice_split}
use Rattle.std.specs.Option.{option_and_then, option_map}
use Rattle.std.proofs.lemmas.Bool.{leb-true}
use Rattle.std.proofs.lemmas.List.Elements.{All-cons, All-nil, All-weaker}
use Rattle.std.proofs.lemmas.List.Kept.{AllPairs-cons}
use Rattle.std.proofs.lemmas.List.Splits.{length-slice_split}
use Rattle.std.proofs.lemmas.Option.{cond_some, option_and_then_some, same_Some}
use Rattle.board_base.specs.declared.board.TheConstants.{CLOCK_LIMIT}
use Rattle.command_line.specs.declared.option.Opt.{Opt}
use Rattle.command_line.specs.declared.option.Opt.TheVariants.{State, Earom, Until, Cuts, Save, Cost, Timers}
use Rattle.command_line.specs.declared.verb.Verb.{Verb}
use Rattle.command_line.specs.declared.number.TheConstants.{CUTS}
use Rattle.plain_text.specs.Numbers.{decimal_of}
use Rattle.command_line.specs.Clocks.{AreClocks, AreListed}
use Rattle.command_line.specs.Numbers.{clocks_of, cuts_of, number_of, numbers_of, rises_from}
use Rattle.command_line.specs.Settings.{first_value, no_settings, settings_from, settings_of, with_flag, with_value}
use Rattle.command_line.specs.SettingsValue.{SettingsValue}
use Rattle.command_line.specs.Words.{name_of, option_of, takes_value}

where_some : {A : Type 0} (b : Bool) (o : Option A) (y : A) → cond b o None ≡ Some y → (b ≡ true) × (o ≡ Some y)
where_some true o y is = (refl, is)
where_some false o y is = cc

unless_some : {A : Type 0} (b : Bool) (o : Option A) (y : A) → cond b None o ≡ Some y → o ≡ Some y
unless_some true o y is = cc
unless_some false o y is = is

map_some : {A B : Type 0} (f : A → B) (o : Option A) (y : B) → option_map f o ≡ Some y → (x : A) × (o ≡ Some x) × (f x ≡ y)
map_some f None y is = cc
map_some f (Some x) y is = (x, refl, same_Some (f x) y is)

first_some : {A B : Type 0} (given : Option A) (value : Option B) (y : B) → first_value given value ≡ Some y → value ≡ Some y
first_some None value y is = is
first_some (Some x) value y is = cc

-- a number is within the limit
number_within : (word : List ℕ) (number : ℕ) → number_of word ≡ Some number → number ≤ CLOCK_LIMIT
number_within word number is =
    option_and_then_some (λ n. cond (leb n CLOCK_LIMIT) (Some n) None) (decimal_of word) number is
    (λ n read rest.
    let parts = cond_some (leb n CLOCK_LIMIT) n number rest in
    omega (arith, leb-true n CLOCK_LIMIT parts.0, parts.1))

-- numbers that are read are within the limit, and as many as their words
numbers_within : (words : List (List ℕ)) (numbers : List ℕ) → numbers_of words ≡ Some numbers → All (λ n. n ≤ CLOCK_LIMIT) numbers × (length numbers ≡ length words)
unfolding numbers_of
numbers_within [] numbers is =
    subst (λ all. All (λ n. n ≤ CLOCK_LIMIT) all × (length all ≡ 0)) (same_Some [] numbers is) (All-nil (λ n. n ≤ CLOCK_LIMIT), refl)
numbers_within (word ∷ words) numbers is =
    option_and_then_some (λ number. option_map (λ more. number ∷ more) (numbers_of words)) (number_of word) numbers is
    (λ number read rest.
    let more = map_some (λ more. number ∷ more) (numbers_of words) numbers rest in
    let after = numbers_within words more.0 more.1 in
    subst (λ all. All (λ n. n ≤ CLOCK_LIMIT) all × (length all ≡ length (word ∷ words))) more.2
    (All-cons (λ n. n ≤ CLOCK_LIMIT) number more.0 (number_within word number read) after.0, ap suc after.1))

-- what holds of a list of clocks
pub clocks_are_listed : (word : List ℕ) (clocks : List ℕ) → clocks_of word ≡ Some clocks → AreListed clocks
clocks_are_listed word clocks is =
    option_and_then_some (λ some. cond (leb (length some) CUTS) (Some some) None) (numbers_of (slice_split (λ byte. byte == 44) word)) clocks is
    (λ some read rest.
    let fits = cond_some (leb (length some) CUTS) some clocks rest in
    let within = numbers_within (slice_split (λ byte. byte == 44) word) some read in
    subst AreListed fits.1
    (record {
      some = omega (arith, within.1, length-slice_split (λ byte. byte == 44) word);
      few = leb-true (length some) CUTS fits.0;
      within = within.0;
    }))

-- what holds of numbers that rise from one on
record Rising (least : ℕ) (numbers : List ℕ) : Type 0 where
  above : All (λ n. least ≤ n) numbers
  rising : AllPairs (λ earlier later. earlier ≤ later) numbers

and_true : (a b : Bool) → (a && b) ≡ true → (a ≡ true) × (b ≡ true)
and_true true b is = (refl, is)
and_true false b is = cc

rising_is : (least : ℕ) (numbers : List ℕ) → rises_from least numbers ≡ true → Rising least numbers
unfolding rises_from
rising_is least [] is = record { above = All-nil (λ n. least ≤ n); rising = λ i j d below inside. absurd (omega arith) }
rising_is least (number ∷ numbers) is =
    let parts = and_true (leb least number) (rises_from number numbers) is in
    let first : least ≤ number = leb-true least number parts.0 in
    let rest = rising_is number numbers parts.1 in
    record {
      above = All-cons (λ n. least ≤ n) number numbers first (All-weaker (λ n. number ≤ n) (λ n. least ≤ n) (λ n more. omega arith) numbers rest.above);
      rising = AllPairs-cons (λ earlier later. earlier ≤ later) number numbers rest.above rest.rising;
    }

-- what holds of cuts
record AreCuts (cuts : List ℕ) : Type 0 where
  within : All (λ n. n ≤ CLOCK_LIMIT) cuts
  rising : AllPairs (λ earlier later. earlier ≤ later) cuts

cuts_are : (word : List ℕ) (cuts : List ℕ) → cuts_of word ≡ Some cuts → AreCuts cuts
cuts_are word cuts is =
    option_and_then_some (λ some. cond (rises_from 0 some) (Some some) None) (clocks_of word) cuts is
    (λ some read rest.
    let rises = cond_some (rises_from 0 some) some cuts rest in
    let listed = clocks_are_listed word some read in
    let rising = rising_is 0 some rises.0 in
    subst AreCuts rises.1 (record { within = listed.within; rising = rising.rising }))

-- one value more
value_keeps : (option : Opt) (word : List ℕ) (said more : SettingsValue) → AreClocks said → with_value option word said ≡ Some more → AreClocks more
value_keeps State word said more are is =
    let put = map_some (λ name. record said { state = Some name }) (first_value said.state (name_of word)) more is in
    subst AreClocks put.2 (record { until = are.until; cuts = are.cuts; rising = are.rising })
value_keeps Earom word said more are is =
    let put = map_some (λ name. record said { earom = Some name }) (first_value said.earom (name_of word)) more is in
    subst AreClocks put.2 (record { until = are.until; cuts = are.cuts; rising = are.rising })
value_keeps Until word said more are is =
    let put = map_some (λ number. record said { until = Some number }) (first_value said.until (number_of word)) more is in
    subst AreClocks put.2
    (record { until = number_within word put.0 (first_some said.until (number_of word) put.0 put.1); cuts = are.cuts; rising = are.rising })
value_keeps Cuts word said more are is =
    let put = map_some (λ cuts. record said { cuts = cuts }) (cond (length said.cuts == 0) (cuts_of word) None) more is in
    let cuts = cuts_are word put.0 (where_some (length said.cuts == 0) (cuts_of word) put.0 put.1).1 in
    subst AreClocks put.2 (record { until = are.until; cuts = cuts.within; rising = cuts.rising })
value_keeps Save word said more are is =
    let put = map_some (λ name. record said { save = Some name }) (first_value said.save (name_of word)) more is in
    subst AreClocks put.2 (record { until = are.until; cuts = are.cuts; rising = are.rising })
value_keeps Cost word said more are is = cc
value_keeps Timers word said more are is = cc

-- one flag more
flag_keeps : (option : Opt) (said more : SettingsValue) → AreClocks said → with_flag option said ≡ Some more → AreClocks more
flag_keeps State said more are is = cc
flag_keeps Earom said more are is = cc
flag_keeps Until said more are is = cc
flag_keeps Cuts said more are is = cc
flag_keeps Save said more are is = cc
flag_keeps Cost said more are is =
    subst AreClocks (same_Some (record said { cost = true }) more (unless_some said.cost (Some (record said { cost = true })) more is))
    (record { until = are.until; cuts = are.cuts; rising = are.rising })
flag_keeps Timers said more are is =
    subst AreClocks (same_Some (record said { timers = true }) more (unless_some said.timers (Some (record said { timers = true })) more is))
    (record { until = are.until; cuts = are.cuts; rising = are.rising })

words_keep : (verb : Verb) (said all : SettingsValue) (awaited : Option Opt) (words : List (List ℕ))
    → AreClocks said → settings_from verb said awaited words ≡ Some all → AreClocks all
unfolding settings_from
words_keep verb said all None [] are is = subst AreClocks (same_Some said all is) are
words_keep verb said all (Some option) [] are is = cc
words_keep verb said all (Some option) (word ∷ words) are is =
    option_and_then_some (λ more. settings_from verb more None words) (with_value option word said) all is
    (λ more put rest. words_keep verb more all None words (value_keeps option word said more are put) rest)
words_keep verb said all None (word ∷ words) are is =
    option_and_then_some
    (λ option. cond (takes_value option) (settings_from verb said (Some option) words) (option_and_then (λ more. settings_from verb more None words) (with_flag option said)))
    (option_of verb word) all is
    (λ option read rest.
    elim (takes_value option) as
    (λ b. cond b (settings_from verb said (Some option) words) (option_and_then (λ more. settings_from verb more None words) (with_flag option said)) ≡ Some all → AreClocks all) [
      | true ↦ λ awaits. words_keep verb said all (Some option) words are awaits
      | false ↦ λ set.
          option_and_then_some (λ more. settings_from verb more None words) (with_flag option said) all set
          (λ more put after. words_keep verb more all None words (flag_keeps option said more are put) after)
    ] rest)

no_clocks : AreClocks no_settings
no_clocks = record { until = tt; cuts = All-nil (λ n. n ≤ CLOCK_LIMIT); rising = λ i j d below inside. absurd (omega arith) }

-- what the options of a command say are clocks
pub settings_are_clocks : (verb : Verb) (words : List (List ℕ)) (all : SettingsValue) → settings_of verb words ≡ Some all → AreClocks all
settings_are_clocks verb words all is = words_keep verb no_settings all None words no_clocks is
