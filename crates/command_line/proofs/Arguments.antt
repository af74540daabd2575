-- The arguments of a command, as they stand in a list whose elements show as words.
use Rattle.std.proofs.Common.{◌≡◌, ℕ, ◌+◌, ◌≤◌, ◌<◌, ◌⊎◌, None, Bool, true, false, not, cond, List, [], ◌∷◌, length, map, take, drop, refl, sym, ap, ◌∙◌, arith}
use Rattle.std.specs.List.{prefix_len, take_while}
use Rattle.std.proofs.lemmas.List.{drop-map, length-map, length-take, take-map}
use Rattle.command_line.specs.declared.verb.Verb.{Verb}
use Rattle.command_line.specs.declared.verb.Verb.TheVariants.{Run, Asm, Debug, Show, Soak, Pcm, Frames, Seek, Profile}
use Rattle.command_line.specs.CommandLine.{arguments_of, built, options_after}
use Rattle.command_line.specs.SettingsValue.{SettingsValue}
use Rattle.command_line.specs.Words.{is_dashed}

prefix_len-map : {X Y : Type 0} (p : Y → Bool) (f : X → Y) (xs : List X) → prefix_len p (map f xs) ≡ prefix_len (λ x. p (f x)) xs
prefix_len-map p f [] = refl
prefix_len-map p f (x ∷ xs) = ap (λ n. cond (p (f x)) (1 + n) 0) (prefix_len-map p f xs)

take_while-map : {X Y : Type 0} (p : Y → Bool) (f : X → Y) (xs : List X) → take_while p (map f xs) ≡ map f (take_while (λ x. p (f x)) xs)
take_while-map p f xs = ap (λ n. take n (map f xs)) (prefix_len-map p f xs) ∙ take-map f (prefix_len (λ x. p (f x)) xs) xs

prefix_len-le : {X : Type 0} (p : X → Bool) (xs : List X) → prefix_len p xs ≤ length xs
prefix_len-le p [] = omega arith
prefix_len-le p (x ∷ xs) = let rest : prefix_len p xs ≤ length xs = prefix_len-le p xs in
    elim (p x) as (λ b. cond b (1 + prefix_len p xs) 0 ≤ length (x ∷ xs)) [ true ↦ omega arith | false ↦ omega arith ]

length-take_while : {X : Type 0} (p : X → Bool) (xs : List X) → length (take_while p xs) ≡ prefix_len p xs
length-take_while p xs = omega (arith, length-take (prefix_len p xs) xs, prefix_len-le p xs)

pub arguments_shown : {X : Type 0} (f : X → List ℕ) (words : List X) (n : ℕ) → n ≡ length (take_while (λ word. not (is_dashed (f word))) words)
    → map f (take n words) ≡ arguments_of (map f words)
arguments_shown f words n is =
    let count : n ≡ prefix_len (λ word. not (is_dashed (f word))) words = is ∙ length-take_while (λ word. not (is_dashed (f word))) words in
    ap (λ m. map f (take m words)) count ∙ sym (take_while-map (λ word. not (is_dashed word)) f words)

pub options_shown : {X : Type 0} (f : X → List ℕ) (words : List X) (n : ℕ) → n ≡ length (take_while (λ word. not (is_dashed (f word))) words)
    → map f (drop n words) ≡ options_after (map f words)
options_shown f words n is =
    let same : n ≡ length (arguments_of (map f words)) =
    is ∙ (sym (length-map (take_while (λ word. not (is_dashed (f word))) words) f) ∙ ap length (sym (take_while-map (λ word. not (is_dashed word)) f words)))
    in
    sym (drop-map f n words) ∙ ap (λ m. drop m (map f words)) same

-- the number of a command's arguments
abbrev pub argument_count : Verb → ℕ
argument_count Run = 2
argument_count Asm = 3
argument_count Debug = 3
argument_count Show = 1
argument_count Soak = 1
argument_count Pcm = 3
argument_count Frames = 2
argument_count Seek = 3
argument_count Profile = 2

-- another number of them makes no command
pub other_count : (verb : Verb) (words : List (List ℕ)) (said : SettingsValue)
    → (length words < argument_count verb) ⊎ (argument_count verb < length words) → None ≡ built verb words said
other_count verb [] said other = grind arith
other_count verb (a ∷ []) said other = grind arith
other_count verb (a ∷ b ∷ []) said other = grind arith
other_count verb (a ∷ b ∷ c ∷ []) said other = grind arith
other_count verb (a ∷ b ∷ c ∷ d ∷ more) said other = grind arith
