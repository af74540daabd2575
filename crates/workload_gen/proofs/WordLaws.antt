-- Words that are drawn, one after another.
use Rattle.std.proofs.Common.{◌≡◌, ℕ, ◌+◌, zero, List, [], ◌∷◌, ◌++◌, length, refl, sym, ap, ◌∙◌, suc-add, zero-add, length-append, append_assoc, arith}
use Rattle.std.specs.List.{flat_map, range_with_len}
use Rattle.std.proofs.lemmas.Grind.{flat_map-append}
use Rattle.std.proofs.lemmas.Bool.Decides.{nat_tests}
use Rattle.std.proofs.lemmas.List.{append-nil}
use Rattle.workload_gen.proofs.DrawLaws.{number_after-add}
use Rattle.workload_gen.specs.declared.words.Choice.{Choice}
use Rattle.workload_gen.specs.Draws.{draw_of, draws_of, next_of, number_after}
use Rattle.workload_gen.specs.Words.{choices, choices_at, choices_before, drawn_word, drawn_words, scale, vector, words_of}

-- words that are drawn, and others behind them
pub drawn_words-append : (some more : List Choice) (number : ℕ) → drawn_words number (some ++ more) ≡ drawn_words number some ++ drawn_words (number_after number (length some)) more
unfolding drawn_words draws_of number_after
drawn_words-append [] more number = refl
drawn_words-append (choice ∷ some) more number =
    ap (λ words. drawn_word choice (draw_of (next_of number)) ∷ words) (drawn_words-append some more (next_of number))

pub length-drawn_words : (some : List Choice) (number : ℕ) → length (drawn_words number some) ≡ length some
unfolding drawn_words draws_of
length-drawn_words [] number = refl
length-drawn_words (choice ∷ some) number = ap (λ n. Prim.Native.Nat.suc n) (length-drawn_words some (next_of number))

-- numbers, and one more
range-more : (n from : ℕ) → range_with_len from (n + 1) ≡ range_with_len from n ++ (from + n) ∷ []
range-more zero from = let same : from + 0 ≡ from = omega arith in ap (λ last. last ∷ []) (sym same)
range-more (Prim.Native.Nat.suc n) from = let same : from + 1 + n ≡ from + Prim.Native.Nat.suc n = omega arith in rw (suc-add n 1, range-more n (from + 1), same) refl

-- what is drawn before the next vector
pub choices_before-next : (k : ℕ) → choices_before (k + 1) ≡ choices_before k ++ choices_at k
unfolding choices_before
choices_before-next k =
    ap (λ some. scale ∷ some)
    (ap (λ ks. flat_map choices_at ks) (rw (zero-add k) at (range-more k 0))
    ∙ flat_map-append choices_at (range_with_len 0 k) (k ∷ [])
    ∙ ap (λ some. flat_map choices_at (range_with_len 0 k) ++ some) (append-nil (choices_at k)))

-- the words with one vector more
pub drawn_words-next : (k number : ℕ)
    → drawn_words number (choices_before k) ++ drawn_words (number_after number (length (choices_before k))) (choices_at k) ≡ drawn_words number (choices_before (k + 1))
drawn_words-next k number =
    sym (drawn_words-append (choices_before k) (choices_at k) number) ∙ ap (λ some. drawn_words number some) (sym (choices_before-next k))

-- the words before the first vector
pub drawn_words-first : (number : ℕ) → drawn_words number (choices_before 0) ≡ drawn_word scale (draw_of (next_of number)) ∷ []
unfolding choices_before drawn_words draws_of
drawn_words-first number = refl

pub number-first : (number : ℕ) → number_after number (length (choices_before 0)) ≡ next_of number
unfolding choices_before number_after
number-first number = refl

pub choices-all : choices_before 300 ≡ choices
unfolding choices
choices-all = refl

pub length-choices : length choices ≡ 311
unfolding choices choices_before
length-choices = refl

-- the words in all
pub words_of-all : (number : ℕ) → (0x8000 ∷ drawn_words number (choices_before 300)) ++ 0x2000 ∷ [] ≡ words_of number
unfolding words_of choices
words_of-all number = refl

pub length-words_of : (number : ℕ) → length (words_of number) ≡ 313
unfolding words_of
length-words_of number =
    let count = length-append (drawn_words number choices) (0x2000 ∷ []) in
    omega (arith, count, length-drawn_words choices number, length-choices)

pub number-next : (k number : ℕ) → number_after (number_after number (length (choices_before k))) (length (choices_at k)) ≡ number_after number (length (choices_before (k + 1)))
number-next k number =
    sym (number_after-add (length (choices_before k)) (length (choices_at k)) number)
    ∙ ap (λ count. number_after number count) (sym (length-append (choices_before k) (choices_at k)) ∙ ap (λ some. length some) (sym (choices_before-next k)))

pub ruleset steps = (nat_tests)

pub ruleset vectors = (append_assoc, choices-all, drawn_words-first, drawn_words-next, number-first, number-next, words_of-all)
