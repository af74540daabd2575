-- Lists of clocks that are read part by part, and those that don't fall.
use Rattle.std.proofs.Common.{◌≡◌, ℕ, zero, suc, ◌+◌, ◌<◌, ◌≤◌, ◌==◌, Bool, true, false, ◌&&◌, leb, List, [], ◌∷◌, ◌++◌, length, get_or, drop}
use Rattle.std.proofs.Common.{if◌then◌else◌, MatchBool, subst, Option, Some, None, refl, sym, ap, ◌∙◌, append_assoc, length-append, arith}
use Rattle.std.specs.List.{slice_split}
use Rattle.std.specs.List.Sorted.{IsNonDecreasing}
use Rattle.std.specs.Option.{option_and_then, option_map}
use Rattle.std.proofs.lemmas.Bool.{le-leb, lt-leb}
use Rattle.std.proofs.lemmas.List.{append-nil, at_drop_all, at_drop_more}
use Rattle.command_line.specs.declared.number.TheConstants.{CUTS}
use Rattle.command_line.specs.Numbers.{clocks_of, cuts_of, number_of, numbers_of, rises_from}

-- the parts between the commas of a word
abbrev pub parts_of : List ℕ → List (List ℕ)
parts_of word = slice_split (λ byte. byte == 44) word

-- these clocks, and then those of the parts that are left
abbrev pub with_rest : List ℕ → List (List ℕ) → Option (List ℕ)
with_rest clocks parts = option_map (λ more. clocks ++ more) (numbers_of parts)

two_fronts : (clocks : List ℕ) (number : ℕ) (rest : Option (List ℕ))
    → option_map (λ more. clocks ++ more) (option_map (λ more. number ∷ more) rest) ≡ option_map (λ more. (clocks ++ number ∷ []) ++ more) rest
two_fronts clocks number None = refl
two_fronts clocks number (Some more) = rw append_assoc refl

no_number : (clocks : List ℕ) (part : List ℕ) (parts : List (List ℕ)) → number_of part ≡ None → with_rest clocks (part ∷ parts) ≡ None
unfolding numbers_of
no_number clocks part parts is = rw is refl

one_more : (clocks : List ℕ) (number : ℕ) (part : List ℕ) (parts : List (List ℕ)) → number_of part ≡ Some number
    → with_rest clocks (part ∷ parts) ≡ with_rest (clocks ++ number ∷ []) parts
unfolding numbers_of
one_more clocks number part parts is = rw is (two_fronts clocks number (numbers_of parts))

-- the number of the next part is one clock more
pub taken : (clocks : List ℕ) (number : ℕ) (part : List ℕ) (parts : List (List ℕ)) (k : ℕ)
    → (k < length parts) × (part ≡ get_or parts k part) → number_of part ≡ Some number
    → with_rest clocks (drop k parts) ≡ with_rest (clocks ++ number ∷ []) (drop (k + 1) parts)
taken clocks number part parts k at is =
    at_drop_more (with_rest clocks) parts k part at.0
    ∙ (ap (λ p. with_rest clocks (p ∷ drop (k + 1) parts)) (sym at.1) ∙ one_more clocks number part (drop (k + 1) parts) is)

-- a part without a number
pub refused : (word clocks : List ℕ) (part : List ℕ) (k : ℕ)
    → (k < length (parts_of word)) × (part ≡ get_or (parts_of word) k part) → number_of part ≡ None
    → with_rest clocks (drop k (parts_of word)) ≡ numbers_of (parts_of word) → clocks_of word ≡ None
refused word clocks part k at is all =
    let none : numbers_of (parts_of word) ≡ None =
    sym all
    ∙ (at_drop_more (with_rest clocks) (parts_of word) k part at.0
    ∙ (ap (λ p. with_rest clocks (p ∷ drop (k + 1) (parts_of word))) (sym at.1) ∙ no_number clocks part (drop (k + 1) (parts_of word)) is))
    in
    rw none refl

over_limit : (clocks : List ℕ) (number : ℕ) (rest all : Option (List ℕ)) → length clocks ≡ CUTS → option_map (λ more. (clocks ++ number ∷ []) ++ more) rest ≡ all
    → option_and_then (λ some. if leb (length some) CUTS then Some some else None) all ≡ None
over_limit clocks number None all full is = rw (← is) refl
over_limit clocks number (Some more) all full is =
    let long : leb (length ((clocks ++ number ∷ []) ++ more)) CUTS ≡ false =
    lt-leb _ _ (omega (arith, length-append (clocks ++ number ∷ []) more, length-append clocks (number ∷ [])))
    in
    rw (← is) (rw long refl)

-- a part with a number past the last clock that is taken
pub too_many : (word clocks : List ℕ) (number : ℕ) (part : List ℕ) (k : ℕ)
    → (k < length (parts_of word)) × (part ≡ get_or (parts_of word) k part) → number_of part ≡ Some number → length clocks ≡ CUTS
    → with_rest clocks (drop k (parts_of word)) ≡ numbers_of (parts_of word) → clocks_of word ≡ None
too_many word clocks number part k at is full all =
    over_limit clocks number (numbers_of (drop (k + 1) (parts_of word))) (numbers_of (parts_of word)) full
    (sym (taken clocks number part (parts_of word) k at is) ∙ all)

nothing_left : (clocks : List ℕ) → with_rest clocks [] ≡ Some clocks
unfolding numbers_of
nothing_left clocks = rw append-nil refl

-- no part is left
pub all_taken : (word clocks : List ℕ) (k : ℕ) → k ≡ length (parts_of word) → length clocks ≤ CUTS
    → with_rest clocks (drop k (parts_of word)) ≡ numbers_of (parts_of word) → Some clocks ≡ clocks_of word
all_taken word clocks k end fits all =
    let clocks_are : numbers_of (parts_of word) ≡ Some clocks =
    sym all ∙ (at_drop_all (with_rest clocks) (parts_of word) k (omega arith) ∙ nothing_left clocks)
    in
    rw clocks_are (rw (le-leb (length clocks) CUTS fits) refl)

and_false : (b : Bool) → (b && false) ≡ false
and_false true = refl
and_false false = refl

-- a list that doesn't fall
pub rises : (least : ℕ) (clocks : List ℕ) → ((d : ℕ) → 0 < length clocks → least ≤ get_or clocks 0 d) → IsNonDecreasing clocks → rises_from least clocks ≡ true
unfolding rises_from
rises least [] above sorted = refl
rises least (clock ∷ clocks) above sorted =
    let first : leb least clock ≡ true = le-leb least clock (above 0 (omega arith)) in
    let rest : rises_from clock clocks ≡ true =
    rises clock clocks (λ d some. sorted 0 1 d (omega arith) (omega arith)) (λ i j d before inside. sorted (suc i) (suc j) d (omega arith) (omega arith))
    in
    rw (first, rest) refl

-- a list that falls
pub falls : (least : ℕ) (clocks : List ℕ) (k : ℕ) → suc k < length clocks → ((d : ℕ) → get_or clocks (suc k) d < get_or clocks k d) → rises_from least clocks ≡ false
unfolding rises_from
falls least [] k inside fall = absurd (omega arith)
falls least (clock ∷ []) k inside fall = absurd (omega arith)
falls least (clock ∷ next ∷ clocks) zero inside fall =
    let low : leb clock next ≡ false = lt-leb clock next (fall 0) in
    rw low (and_false (leb least clock))
falls least (clock ∷ next ∷ clocks) (suc k) inside fall =
    let rest : rises_from clock (next ∷ clocks) ≡ false = falls clock (next ∷ clocks) k (omega arith) (λ d. fall d) in
    ap (λ b. leb least clock && b) rest ∙ and_false (leb least clock)

-- cuts are a list that the test finds sorted
pub cuts_taken : (word clocks : List ℕ) (is_sorted : Bool) → clocks_of word ≡ Some clocks
    → MatchBool is_sorted (IsNonDecreasing clocks) ((k : ℕ) × (k + 1 < length clocks) × ((d : ℕ) → get_or clocks (k + 1) d < get_or clocks k d))
    → is_sorted ≡ true → Some clocks ≡ cuts_of word
cuts_taken word clocks true read sorted is = rw read (rw (rises 0 clocks (λ d some. omega arith) sorted) refl)
cuts_taken word clocks false read sorted is = cc

-- and no list that it finds falling
pub cuts_refused : (word clocks : List ℕ) (is_sorted : Bool) → clocks_of word ≡ Some clocks
    → MatchBool is_sorted (IsNonDecreasing clocks) ((k : ℕ) × (k + 1 < length clocks) × ((d : ℕ) → get_or clocks (k + 1) d < get_or clocks k d))
    → is_sorted ≡ false → None ≡ cuts_of word
cuts_refused word clocks true read sorted is = cc
cuts_refused word clocks false read fall is =
    let next : fall.0 + 1 ≡ suc fall.0 = omega arith in
    let falling : rises_from 0 clocks ≡ false =
    falls 0 clocks fall.0 (omega (arith, fall.1)) (λ d. subst (λ n. get_or clocks n d < get_or clocks fall.0 d) next (fall.2 d))
    in
    rw read (rw falling refl)
