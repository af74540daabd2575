-- A list of items parted after its first comma, and words before the `)` that ends them.
use Rattle.std.proofs.Common.{◌≡◌, ℕ, ◌+◌, ◌-◌, ◌<◌, ◌≤◌, ◌↔◌, Bool, true, false, not, eqb, List, [], ◌∷◌, ◌++◌}
use Rattle.std.proofs.Common.{Some, None, length, length-append, take, drop, get_or, refl, sym, ap, ◌∙◌, append_assoc, arith}
use Rattle.std.specs.List.{position, position_or_len}
use Rattle.std.proofs.Math.Seq.{drop-append_seam, take-append_seam, take-length}
use Rattle.std.proofs.lemmas.List.{drop_more, get_or-take, length-take, take-append-drop, take_rest}
use Rattle.std.proofs.lemmas.Bool.{eqb-true}
use Rattle.std.proofs.lemmas.Grind.{common_steps}
use Rattle.std.proofs.lemmas.List.Sums.{AllPass-from_list_all, fails_before_first, list_all-from_AllPass}
use Rattle.std.proofs.lemmas.List.Quantifiers.{position-Some}
use Rattle.asm_text.proofs.Parting.{position_none, position_some}
use Rattle.asm_core.proofs.Covering.{both_pass}
use Rattle.asm_core.proofs.WordPieces.{AreOthers, HasNone, IsLone, words-parted, words-without}
use Rattle.asm_core.specs.declared.word.Word.{Word}
use Rattle.asm_core.specs.declared.word.Word.TheVariants as word
use Rattle.asm_core.specs.Words.{before_close, is_mark, items_of, words_in}

-- the words before the first comma are the first item
others-behind : (mark : ℕ) (w : Word) (ws : List Word) → AreOthers mark (w ∷ ws) → (is_mark mark w ≡ false) × AreOthers mark ws
others-behind mark w ws all = let both = both_pass (not (is_mark mark w)) _ all in (grind (arith, both.0), both.1)

items-parted : (front back : List Word) → AreOthers 44 front → items_of (front ++ word.Mark 44 ∷ back) ≡ front ∷ items_of back
unfolding items_of
items-parted [] back all = refl
items-parted (w ∷ front) back all = let here = others-behind 44 w front all in rw (here.0, items-parted front back here.1) refl

-- words without a comma are one item
items-alone : (ws : List Word) → AreOthers 44 ws → items_of ws ≡ ws ∷ []
unfolding items_of
items-alone [] all = refl
items-alone (w ∷ ws) all = let here = others-behind 44 w ws all in rw (here.0, items-alone ws here.1) refl

-- a mark at a place parts the words before it from those behind it
words-at : (mark : ℕ) (code : List ℕ) (n : ℕ) → IsLone mark → n < length code → get_or code n 0 ≡ mark
    → words_in code ≡ words_in (take n code) ++ word.Mark mark ∷ words_in (drop (n + 1) code)
words-at mark code n lone inside is =
    ap (λ bytes. words_in bytes) (sym (take-append-drop n code) ∙ rw (drop_more code n 0 inside, is) refl) ∙ words-parted mark (take n code) (drop (n + 1) code) lone

-- no byte before the first byte of a mark is one of its bytes
none-before : (mark : ℕ) (code : List ℕ) (n : ℕ) → n ≤ position_or_len (λ byte. eqb byte mark) code → HasNone mark (take n code)
none-before mark code n first = list_all-from_AllPass (λ byte. not (eqb byte mark)) (take n code)
    (λ k d within.
    let before : k < n = omega (arith, within, length-take n code) in
    rw (get_or-take n code k d before, fails_before_first (λ byte. eqb byte mark) code k d (omega arith)) refl)

comma : IsLone 44
comma = record { word = refl; solid = refl }

pub items-comma : (code : List ℕ) (n : ℕ) → Some n ≡ position (λ byte. eqb byte 44) code
    → (items_of (words_in code) ≡ words_in (take n code) ∷ items_of (words_in (take (length code - (n + 1)) (drop (n + 1) code))))
    × (length (words_in (take (length code - (n + 1)) (drop (n + 1) code))) < length (words_in code))
items-comma code n found =
    let (first, inside) = position_some (λ byte. eqb byte 44) code n found in
    let words = words-at 44 code n comma inside (eqb-true _ _ (position-Some (λ byte. eqb byte 44) code n 0 (sym found)).1) in
    rw (take_rest code (n + 1), words)
    (items-parted _ _ (words-without 44 (take n code) (none-before 44 code n (omega arith))), omega (arith, length-append (words_in (take n code)) (word.Mark 44 ∷ words_in (drop (n + 1) code))))

pub items-none : (code : List ℕ) → None ≡ position (λ byte. eqb byte 44) code → items_of (words_in code) ≡ words_in code ∷ []
items-none code none =
    items-alone (words_in code) (words-without 44 code (rw (take-length code) at (none-before 44 code (length code) (position_none (λ byte. eqb byte 44) code none))))

-- the last of some words is no `)` where none of them is
last-other : (front back : List Word) → AreOthers 41 back → 0 < length back → before_close (front ++ back) ≡ None
last-other front back all some =
    let n = length (front ++ back) - 1 in
    let within : n < length (front ++ back) = omega (arith, length-append front back) in
    let there : get_or (front ++ back) n (word.Mark 0) ≡ get_or back (length back - 1) (word.Mark 0) = grind (arith, common_steps) in
    let passes = AllPass-from_list_all (λ w. not (is_mark 41 w)) back all (length back - 1) (word.Mark 0) (omega arith) in
    let other : is_mark 41 (get_or back (length back - 1) (word.Mark 0)) ≡ false = grind (arith, passes) in
    rw (drop_more (front ++ back) n (word.Mark 0) within, there, other) refl

-- no `)`
pub close-none : (code : List ℕ) → HasNone 41 code → before_close (words_in code) ≡ None
close-none code none = go (words_in code) (words-without 41 code none)
  where
    go : (ws : List Word) → AreOthers 41 ws → before_close ws ≡ None
    go [] all = refl
    go (w ∷ ws) all = last-other [] (w ∷ ws) all (omega arith)

close : IsLone 41
close = record { word = refl; solid = refl }

-- a `)` behind which no word stands
close-last : (front : List Word) → before_close (front ++ word.Mark 41 ∷ []) ≡ Some front
close-last front =
    let size : length (front ++ word.Mark 41 ∷ []) - 1 ≡ length front = omega (arith, length-append front (word.Mark 41 ∷ [])) in
    rw (size, drop-append_seam front (word.Mark 41 ∷ []), take-append_seam front (word.Mark 41 ∷ [])) refl

pub close-end : (code : List ℕ) (n : ℕ) → n < length code → get_or code n 0 ≡ 41 → words_in (take (length code - (n + 1)) (drop (n + 1) code)) ≡ []
    → before_close (words_in code) ≡ Some (words_in (take n code))
close-end code n inside is end = rw (words-at 41 code n close inside is, rw (take_rest code (n + 1)) at end) (close-last (words_in (take n code)))

-- a last `)` behind which words stand
pub close-before : (code : List ℕ) (n : ℕ) (empty : Bool) → n < length code → get_or code n 0 ≡ 41 → HasNone 41 (drop (n + 1) code)
    → ((empty ≡ true) ↔ (words_in (take (length code - (n + 1)) (drop (n + 1) code)) ≡ [])) → empty ≡ false → before_close (words_in code) ≡ None
close-before code n empty inside is none same fails =
    let back = words_in (drop (n + 1) code) in
    rw (words-at 41 code n close inside is, ← append_assoc (words_in (take n code)) (word.Mark 41 ∷ []) back)
    (last-other (words_in (take n code) ++ word.Mark 41 ∷ []) back (words-without 41 (drop (n + 1) code) none) (some back (rw (take_rest code (n + 1)) at same)))
  where
    some : (ws : List Word) → ((empty ≡ true) ↔ (ws ≡ [])) → 0 < length ws
    some [] same = let holds : empty ≡ true = same.1 refl in absurd (cc)
    some (w ∷ ws) same = omega arith

pub ruleset commas = (items-comma, items-none)

pub ruleset closes = (close-none, close-end)
