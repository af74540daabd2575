-- The words of a part of a line's code: its first word, and where a mark parts it.
use Rattle.std.proofs.Common.{◌≡◌, ℕ, ◌+◌, ◌-◌, ◌≤◌, ◌↔◌, inl, inr, Bool, true, false, not, ◌&&◌, eqb, List, [], ◌∷◌, ◌++◌}
use Rattle.std.proofs.Common.{Some, None, length, take, drop, get_or, if◌then◌else◌, refl, sym, ap, ◌∙◌, arith}
use Rattle.std.specs.List.{concat, filter_map, list_all, onto_first}
use Rattle.std.proofs.Math.Bool.{and-false, and-true}
use Rattle.std.proofs.lemmas.Bool.{cond_both, eqb-true}
use Rattle.std.proofs.lemmas.Bool.Decides.{nat_tests}
use Rattle.std.proofs.lemmas.List.{take_rest}
use Rattle.std.proofs.lemmas.List.Elements.{filter_map-append}
use Rattle.std.proofs.lemmas.List.Folds.{list_all-append}
use Rattle.asm_text.specs.Pieces.{is_word_byte, joins, pieces_of, takes_word}
use Rattle.asm_text.proofs.Parting.{bool_cases}
use Rattle.asm_text.proofs.Standing.{concat-pieces}
use Rattle.asm_core.proofs.Covering.{both_pass}
use Rattle.asm_core.specs.declared.word.Word.{Word}
use Rattle.asm_core.specs.declared.word.Word.TheVariants as word
use Rattle.asm_core.specs.Words.{begins_blank, begins_with, is_blank_byte, is_mark, is_number_byte, piece_word, word_by, words_in}

-- code has a first piece, which begins with its first byte
first_piece : (byte : ℕ) (code : List ℕ) → (piece : List ℕ) × (pieces : List (List ℕ)) × (pieces_of (byte ∷ code) ≡ (byte ∷ piece) ∷ pieces)
unfolding pieces_of
first_piece byte [] = ([], [], refl)
first_piece byte (next ∷ code) =
    let rest = first_piece next code in
    cond_both (joins byte next) (onto_first byte (pieces_of (next ∷ code))) ((byte ∷ []) ∷ pieces_of (next ∷ code))
    (λ parts. (piece : List ℕ) × (pieces : List (List ℕ)) × (parts ≡ (byte ∷ piece) ∷ pieces))
    (λ _. (next ∷ rest.0, rest.1, ap (λ parts. onto_first byte parts) rest.2))
    (λ _. ([], pieces_of (next ∷ code), refl))

-- what goes on behind a blank's byte in its piece is one of a blank's too
blank_joins : (byte next : ℕ) → is_blank_byte byte ≡ true → joins byte next ≡ true → is_blank_byte next ≡ true
unfolding joins
blank_joins byte next blank one = grind (arith, nat_tests)

-- a blank at the front is no word
pub words-blank : (byte : ℕ) (code : List ℕ) → is_blank_byte byte ≡ true → words_in (byte ∷ code) ≡ words_in code
unfolding words_in pieces_of
words-blank byte [] blank = rw blank refl
words-blank byte (next ∷ code) blank = elim (bool_cases (joins byte next)) [
  | inl one ↦ rw (one, (first_piece next code).2, blank, blank_joins byte next blank one) refl
  | inr apart ↦ rw (apart, blank) refl
]

-- no word
pub words-none : words_in [] ≡ []
unfolding words_in pieces_of
words-none = refl

-- a mark stands alone in its piece
pub record IsLone (mark : ℕ) : Type 0 where
  pub word : takes_word mark ≡ false
  pub solid : is_blank_byte mark ≡ false

not_number : (byte : ℕ) → takes_word byte ≡ false → is_number_byte byte ≡ false
not_number byte lone = grind (arith, nat_tests)

joins_lone : (byte mark : ℕ) → IsLone mark → joins byte mark ≡ false
unfolding joins
joins_lone byte mark lone =
    let word : is_word_byte mark ≡ false = grind (arith, nat_tests, lone.word) in
    let feed : eqb mark 10 ≡ false = grind (arith, nat_tests, lone.solid) in
    rw (word, feed, and-false (takes_word byte), and-false (eqb byte 13)) refl

pieces-lone : (mark : ℕ) (code : List ℕ) → IsLone mark → pieces_of (mark ∷ code) ≡ (mark ∷ []) ∷ pieces_of code
unfolding pieces_of joins
pieces-lone mark [] lone = refl
pieces-lone mark (next ∷ code) lone = let feed : eqb mark 13 ≡ false = grind (arith, nat_tests, lone.solid) in rw (lone.word, feed) refl

-- a word at the front, by its piece
pub words-first : (first : ℕ) (code after piece : List ℕ) → is_blank_byte first ≡ false → pieces_of (first ∷ code) ≡ piece ∷ pieces_of after
    → words_in (first ∷ code) ≡ word_by first piece ∷ words_in after
unfolding words_in
words-first first code after piece solid parted =
    let here = first_piece first code in
    let same : piece ∷ pieces_of after ≡ (first ∷ here.0) ∷ here.1 = sym parted ∙ here.2 in
    let is : piece ≡ first ∷ here.0 = cc in
    rw (parted, is, solid) refl

-- a word is a mark exactly where its first byte is
mark_stated : (mark first : ℕ) (piece : List ℕ) → is_mark mark (word_by first piece) ≡ (eqb first mark && not (takes_word first))
mark_stated mark first piece = by_first _ (is_number_byte first) (takes_word first) (not_number first)
  where
    by_first : (n : ℕ) (number takes : Bool) → (takes ≡ false → number ≡ false)
        → is_mark mark (if number then word.Number n else (if takes then word.Name piece else word.Mark first)) ≡ (eqb first mark && not takes)
    by_first n true true lone = sym (and-false (eqb first mark))
    by_first n true false lone = absurd (let clash : true ≡ false = lone refl in cc)
    by_first n false true lone = sym (and-false (eqb first mark))
    by_first n false false lone = sym (and-true (eqb first mark))

-- the first word is a mark exactly where the first byte is
pub words-begin : (mark first : ℕ) (code : List ℕ) → is_blank_byte first ≡ false → begins_with mark (words_in (first ∷ code)) ≡ (eqb first mark && not (takes_word first))
unfolding words_in
words-begin mark first code solid =
    let here = first_piece first code in
    rw (here.2, solid) (mark_stated mark first (first ∷ here.0))

-- a mark parts the pieces before it from those behind it, and the words too
pieces-parted : (mark : ℕ) (front back : List ℕ) → IsLone mark → pieces_of (front ++ mark ∷ back) ≡ pieces_of front ++ (mark ∷ []) ∷ pieces_of back
unfolding pieces_of
pieces-parted mark [] back lone = pieces-lone mark back lone
pieces-parted mark (byte ∷ []) back lone = rw (joins_lone byte mark lone, pieces-lone mark back lone) refl
pieces-parted mark (byte ∷ next ∷ front) back lone =
    let rest : pieces_of (next ∷ front ++ mark ∷ back) ≡ pieces_of (next ∷ front) ++ (mark ∷ []) ∷ pieces_of back = pieces-parted mark (next ∷ front) back lone in
    elim (bool_cases (joins byte next)) [
      | inl one ↦ rw (one, rest, (first_piece next front).2) refl
      | inr apart ↦ rw (apart, rest) refl
    ]

pub words-parted : (mark : ℕ) (front back : List ℕ) → IsLone mark → words_in (front ++ mark ∷ back) ≡ words_in front ++ word.Mark mark ∷ words_in back
unfolding words_in
words-parted mark front back lone =
    ap (λ pieces. filter_map piece_word pieces) (pieces-parted mark front back lone)
    ∙ filter_map-append piece_word (pieces_of front) ((mark ∷ []) ∷ pieces_of back)
    ∙ rw (lone.solid, not_number mark lone.word, lone.word) refl

-- a mark at the front
pub words-mark : (mark : ℕ) (code : List ℕ) → takes_word mark ≡ false → is_blank_byte mark ≡ false → words_in (mark ∷ code) ≡ word.Mark mark ∷ words_in code
words-mark mark code word solid = words-parted mark [] code (record { word = word; solid = solid }) ∙ rw words-none refl

-- bytes, and words, that are none of a mark's
abbrev pub HasNone : ℕ → List ℕ → Type 0
HasNone mark code = list_all (λ byte. not (eqb byte mark)) code ≡ true

abbrev pub AreOthers : ℕ → List Word → Type 0
AreOthers mark ws = list_all (λ w. not (is_mark mark w)) ws ≡ true

-- where no byte is a mark's, no word is
pieces-without : (mark : ℕ) (pieces : List (List ℕ)) → HasNone mark (concat pieces) → AreOthers mark (filter_map piece_word pieces)
pieces-without mark [] none = refl
pieces-without mark ([] ∷ pieces) none = pieces-without mark pieces none
pieces-without mark ((first ∷ piece) ∷ pieces) none =
    let here = both_pass (not (eqb first mark)) (list_all (λ byte. not (eqb byte mark)) (piece ++ concat pieces)) none in
    let behind = both_pass (list_all (λ byte. not (eqb byte mark)) piece) (list_all (λ byte. not (eqb byte mark)) (concat pieces))
    (sym (list_all-append (λ byte. not (eqb byte mark)) piece (concat pieces)) ∙ here.1) in
    elim (bool_cases (is_blank_byte first)) [
      | inl blank ↦ rw blank (pieces-without mark pieces behind.1)
      | inr solid ↦ let other : eqb first mark ≡ false = grind (arith, here.0) in rw (solid, mark_stated mark first (first ∷ piece), other) (pieces-without mark pieces behind.1)
    ]

pub words-without : (mark : ℕ) (code : List ℕ) → HasNone mark code → AreOthers mark (words_in code)
unfolding words_in
words-without mark code none = pieces-without mark (pieces_of code) (rw (← concat-pieces code) at none)

-- there is no word exactly where there is no code behind the blanks
pub words-empty : (code : List ℕ) → begins_blank code ≡ false → (eqb (length code) 0 ≡ true) ↔ (words_in code ≡ [])
unfolding words_in
words-empty [] solid = (λ _. words-none, λ _. refl)
words-empty (first ∷ code) solid =
    let here = first_piece first code in
    let some : words_in (first ∷ code) ≡ word_by first (first ∷ here.0) ∷ filter_map piece_word here.1 = rw (here.2, solid) refl in (
      λ zero. let none : length (first ∷ code) ≡ 0 = eqb-true (length (first ∷ code)) 0 zero in absurd (omega arith),
      λ none. absurd (let clash : word_by first (first ∷ here.0) ∷ filter_map piece_word here.1 ≡ [] = sym some ∙ none in cc),
    )

-- the words behind a blank at the front
pub words-skip : (code : List ℕ) → 1 ≤ length code → is_blank_byte (get_or code 0 0) ≡ true → words_in (take (length code - 1) (drop 1 code)) ≡ words_in code
words-skip [] some blank = absurd (omega arith)
words-skip (byte ∷ code) some blank = ap (λ rest. words_in rest) (take_rest (byte ∷ code) 1) ∙ sym (words-blank byte code blank)

-- the words behind a mark at the front
pub words-behind : (mark : ℕ) (code : List ℕ) (ws rest : List Word) → 1 ≤ length code → begins_blank code ≡ false → (eqb (get_or code 0 0) mark && not (takes_word (get_or code 0 0))) ≡ true
    → words_in code ≡ ws → rest ≡ words_in (take (length code - 1) (drop 1 code)) → Some rest ≡ (if begins_with mark ws then Some (drop 1 ws) else None)
words-behind mark [] ws rest some solid is whole behind = absurd (omega arith)
words-behind mark (first ∷ code) ws rest some solid is whole behind =
    let both = both_pass (eqb first mark) (not (takes_word first)) is in
    let lone : takes_word first ≡ false = grind (arith, both.1) in
    let front : ws ≡ word.Mark first ∷ words_in code = sym whole ∙ words-mark first code lone solid in
    let back : rest ≡ words_in code = behind ∙ ap (λ bytes. words_in bytes) (take_rest (first ∷ code) 1) in
    rw (front, back, both.0) refl

pub ruleset words = (words-blank, words-none, words-mark, words-first, words-begin)

pub ruleset blanks = (words-none, words-skip, words-empty)
