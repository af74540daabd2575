-- The words of a line whose pieces are all tokens or blanks.
use Rattle.std.proofs.Common.{◌≡◌, ℕ, ◌+◌, inl, inr, Bool, true, false, not, ◌&&◌, ◌||◌, is_some, eqb, codes, List, [], ◌∷◌, ◌++◌, Option, Some, if◌then◌else◌}
use Rattle.std.proofs.Common.{None, Result, Ok, Err, length, drop, leb, map, refl, sym, ap, ◌∙◌, append_assoc, subst, arith}
use Rattle.std.specs.List.{concat, cons_option, filter_map, list_all, position_or_len, slice_range}
use Rattle.std.specs.Option.{option_map}
use Rattle.std.proofs.lemmas.Bool.{eqb-true}
use Rattle.std.proofs.lemmas.Bool.Decides.{nat_tests}
use Rattle.std.proofs.lemmas.List.{nil_from_length, take-append-drop}
use Rattle.asm_text.specs.declared.fault.AsmCause.{AsmCause}
use Rattle.asm_text.specs.declared.fault.AsmCause.TheVariants.{BadToken, BadNumber}
use Rattle.asm_text.specs.declared.fault.AsmFault.{AsmFault}
use Rattle.asm_text.specs.declared.fault.AsmFault.TheVariants.{Line}
use Rattle.asm_text.specs.declared.token.Kind.{Kind}
use Rattle.asm_text.specs.declared.token.Kind.TheVariants.{Name, Number, Punctuation}
use Rattle.asm_text.specs.declared.token.Token.{Token}
use Rattle.asm_text.specs.Lines.{code_of}
use Rattle.asm_text.specs.Numbers.{number_of}
use Rattle.asm_text.specs.Pieces.{is_blank, is_dotted_name, is_mark, is_name, is_name_start, is_number_start, is_one_of, is_register, is_word_byte, kind_of, pieces_of, takes_word}
use Rattle.asm_text.specs.Tokens.{piece_tokens, with_token}
use Rattle.asm_text.proofs.Parting.{bool_cases}
use Rattle.asm_text.proofs.Standing.{concat-pieces, part_after, part_slice}
use Rattle.asm_core.specs.declared.word.Word.{Word}
use Rattle.asm_core.specs.Passes.{then_on, words_read}
use Rattle.asm_core.specs.Words.{is_blank_byte, is_number_byte, piece_word, said, words_in, words_of}

-- the first fault of these pieces
abbrev pub fault_or : ℕ → Result (Option Kind) AsmCause → Option AsmFault → Option AsmFault
fault_or line (Ok kind) rest = rest
fault_or line (Err cause) rest = Some (Line line cause)

abbrev pub first_fault : ℕ → List (List ℕ) → Option AsmFault
first_fault line [] = None
first_fault line (piece ∷ pieces) = fault_or line (kind_of piece) (first_fault line pieces)

-- these words, or a fault
abbrev pub words_or : Option AsmFault → List Word → Result (List Word) AsmFault
words_or None ws = Ok ws
words_or (Some fault) ws = Err fault

-- what two functions give for each byte of a list, they give for one of them
same_at : {A : Type 0} (f g : ℕ → A) (bytes : List ℕ) (byte : ℕ) → is_one_of bytes byte ≡ true → map f bytes ≡ map g bytes → f byte ≡ g byte
same_at f g [] byte is same = absurd (cc)
same_at f g (one ∷ bytes) byte is same = elim (bool_cases (eqb byte one)) [
  | inl here ↦ rw (eqb-true byte one here) (cc)
  | inr other ↦ same_at f g bytes byte (rw other at is) (cc)
]

-- the word that a piece of each kind is, by its first byte
blank_word : (piece : List ℕ) → is_blank piece ≡ true → piece_word piece ≡ None
blank_word [] blank = refl
blank_word (byte ∷ piece) blank = let first : is_blank_byte byte ≡ true = blank_byte piece blank in rw first refl
  where
    blank_byte : (piece : List ℕ) → is_blank (byte ∷ piece) ≡ true → is_blank_byte byte ≡ true
    blank_byte [] blank = grind (arith, nat_tests)
    blank_byte (next ∷ []) blank = grind (arith, nat_tests)
    blank_byte (next ∷ third ∷ piece) blank = absurd (grind (arith, nat_tests))

mark_word : (piece : List ℕ) → is_mark piece ≡ true → piece_word piece ≡ Some (said Punctuation piece)
mark_word [] mark = absurd (cc)
mark_word (byte ∷ []) mark = same_at (λ b. piece_word (b ∷ [])) (λ b. Some (said Punctuation (b ∷ []))) (codes ":=#(),<>+-") byte mark refl
mark_word (byte ∷ next ∷ piece) mark = absurd (cc)

name_word : (piece : List ℕ) → (is_name piece || is_dotted_name piece) ≡ true → piece_word piece ≡ Some (said Name piece)
name_word [] name = absurd (cc)
name_word (byte ∷ piece) name =
    let start : (is_name_start byte || eqb byte 46) ≡ true =
    either (is_name_start byte) (list_all is_word_byte piece) (leb (length (byte ∷ piece)) 32) (eqb byte 46) (is_name piece) (not (is_register piece)) name in
    let solid : is_blank_byte byte ≡ false = grind (arith, nat_tests) in
    let number : is_number_byte byte ≡ false = grind (arith, nat_tests) in
    let word : takes_word byte ≡ true = grind (arith, nat_tests) in
    rw (solid, number, word) refl
  where
    either : (a b c d e f : Bool) → ((a && b && c) || (d && e && f)) ≡ true → (a || d) ≡ true
    either a b c d e f holds = grind arith

number_word : (piece : List ℕ) → is_number_start piece ≡ true → piece_word piece ≡ Some (said Number piece)
number_word [] number = absurd (cc)
number_word (byte ∷ piece) number = let solid : is_blank_byte byte ≡ false = grind (arith, nat_tests) in rw (solid, number) refl

by_kind : (blank mark name number good : Bool) (kind : Option Kind) (P : Option Kind → Type 0)
    → (blank ≡ true → P None) → (mark ≡ true → P (Some Punctuation)) → (name ≡ true → P (Some Name)) → (number ≡ true → P (Some Number))
    → (if blank then Ok None else (if mark then Ok (Some Punctuation) else (if name then Ok (Some Name)
    else (if not number then Err BadToken else (if good then Ok (Some Number) else Err BadNumber))))) ≡ Ok kind
    → P kind
by_kind true mark name number good kind P a b c d is = let same : None ≡ kind = cc in subst P same (a refl)
by_kind false true name number good kind P a b c d is = let same : Some Punctuation ≡ kind = cc in subst P same (b refl)
by_kind false false true number good kind P a b c d is = let same : Some Name ≡ kind = cc in subst P same (c refl)
by_kind false false false true true kind P a b c d is = let same : Some Number ≡ kind = cc in subst P same (d refl)
by_kind false false false true false kind P a b c d is = absurd (cc)
by_kind false false false false good kind P a b c d is = absurd (cc)

kind_word : (piece : List ℕ) (kind : Option Kind) → kind_of piece ≡ Ok kind → piece_word piece ≡ option_map (λ k. said k piece) kind
unfolding kind_of
kind_word piece kind is =
    by_kind (is_blank piece) (is_mark piece) (is_name piece || is_dotted_name piece) (is_number_start piece) (is_some (number_of piece)) kind
    (λ kind. piece_word piece ≡ option_map (λ k. said k piece) kind) (blank_word piece) (mark_word piece) (name_word piece) (number_word piece) is

-- the words of a line's tokens are those of its pieces, where none of these is bad
words-step : (text piece : List ℕ) (line start end : ℕ) (kind : Result (Option Kind) AsmCause) (w : Option Word) (ws : List Word) (rest : Result (List Token) AsmFault) (fault : Option AsmFault)
    → slice_range text start end ≡ piece → ((k : Option Kind) → kind ≡ Ok k → w ≡ option_map (λ k. said k piece) k)
    → then_on (λ tokens. Ok (words_of text tokens)) rest ≡ words_or fault ws
    → then_on (λ tokens. Ok (words_of text tokens)) (with_token line start end kind rest) ≡ words_or (fault_or line kind fault) (cons_option w ws)
words-step text piece line start end (Err cause) w ws rest fault slice word more = refl
words-step text piece line start end (Ok None) w ws rest fault slice word more = rw (word None refl) more
words-step text piece line start end (Ok (Some kind)) w ws (Ok tokens) None slice word more = rw (word (Some kind) refl, slice) (cc)
words-step text piece line start end (Ok (Some kind)) w ws (Err e) (Some fault) slice word more = more
words-step text piece line start end (Ok (Some kind)) w ws (Ok tokens) (Some fault) slice word more = absurd (cc)
words-step text piece line start end (Ok (Some kind)) w ws (Err e) None slice word more = absurd (cc)

words-pieces : (text : List ℕ) (line place : ℕ) (pieces : List (List ℕ)) (after : List ℕ) → drop place text ≡ concat pieces ++ after
    → then_on (λ tokens. Ok (words_of text tokens)) (piece_tokens line place pieces) ≡ words_or (first_fault line pieces) (filter_map piece_word pieces)
unfolding piece_tokens
words-pieces text line place [] after here = refl
words-pieces text line place (piece ∷ pieces) after here =
    let parted : drop place text ≡ piece ++ (concat pieces ++ after) = here ∙ append_assoc piece (concat pieces) after in
    words-step text piece line place (place + length piece) (kind_of piece) (piece_word piece) (filter_map piece_word pieces) _ (first_fault line pieces)
    (part_slice text place piece (concat pieces ++ after) parted) (kind_word piece)
    (words-pieces text line (place + length piece) pieces after (part_after text place piece (concat pieces ++ after) parted))

pub words-line : (line : ℕ) (text : List ℕ) → words_read line text ≡ words_or (first_fault line (pieces_of (code_of text))) (words_in (code_of text))
unfolding words_in
words-line line text =
    let comment : List ℕ = drop (position_or_len (λ byte. eqb byte 59) text) text in
    let whole : code_of text ++ comment ≡ text = take-append-drop (position_or_len (λ byte. eqb byte 59) text) text in
    words-pieces text line 0 (pieces_of (code_of text)) comment (sym whole ∙ ap (λ front. front ++ comment) (sym (concat-pieces (code_of text))))

pub pieces-none : pieces_of [] ≡ []
unfolding pieces_of
pieces-none = refl

pub ruleset lines = (words-line, pieces-none, nil_from_length)
