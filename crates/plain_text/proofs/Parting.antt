-- A text parted at its first LF, and a line at its first space.
use Rattle.std.proofs.Common.{◌≡◌, ◌≢◌, ℕ, ◌<◌, false, eqb, List, [], ◌∷◌, ◌++◌, length, refl, arith}
use Rattle.std.specs.List.{All, onto_first}
use Rattle.std.proofs.lemmas.Bool.{cond_both, ne_eqb}
use Rattle.std.proofs.lemmas.List.Elements.{All-head, All-tail, All-weaker}
use Rattle.std.proofs.lemmas.List.Splits.{slice_split_at, slice_split_none}
use Rattle.plain_text.specs.Lines.{lines_of, words_of}

-- the first line ends at the first LF
pub lines_of-first : (line rest : List ℕ) → All (λ byte. byte ≢ 10) line → lines_of (line ++ 10 ∷ rest) ≡ line ∷ lines_of rest
unfolding lines_of
lines_of-first [] rest apart = refl
lines_of-first (byte ∷ line) rest apart =
    let other : eqb byte 10 ≡ false = ne_eqb byte 10 (All-head (λ c. c ≢ 10) byte line apart) in
    let more : lines_of (line ++ 10 ∷ rest) ≡ line ∷ lines_of rest = lines_of-first line rest (All-tail (λ c. c ≢ 10) byte line apart) in
    rw (other, more) refl

-- a text with no LF is one line
pub lines_of-last : (text : List ℕ) → 0 < length text → All (λ byte. byte ≢ 10) text → lines_of text ≡ text ∷ []
unfolding lines_of
lines_of-last [] some apart = absurd (omega arith)
lines_of-last (byte ∷ []) some apart =
    let other : eqb byte 10 ≡ false = ne_eqb byte 10 (All-head (λ c. c ≢ 10) byte [] apart) in
    rw other refl
lines_of-last (byte ∷ next ∷ text) some apart =
    let other : eqb byte 10 ≡ false = ne_eqb byte 10 (All-head (λ c. c ≢ 10) byte (next ∷ text) apart) in
    let more : lines_of (next ∷ text) ≡ (next ∷ text) ∷ [] = lines_of-last (next ∷ text) (omega arith) (All-tail (λ c. c ≢ 10) byte (next ∷ text) apart) in
    rw other (rw more refl)

-- there are no lines in no text
pub lines_of-nil : lines_of [] ≡ []
unfolding lines_of
lines_of-nil = refl

some_first : (byte : ℕ) (lines : List (List ℕ)) → 0 < length (onto_first byte lines)
some_first byte [] = omega arith
some_first byte (line ∷ lines) = omega arith

-- a text has a line
pub some_line : (text : List ℕ) → 0 < length text → 0 < length (lines_of text)
unfolding lines_of
some_line [] some = absurd (omega arith)
some_line (byte ∷ text) some =
    cond_both (eqb byte 10) ([] ∷ lines_of text) (onto_first byte (lines_of text)) (λ lines. 0 < length lines) (λ _. omega arith) (λ _. some_first byte (lines_of text))

no_space : (bytes : List ℕ) → All (λ byte. byte ≢ 32) bytes → All (λ byte. eqb byte 32 ≡ false) bytes
no_space bytes apart = All-weaker (λ c. c ≢ 32) (λ c. eqb c 32 ≡ false) (λ byte other. ne_eqb byte 32 other) bytes apart

-- where no byte is a space, the line is one word
pub words_of-last : (line : List ℕ) → All (λ byte. byte ≢ 32) line → words_of line ≡ line ∷ []
words_of-last line apart = slice_split_none (λ byte. eqb byte 32) line (no_space line apart)

-- the first word ends at the first space
pub words_of-first : (word rest : List ℕ) → All (λ byte. byte ≢ 32) word → words_of (word ++ 32 ∷ rest) ≡ word ∷ words_of rest
words_of-first word rest apart = slice_split_at (λ byte. eqb byte 32) word 32 rest (no_space word apart) refl

pub ruleset parting = (lines_of-first, lines_of-last, lines_of-nil, words_of-first, words_of-last)
