-- A text parted after its first LF, and a line parted after its first piece.
use Prim.Native.Nat.{suc}
use Rattle.std.proofs.Common.{◌≡◌, ℕ, ◌+◌, ◌-◌, ◌<◌, ◌≤◌, ◌⊎◌, inl, inr, Bool, true, false, not, eqb, List, [], ◌∷◌, Some, None, length, get_or, take, drop, refl}
use Rattle.std.proofs.Common.{sym, ap, min, add-one, one-add, arith}
use Rattle.std.specs.List.{before_first, position, position_or_len, slice_range}
use Rattle.std.proofs.Math.Seq.{drop-length, take-length}
use Rattle.std.proofs.lemmas.Bool.Decides.{nat_tests}
use Rattle.std.proofs.lemmas.List.{take_all}
use Rattle.asm_text.specs.Lines.{lines_with_ends}
use Rattle.asm_text.specs.Pieces.{ends_line, is_word_byte, joins, pieces_of, takes_word}

-- a test passes or fails
pub bool_cases : (b : Bool) → (b ≡ true) ⊎ (b ≡ false)
bool_cases true = inl refl
bool_cases false = inr refl

-- a place that was found is the first that passes
pub position_some : {X : Type 0} (p : X → Bool) (xs : List X) (n : ℕ) → Some n ≡ position p xs → (n ≡ position_or_len p xs) × (n < length xs)
position_some p xs n found = grind (arith, nat_tests)

-- where none was found, none passes
pub position_none : {X : Type 0} (p : X → Bool) (xs : List X) → None ≡ position p xs → length xs ≤ position_or_len p xs
position_none p xs none = grind (arith, nat_tests)

-- what stands before a place that was found, and all where none was
pub before_first_some : {X : Type 0} (p : X → Bool) (xs : List X) (n : ℕ) → Some n ≡ position p xs → take n xs ≡ before_first p xs
before_first_some p xs n found = ap (λ m. take m xs) (position_some p xs n found).0

pub before_first_none : {X : Type 0} (p : X → Bool) (xs : List X) → None ≡ position p xs → xs ≡ before_first p xs
before_first_none p xs none = sym (take_all (position_or_len p xs) xs (position_none p xs none))

pub ruleset comments = (before_first_some, before_first_none)

-- the length of the first line with its LF
abbrev pub line_len : List ℕ → ℕ
line_len text = min (length text) (position_or_len (λ byte. eqb byte 10) text + 1)

pub lines_with_ends-first : (text : List ℕ) → 0 < length text → lines_with_ends text ≡ take (line_len text) text ∷ lines_with_ends (drop (line_len text) text)
unfolding lines_with_ends
lines_with_ends-first [] some = absurd (omega arith)
lines_with_ends-first (byte ∷ []) some =
    let one : line_len (byte ∷ []) ≡ 1 = omega arith in
    elim (bool_cases (eqb byte 10)) [ inl feed ↦ rw (one, feed) refl | inr other ↦ rw (one, other) refl ]
lines_with_ends-first (byte ∷ next ∷ text) some = elim (bool_cases (eqb byte 10)) [
  | inl feed ↦ let one : line_len (byte ∷ next ∷ text) ≡ 1 = simp feed (omega arith) in rw (one, feed) refl
  | inr other ↦
      let more : line_len (byte ∷ next ∷ text) ≡ suc (line_len (next ∷ text)) = simp other (omega arith) in
      rw (more, other, lines_with_ends-first (next ∷ text) (omega arith)) refl
]

pub lines_found : (text : List ℕ) (n : ℕ) → Some n ≡ position (λ byte. eqb byte 10) text → lines_with_ends text ≡ take (n + 1) text ∷ lines_with_ends (drop (n + 1) text)
lines_found text n found =
    let here = position_some (λ byte. eqb byte 10) text n found in
    let all : line_len text ≡ n + 1 = omega (arith, here.0, here.1) in
    rw all at (lines_with_ends-first text (omega (arith, here.1)))

pub lines_one : (text : List ℕ) → 0 < length text → None ≡ position (λ byte. eqb byte 10) text → lines_with_ends text ≡ text ∷ lines_with_ends []
lines_one text some none =
    let low = position_none (λ byte. eqb byte 10) text none in
    let all : line_len text ≡ length text = omega arith in
    rw (lines_with_ends-first text some, all, take-length, drop-length) refl

-- there are no lines in no text
pub lines_with_ends-nil : lines_with_ends [] ≡ []
unfolding lines_with_ends
lines_with_ends-nil = refl

pub ruleset lines = (lines_found, lines_one)

-- the first piece of code ends with the byte at this place, and no word goes on behind it
pub record IsFirst (code : List ℕ) (n : ℕ) : Type 0 where
  pub within : n < length code
  pub pieces : pieces_of code ≡ take (suc n) code ∷ pieces_of (drop (suc n) code)
  pub ends : suc n < length code → is_word_byte (get_or code n 0) ≡ true → is_word_byte (get_or code (suc n) 0) ≡ false

IsFirst-more : (byte next n : ℕ) (code : List ℕ) → joins byte next ≡ true → IsFirst (next ∷ code) n → IsFirst (byte ∷ next ∷ code) (suc n)
unfolding pieces_of
IsFirst-more byte next n code together first =
    record { within = omega (arith, first.within); pieces = rw (together, first.pieces) refl; ends = λ more. first.ends (omega arith) }

IsFirst-one : (byte next : ℕ) (code : List ℕ) → joins byte next ≡ false → IsFirst (byte ∷ next ∷ code) 0
unfolding pieces_of joins
IsFirst-one byte next code apart = record { within = omega arith; pieces = rw apart refl; ends = λ more word. grind (arith, nat_tests) }

IsFirst-last : (byte : ℕ) → IsFirst (byte ∷ []) 0
unfolding pieces_of
IsFirst-last byte = record { within = omega arith; pieces = refl; ends = λ more. absurd (omega arith) }

pub first_piece : (code : List ℕ) → 0 < length code → (n : ℕ) × IsFirst code n
first_piece [] some = absurd (omega arith)
first_piece (byte ∷ []) some = (0, IsFirst-last byte)
first_piece (byte ∷ next ∷ code) some =
    let rest : (n : ℕ) × IsFirst (next ∷ code) n = first_piece (next ∷ code) (omega arith) in
    elim (bool_cases (joins byte next)) [
      | inl together ↦ (suc rest.0, IsFirst-more byte next rest.0 code together rest.1)
      | inr apart ↦ (0, IsFirst-one byte next code apart)
    ]

-- a word goes on with its bytes, and ends with another
word_first : (byte : ℕ) (rest : List ℕ) → takes_word byte ≡ true → IsFirst (byte ∷ rest) (position_or_len (λ b. not (is_word_byte b)) rest)
unfolding joins
word_first byte [] word = IsFirst-last byte
word_first byte (next ∷ rest) word = elim (bool_cases (is_word_byte next)) [
  | inl on ↦ rw (on, one-add) (IsFirst-more byte next (position_or_len (λ b. not (is_word_byte b)) rest) rest (rw (word, on) refl) (word_first next rest (rw on refl)))
  | inr other ↦ rw other (IsFirst-one byte next rest (grind (arith, nat_tests)))
]

pub word_found : (code : List ℕ) (n : ℕ) → 0 < length code → takes_word (get_or code 0 0) ≡ true → Some n ≡ position (λ b. not (is_word_byte b)) (slice_range code 1 (length code))
    → (take (n + 1) code ∷ pieces_of (drop (n + 1) code) ≡ pieces_of code) × (n + 1 ≤ length code)
word_found [] n some word found = absurd (omega arith)
word_found (byte ∷ rest) n some word found =
    let all : slice_range (byte ∷ rest) 1 (length (byte ∷ rest)) ≡ rest = take_all (length (byte ∷ rest) - 1) rest (omega arith) in
    let here = position_some (λ b. not (is_word_byte b)) rest n (rw all at found) in
    (rw (add-one, here.0) (sym (word_first byte rest word).pieces), omega (arith, here.1))

pub word_whole : (code : List ℕ) → 0 < length code → takes_word (get_or code 0 0) ≡ true → None ≡ position (λ b. not (is_word_byte b)) (slice_range code 1 (length code))
    → take (length code) code ∷ pieces_of (drop (length code) code) ≡ pieces_of code
word_whole [] some word none = absurd (omega arith)
word_whole (byte ∷ rest) some word none =
    let all : slice_range (byte ∷ rest) 1 (length (byte ∷ rest)) ≡ rest = take_all (length (byte ∷ rest) - 1) rest (omega arith) in
    let first = word_first byte rest word in
    let end : position_or_len (λ b. not (is_word_byte b)) rest ≡ length rest = omega (arith, position_none (λ b. not (is_word_byte b)) rest (rw all at none), first.within) in
    sym (rw end at first.pieces)

-- the end of a line
pub pieces-feed : (code : List ℕ) → ends_line code ≡ true → (2 ≤ length code) × (pieces_of code ≡ take 2 code ∷ pieces_of (drop 2 code))
unfolding joins
pieces-feed [] feed = absurd (cc)
pieces-feed (byte ∷ []) feed = absurd (cc)
pieces-feed (byte ∷ next ∷ []) feed = (omega arith, (IsFirst-more byte next 0 [] (grind (arith, nat_tests)) (IsFirst-last next)).pieces)
pieces-feed (byte ∷ next ∷ third ∷ code) feed =
    (omega arith, (IsFirst-more byte next 0 (third ∷ code) (grind (arith, nat_tests)) (IsFirst-one next third code (grind (arith, nat_tests)))).pieces)

-- a byte that no other follows in its piece
pub pieces-lone : (code : List ℕ) → 0 < length code → takes_word (get_or code 0 0) ≡ false → ends_line code ≡ false → pieces_of code ≡ take 1 code ∷ pieces_of (drop 1 code)
unfolding pieces_of joins
pieces-lone [] some lone other = absurd (omega arith)
pieces-lone (byte ∷ []) some lone other = refl
pieces-lone (byte ∷ next ∷ code) some lone other = rw (lone, other) refl

pub ruleset pieces = (word_found, word_whole, pieces-feed, pieces-lone)
