-- Where the tokens of a text stand. This project's own choice.
use Rattle.std.specs.Prelude.{◌≡◌, ℕ, ◌+◌, ◌-◌, ◌<◌, ◌≤◌, List, [], ◌∷◌, length, take, true, false, Some, Ok, Err, slice_index, slice_range, All, Any, IsTrue, ◌⊎◌}
use Rattle.asm_text.specs.declared.fault.AsmCause.{AsmCause}
use Rattle.asm_text.specs.declared.fault.AsmFault.{AsmFault}
use Rattle.asm_text.specs.declared.fault.AsmFault.TheVariants.{TooLong, Line, OutOfMemory}
use Rattle.asm_text.specs.declared.token.Token.{Token}
use Rattle.asm_text.specs.Lines.{line_feeds}
use Rattle.asm_text.specs.Pieces.{is_one_of, is_word_byte, kind_of}

-- a token is a slice of a text, of one byte or more, that has the token's kind
pub record IsSliceOf (text : List ℕ) (token : Token) : Type 0 where
  pub some : token.start < token.end
  pub within : token.end ≤ length text
  pub kind : kind_of (slice_range text token.start token.end) ≡ Ok (Some token.kind)

-- a place of a text lies in a comment, which a `;` began on its line
abbrev pub IsInComment : List ℕ → ℕ → Type 0
IsInComment text place = (start : ℕ) × (start ≤ place) × (slice_index text start ≡ 59) × (line_feeds (take start text) ≡ line_feeds (take place text))

-- no letter, digit or `_` stands directly after another one that ends here
abbrev pub EndsWord : List ℕ → ℕ → Type 0
EndsWord text end = end < length text → is_word_byte (slice_index text (end - 1)) ≡ true → is_word_byte (slice_index text end) ≡ false

-- a token of a text is a slice with its kind, to which no further letter, digit or `_` belongs, and
-- lies in no comment
pub record IsTokenOf (text : List ℕ) (token : Token) : Type 0 where
  pub slice : IsSliceOf text token
  pub ends : EndsWord text token.end
  pub outside : ¬ IsInComment text token.start

-- a token's line is one more than the number of the LFs before it
abbrev pub IsNumbered : List ℕ → Token → Type 0
IsNumbered text token = token.line ≡ 1 + line_feeds (take token.start text)

-- tokens of a text that stand one after another, from one place up to another
abbrev pub StandIn : List ℕ → ℕ → ℕ → List Token → Type 0
StandIn text from to [] = from ≤ to
StandIn text from to (token ∷ tokens) = (from ≤ token.start) × IsSliceOf text token × StandIn text token.end to tokens

-- a token has a byte or more, and ends at this place or before it
abbrev pub EndsBy : ℕ → Token → Type 0
EndsBy place token = (token.start < token.end) × (token.end ≤ place)

-- a place of a text lies in a token, has a blank, or lies in a comment
abbrev pub IsAccounted : List ℕ → List Token → ℕ → Type 0
IsAccounted text tokens place =
    Any (λ token. (token.start ≤ place) × (place < token.end)) tokens ⊎ (IsTrue (is_one_of (32 ∷ 9 ∷ 10 ∷ 13 ∷ []) (slice_index text place)) ⊎ IsInComment text place)

-- a text is refused for a piece of this line, which is bad for this cause: before it stand tokens,
-- blanks and comments alone, no further letter, digit or `_` belongs to it, and it lies in no
-- comment
pub record Refuses (text : List ℕ) (number : ℕ) (cause : AsmCause) : Type 0 where
  pub place : ℕ
  pub end : ℕ
  pub before : List Token
  pub spans : StandIn text 0 place before
  pub each : All (IsTokenOf text) before
  pub all : (k : ℕ) → k < place → IsAccounted text before k
  pub some : place < end
  pub within : end ≤ length text
  pub bad : kind_of (slice_range text place end) ≡ Err cause
  pub ends : EndsWord text end
  pub outside : ¬ IsInComment text place
  pub line : number ≡ 1 + line_feeds (take place text)

-- what a fault says of a text's pieces
abbrev pub Refused : List ℕ → AsmFault → Type 0
Refused text (Line line cause) = Refuses text line cause
Refused text TooLong = Unit {0}
Refused text OutOfMemory = Unit {0}
