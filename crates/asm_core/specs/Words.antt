-- The words of a line: its tokens, with what they say. This project's own choice.
use Rattle.std.specs.Prelude.{ℕ, ◌==◌, ◌&&◌, Bool, false, not, List, [], ◌∷◌, ◌-◌, map, take, drop, length, Option, Some, None, ◌||◌, codes, slice_range, slice_index_or, unwrap_or, if◌then◌else◌}
use Rattle.std.specs.Char.{is_ascii_digit}
use Rattle.std.specs.List.{filter_map, onto_first}
use Rattle.asm_text.specs.declared.token.Kind.{Kind}
use Rattle.asm_text.specs.declared.token.Kind.TheVariants as kind
use Rattle.asm_text.specs.declared.token.Token.{Token}
use Rattle.asm_text.specs.Numbers.{number_of}
use Rattle.asm_text.specs.Pieces.{is_one_of, is_register, pieces_of, takes_word}
use Rattle.asm_core.specs.declared.word.Word.{Word}
use Rattle.asm_core.specs.declared.word.Word.TheVariants as word

-- what a token of this kind says, whose bytes these are
abbrev pub said : Kind → List ℕ → Word
said kind.Name bytes = word.Name bytes
said kind.Number bytes = word.Number (unwrap_or (number_of bytes) 0)
said kind.Punctuation bytes = word.Mark (slice_index_or bytes 0 0)

-- a number begins with this byte
abbrev pub is_number_byte : ℕ → Bool
is_number_byte byte = is_ascii_digit byte || is_one_of (codes "$%") byte

-- the word that a token is, of which this is the first byte
abbrev pub word_by : ℕ → List ℕ → Word
word_by first piece = if is_number_byte first then word.Number (unwrap_or (number_of piece) 0) else (if takes_word first then word.Name piece else word.Mark first)

-- a blank begins with this byte
abbrev pub is_blank_byte : ℕ → Bool
is_blank_byte byte = is_one_of (32 ∷ 9 ∷ 10 ∷ 13 ∷ []) byte

-- code begins with a blank
abbrev pub begins_blank : List ℕ → Bool
begins_blank [] = false
begins_blank (first ∷ code) = is_blank_byte first

-- the word that a piece of a line is, where it is no blank
abbrev pub piece_word : List ℕ → Option Word
piece_word [] = None
piece_word (first ∷ piece) = if is_blank_byte first then None else Some (word_by first (first ∷ piece))

-- the words of a part of a line's code
unfoldable pub words_in : List ℕ → List Word
words_in code = filter_map piece_word (pieces_of code)

-- the words of a line that has these tokens
abbrev pub words_of : List ℕ → List Token → List Word
words_of line tokens = map (λ token. said token.kind (slice_range line token.start token.end)) tokens

-- a name that may have a value: it stands behind no dot, and is no register
abbrev pub is_plain : List ℕ → Bool
is_plain [] = false
is_plain (first ∷ rest) = not (first == 46) && not (is_register (first ∷ rest))

-- the name that a word is, where it may have a value
abbrev pub plain_name : Word → Option (List ℕ)
plain_name (word.Name name) = if is_plain name then Some name else None
plain_name (word.Number n) = None
plain_name (word.Mark byte) = None

-- the word is this mark
abbrev pub is_mark : ℕ → Word → Bool
is_mark mark (word.Name name) = false
is_mark mark (word.Number n) = false
is_mark mark (word.Mark byte) = byte == mark

-- the first of these words is this mark
abbrev pub begins_with : ℕ → List Word → Bool
begins_with mark [] = false
begins_with mark (w ∷ ws) = is_mark mark w

-- the words before the `)` that ends them
abbrev pub before_close : List Word → Option (List Word)
before_close ws = if begins_with 41 (drop (length ws - 1) ws) then Some (take (length ws - 1) ws) else None

-- the word is a comma
abbrev pub is_comma : Word → Bool
is_comma w = is_mark 44 w

-- the items of a list, which commas part
unfoldable pub items_of : List Word → List (List Word)
items_of [] = [] ∷ []
items_of (w ∷ ws) = if is_comma w then [] ∷ items_of ws else onto_first w (items_of ws)
