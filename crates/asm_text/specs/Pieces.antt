-- The pieces of a line, and which of them are tokens. This project's own choice.
use Rattle.std.specs.Prelude.{ℕ, ◌==◌, ◌&&◌, ◌||◌, Bool, false, not, List, [], ◌∷◌, length, Option, Some, None, Result, Ok, Err, is_some, nat_le, bytes_eq, codes, if◌then◌else◌}
use Rattle.std.specs.List.{list_all, list_any, onto_first}
use Rattle.std.specs.Char.{is_ascii_alphabetic, is_ascii_alphanumeric, is_ascii_digit}
use Rattle.asm_text.specs.declared.fault.AsmCause.{AsmCause}
use Rattle.asm_text.specs.declared.fault.AsmCause.TheVariants.{BadToken, BadNumber}
use Rattle.asm_text.specs.declared.token.Kind.{Kind}
use Rattle.asm_text.specs.declared.token.Kind.TheVariants.{Name, Number, Punctuation}
use Rattle.asm_text.specs.Numbers.{number_of}

-- the byte is one of these
abbrev pub is_one_of : List ℕ → ℕ → Bool
is_one_of bytes byte = list_any (λ one. byte == one) bytes

-- a word byte: a letter, a digit or `_`
abbrev pub is_word_byte : ℕ → Bool
is_word_byte byte = is_ascii_alphanumeric byte || byte == 95

-- a letter, a digit or `_` behind this byte belongs to its piece: behind another of these, and
-- behind `$`, `%` or `.`
abbrev pub takes_word : ℕ → Bool
takes_word byte = is_word_byte byte || is_one_of (codes "$%.") byte

-- code begins with CR and LF
abbrev pub ends_line : List ℕ → Bool
ends_line [] = false
ends_line (byte ∷ []) = false
ends_line (byte ∷ next ∷ code) = byte == 13 && next == 10

-- two neighbours are of one piece: a letter, a digit or `_` after another or after `$`, `%` or `.`,
-- and LF after CR
unfoldable pub joins : ℕ → ℕ → Bool
joins before byte = (takes_word before && is_word_byte byte) || (before == 13 && byte == 10)

-- the pieces of a line: they end where two neighbours aren't of one piece
unfoldable pub pieces_of : List ℕ → List (List ℕ)
pieces_of [] = []
pieces_of (byte ∷ []) = (byte ∷ []) ∷ []
pieces_of (byte ∷ next ∷ code) = if joins byte next then onto_first byte (pieces_of (next ∷ code)) else (byte ∷ []) ∷ pieces_of (next ∷ code)

-- the blanks are a space, a tab, LF, and CR with LF
abbrev pub is_blank : List ℕ → Bool
is_blank piece = list_any (λ blank. bytes_eq blank piece) ((32 ∷ []) ∷ (9 ∷ []) ∷ (10 ∷ []) ∷ (13 ∷ 10 ∷ []) ∷ [])

-- a mark is one byte
abbrev pub is_mark : List ℕ → Bool
is_mark (byte ∷ []) = is_one_of (codes ":=#(),<>+-") byte
is_mark _ = false

-- the words `a`, `x` and `y` of either case
abbrev pub is_register : List ℕ → Bool
is_register (byte ∷ []) = is_one_of (codes "aAxXyY") byte
is_register _ = false

-- a letter or `_`
abbrev pub is_name_start : ℕ → Bool
is_name_start byte = is_ascii_alphabetic byte || byte == 95

-- a name has such a first byte, word bytes after it, and 32 bytes at most
abbrev pub is_name : List ℕ → Bool
is_name [] = false
is_name (first ∷ rest) = is_name_start first && list_all is_word_byte rest && nat_le (length (first ∷ rest)) 32

-- a `.` with a name after it, which `a`, `x` and `y` are not
abbrev pub is_dotted_name : List ℕ → Bool
is_dotted_name [] = false
is_dotted_name (first ∷ name) = first == 46 && is_name name && not (is_register name)

-- a number begins with a digit, `$` or `%`
abbrev pub is_number_start : List ℕ → Bool
is_number_start [] = false
is_number_start (first ∷ rest) = is_ascii_digit first || is_one_of (codes "$%") first

-- the kind of a piece, none for a blank, or what is wrong with it
unfoldable pub kind_of : List ℕ → Result (Option Kind) AsmCause
kind_of piece =
    if is_blank piece then Ok None
    else (if is_mark piece then Ok (Some Punctuation)
    else (if is_name piece || is_dotted_name piece then Ok (Some Name)
    else (if not (is_number_start piece) then Err BadToken
    else (if is_some (number_of piece) then Ok (Some Number) else Err BadNumber))))
