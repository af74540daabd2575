-- Numbers, pieces, names and files as bytes. This project's own.
use Rattle.std.specs.Prelude.{ℕ, ◌^◌, ◌<◌, List, ◌++◌, length, flat_map, All}
use Rattle.std.specs.Int.{w64, to_le_bytes}
use Rattle.std.specs.Str.{IsUtf8}
use Rattle.outside_io.specs.Shelf.{Kept}

-- a number as eight bytes, the lowest first
abbrev pub number_bytes : ℕ → List ℕ
number_bytes n = to_le_bytes w64 n

-- bytes behind their number
unfoldable pub sized : List ℕ → List ℕ
sized bytes = number_bytes (length bytes) ++ bytes

-- a name and bytes
unfoldable pub named : Kept → List ℕ
named file = sized file.0 ++ sized file.1

-- the bytes of all, without their names
unfoldable pub all_bytes : List Kept → List ℕ
all_bytes pieces = flat_map (λ piece. piece.1) pieces

-- files or stores, in order
unfoldable pub all_named : List Kept → List ℕ
all_named files = flat_map named files

-- a request: how many words, how many files, the words and the files
unfoldable pub request_bytes : List (List ℕ) → List Kept → List ℕ
request_bytes words files =
    number_bytes (length words) ++ (number_bytes (length files) ++ (flat_map sized words ++ all_named files))

-- a text that a request can have: UTF-8, of a length that 8 bytes can tell
pub record IsWord (text : List ℕ) : Type 0 where
  pub utf8 : IsUtf8 text
  pub short : length text < 2 ^ 64

-- a file that a request can have
pub record IsFile (file : Kept) : Type 0 where
  pub named : IsWord file.0
  pub short : length file.1 < 2 ^ 64

-- words and files that a request can have
pub record AreWritable (words : List (List ℕ)) (files : List Kept) : Type 0 where
  pub all_words : All IsWord words
  pub all_files : All IsFile files
  pub few_words : length words < 2 ^ 64
  pub few_files : length files < 2 ^ 64
