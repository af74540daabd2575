-- How the bytes of a request are read. This project's own.
use Rattle.std.specs.Prelude.{ℕ, zero, suc, ◌==◌, nat_le, if◌then◌else◌, List, [], ◌∷◌, ◌++◌, length, take, drop}
use Rattle.std.specs.Prelude.{Option, Some, None, option_and_then, option_map, Result, Ok, Err}
use Rattle.std.specs.Int.{w64, from_le_bytes}
use Rattle.std.specs.Str.{is_utf8}
use Rattle.outside_io.specs.Shelf.{Kept}

-- the words of a command line, and named files
pub record Request : Type 0 where
  pub words : List (List ℕ)
  pub files : List Kept

-- a number of eight bytes, the lowest first, and the bytes after it
abbrev pub number_read : List ℕ → Option (ℕ × List ℕ)
number_read bytes = if nat_le 8 (length bytes) then Some (from_le_bytes w64 (take 8 bytes), drop 8 bytes) else None

-- a piece behind the number of its bytes, and the bytes after it
abbrev pub sized_read : List ℕ → Option (List ℕ × List ℕ)
sized_read bytes =
    option_and_then (λ found. if nat_le found.0 (length found.1) then Some (take found.0 found.1, drop found.0 found.1) else None) (number_read bytes)

-- such a piece that is UTF-8
abbrev pub text_read : List ℕ → Option (List ℕ × List ℕ)
text_read bytes = option_and_then (λ found. if is_utf8 found.0 then Some found else None) (sized_read bytes)

-- a file: its name, which is UTF-8, and its content
abbrev pub file_read : List ℕ → Option (Kept × List ℕ)
file_read bytes = option_and_then (λ name. option_map (λ content. ((name.0, content.0), content.1)) (sized_read name.1)) (text_read bytes)

-- what comes next, where something was read; else how many bytes stand there
abbrev pub after_read : {A B : Type 0} → ℕ → Option A → (A → Result B ℕ) → Result B ℕ
after_read left None next = Err left
after_read left (Some found) next = next found

-- the same where several were
abbrev pub after_all : {A B : Type 0} → Result A ℕ → (A → Result B ℕ) → Result B ℕ
after_all (Ok found) next = next found
after_all (Err left) next = Err left

-- these in front of the others
abbrev pub in_front : {A : Type 0} → List A → Result (List A × List ℕ) ℕ → Result (List A × List ℕ) ℕ
in_front first (Ok others) = Ok (first ++ others.0, others.1)
in_front first (Err left) = Err left

-- so many of a kind, one after the other, and the bytes after them; or how many bytes stand where
-- the first begins that isn't well formed
unfoldable pub pieces_read : {A : Type 0} → (List ℕ → Option (A × List ℕ)) → ℕ → List ℕ → Result (List A × List ℕ) ℕ
pieces_read read zero bytes = Ok ([], bytes)
pieces_read read (suc n) bytes = after_read (length bytes) (read bytes) (λ found. in_front (found.0 ∷ []) (pieces_read read n found.1))

-- a request of these words, where nothing stands after its files
abbrev pub request_of : List (List ℕ) → List Kept × List ℕ → Result Request ℕ
request_of words files = if length files.1 == 0 then Ok (record { words = words; files = files.0 }) else Err (length files.1)

-- so many words, so many files, and nothing more
abbrev pub parts_read : ℕ → ℕ → List ℕ → Result Request ℕ
parts_read word_count file_count bytes =
    after_all (pieces_read text_read word_count bytes) (λ words.
    after_all (pieces_read file_read file_count words.1) (λ files. request_of words.0 files))

-- a request: how many words and how many files, and then these; or how many bytes stand where it
-- isn't well formed
unfoldable pub request_read : List ℕ → Result Request ℕ
request_read bytes =
    after_read (length bytes) (number_read bytes) (λ word_count.
    after_read (length word_count.1) (number_read word_count.1) (λ file_count.
    parts_read word_count.0 file_count.0 file_count.1))
