-- The files of a shelf in memory: of several under one name the last counts.
use Rattle.std.specs.Prelude.{ℕ, List, reverse, bytes_eq, find}
use Rattle.std.specs.Option.{option_map}
use Rattle.outside_io.specs.Shelf.{Files, Kept}

-- the bytes of the last file of a name
unfoldable pub content_of : List Kept → Files
content_of files name = option_map (λ file. file.1) (find (λ file. bytes_eq file.0 name) (reverse files))

-- A list of files in memory: the files, how many more it has memory for, and how many bytes one of
-- those may have with its name.
pub record FileListValue : Type 0 where
  pub files : List Kept
  pub left : ℕ
  pub room : ℕ
