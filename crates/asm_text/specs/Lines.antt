-- The lines of a source, and their comments. This project's own choice.
use Rattle.std.specs.Prelude.{ℕ, ◌==◌, List, [], ◌∷◌, count_by, if◌then◌else◌}
use Rattle.std.specs.List.{before_first, onto_first}

-- the lines of a text, each with the LF that ends it, which may be missing after the last
unfoldable pub lines_with_ends : List ℕ → List (List ℕ)
lines_with_ends [] = []
lines_with_ends (byte ∷ text) = if byte == 10 then (byte ∷ []) ∷ lines_with_ends text else onto_first byte (lines_with_ends text)

-- what stands on a line before its comment, which begins at the first `;`
abbrev pub code_of : List ℕ → List ℕ
code_of line = before_first (λ byte. byte == 59) line

-- how many LFs these bytes have
abbrev pub line_feeds : List ℕ → ℕ
line_feeds bytes = count_by (λ byte. byte == 10) bytes
