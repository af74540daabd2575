-- A text of which so much is kept as there is room for. This project's own.
use Rattle.std.specs.Prelude.{◌≡◌, ℕ, List, [], length, nat_le, if◌then◌else◌}
use Rattle.run_stretch.specs.declared.kept_text.KeptText.{KeptText}

-- a text that fits into some room is kept, and of a longer one nothing
unfoldable pub kept : ℕ → List ℕ → List ℕ
kept room text = if nat_le (length text) room then text else []

-- what is kept of a text, and its length
pub record IsKept (room : ℕ) (text : List ℕ) (t : KeptText) : Type 0 where
  pub limit : t.room ≡ room
  pub bytes : t.bytes.items ≡ kept room text
  pub wanted : t.wanted ≡ length text
