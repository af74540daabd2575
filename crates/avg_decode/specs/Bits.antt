-- Fields of a word.
use Rattle.std.specs.Prelude.{ℕ, ◌*◌, ◌/◌, ◌%◌, ◌^◌, nat_lt, if◌then◌else◌, ℤ, pos, ◌-ℤ◌}

-- the number in some bits of a word: the lowest of them, and how many there are
abbrev pub field : ℕ → ℕ → ℕ → ℕ
field w low width = w / 2 ^ low % 2 ^ width

-- the signed number in a field, whose highest bit counts `sign` and is a minus (two's complement)
abbrev pub signed : ℕ → ℕ → ℤ
signed sign n = if nat_lt n sign then pos n else pos n -ℤ pos (2 * sign)
