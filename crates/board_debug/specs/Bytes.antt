-- Bytes as a debugger shows them. This project's own choice.
use Rattle.std.specs.Prelude.{ℕ, ◌+◌, ◌-◌, ◌*◌, ◌/◌, ◌%◌, List, [], ◌∷◌, ◌++◌, map, min, codes, Option, Some, None}
use Rattle.std.specs.List.{flat_map, range_with_len}
use Rattle.text_line.specs.Words.{hex_byte}
use Rattle.board_debug.specs.Columns.{address_head}
use Rattle.board_debug.specs.declared.mem.TheConstants.{ROW}

-- what can be seen of a memory: the byte at each address, or none
abbrev pub Seen : Type 0
Seen = ℕ → Option ℕ

-- the address so many bytes further; the first comes after FFFF
abbrev pub further : ℕ → ℕ → ℕ
further address n = (address + n) % 65536

-- a byte, or a mark where it can't be seen
abbrev pub byte_text : Option ℕ → List ℕ
byte_text None = codes "--"
byte_text (Some byte) = hex_byte byte

-- so many bytes from an address on
abbrev pub bytes_from : Seen → ℕ → ℕ → List (Option ℕ)
bytes_from seen address count = map (λ i. seen (further address i)) (range_with_len 0 count)

-- a line: its first address, and each byte behind a blank
abbrev pub mem_line : ℕ → List (Option ℕ) → List ℕ
mem_line address bytes = (address_head address ++ flat_map (λ byte. 32 ∷ byte_text byte) bytes) ++ 10 ∷ []

-- so many bytes in lines of sixteen, of which the last may be shorter
abbrev pub mem_text : Seen → ℕ → ℕ → List ℕ
mem_text seen address count =
    flat_map (λ k. mem_line (further address (ROW * k)) (bytes_from seen (further address (ROW * k)) (min ROW (count - ROW * k))))
    (range_with_len 0 ((count + (ROW - 1)) / ROW))
