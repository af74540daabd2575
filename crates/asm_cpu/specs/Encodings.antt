-- What the bytes of an instruction say (MCS6500 Programming Manual).
use Rattle.std.specs.Prelude.{◌≡◌, ℕ, ◌-◌, ◌^◌, ◌<◌, Bool, List, length, Some, All, nat_lt, if◌then◌else◌, ℤ, pos, ◌-ℤ◌}
use Rattle.bit_words.specs.Residues.{residue}
use Rattle.asm_core.specs.Cells.{takes}
use Rattle.cpu_table.specs.declared.instruction.Op.{Op}
use Rattle.cpu_table.specs.declared.instruction.Mode.{Mode}
use Rattle.cpu_table.specs.Decoding.{decoded, length_of}
use Rattle.asm_cpu.specs.Modes.{operand_origin, place_of}

-- bytes are decoded to this operation, mode and operand, and none of them is left
pub record Encodes (bytes : List ℕ) (op : Op) (mode : Mode) (operand : ℕ) : Type 0 where
  pub small : All (λ byte. byte < 256) bytes
  pub whole : length bytes ≡ length_of mode
  pub says : decoded bytes ≡ Some (op, mode, operand)

-- bytes are so decoded, and no others are
pub record AloneEncodes (bytes : List ℕ) (op : Op) (mode : Mode) (operand : ℕ) : Type 0 where
  pub these : Encodes bytes op mode operand
  pub alone : (others : List ℕ) → Encodes others op mode operand → others ≡ bytes

-- the operand of an instruction at an address, for an expression's value: modulo 256 or 65,536 as
-- the mode has one byte or two, and of a branch how far it goes
abbrev pub operand_number : Mode → ℕ → ℤ → ℕ
operand_number mode at value = residue (256 ^ (length_of mode - 1)) (value -ℤ pos (operand_origin mode at))

-- bytes are an instruction of this operation alone
abbrev pub HasOneEncoding : List ℕ → Op → Type 0
HasOneEncoding bytes op = (mode : Mode) × (operand : ℕ) × AloneEncodes bytes op mode operand

-- a byte as a signed number
abbrev pub signed_byte : ℕ → ℤ
signed_byte byte = if nat_lt byte 128 then pos byte else pos byte -ℤ pos 256

-- the value that an operand counts from its origin is in its range
abbrev pub is_taken : Mode → ℕ → ℤ → Bool
is_taken mode at value = takes (place_of mode) (value -ℤ pos (operand_origin mode at))
