-- Instructions as bytes: their lengths, and how they are decoded.
use Rattle.std.specs.Prelude.{ℕ, ◌+◌, ◌*◌, ◌-◌, nat_lt, List, [], ◌∷◌, length, take, Option, Some, None, if◌then◌else◌}
use Rattle.cpu_table.specs.declared.instruction.Op.{Op}
use Rattle.cpu_table.specs.declared.instruction.Mode.{Mode}
use Rattle.cpu_table.specs.declared.instruction.Mode.TheVariants.{Implied, Accumulator, Absolute, AbsoluteX, AbsoluteY, Indirect}
use Rattle.cpu_table.specs.Opcodes.{row_of}

-- how many bytes an instruction in this mode has, its opcode among them; BRK counts as one byte
-- (MCS6500 Programming Manual)
abbrev pub length_of : Mode → ℕ
length_of Implied = 1
length_of Accumulator = 1
length_of Absolute = 3
length_of AbsoluteX = 3
length_of AbsoluteY = 3
length_of Indirect = 3
length_of _ = 2

-- the number whose bytes these are, the lowest first
abbrev pub little_endian : List ℕ → ℕ
little_endian [] = 0
little_endian (byte ∷ bytes) = byte + 256 * little_endian bytes

-- the instruction of a row of the table, with the operand from the bytes after its opcode; none
-- where there are too few of them
abbrev pub decoded_row : List ℕ → Option (Op × Mode) → Option (Op × Mode × ℕ)
decoded_row rest None = None
decoded_row rest (Some row) =
    if nat_lt (length rest) (length_of row.1 - 1)
    then None
    else Some (row.0, row.1, little_endian (take (length_of row.1 - 1) rest))

-- the instruction at the start of some bytes; none where there is no byte, or where the first is
-- undocumented
abbrev pub decoded : List ℕ → Option (Op × Mode × ℕ)
decoded [] = None
decoded (opcode ∷ rest) = decoded_row rest (row_of opcode)
