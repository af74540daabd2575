-- Instructions of the processor as a debugger shows them (MCS6500 Programming Manual, its notation
-- of operands).
use Rattle.std.specs.Prelude.{ℕ, ◌+◌, List, [], ◌∷◌, ◌++◌, take, nat_lt, codes, Option, Some, None, zero, suc, if◌then◌else◌}
use Rattle.std.specs.List.{flat_map}
use Rattle.std.specs.Option.{option_map_or}
use Rattle.asm_cpu.specs.Mnemonics.{name_of}
use Rattle.cpu_table.specs.declared.instruction.Op.{Op}
use Rattle.cpu_table.specs.declared.instruction.Mode.{Mode}
use Rattle.cpu_table.specs.declared.instruction.Mode.TheVariants.{Implied, Accumulator, Immediate, ZeroPage, ZeroPageX, ZeroPageY, Absolute, AbsoluteX, AbsoluteY, Indirect}
use Rattle.cpu_table.specs.declared.instruction.Mode.TheVariants.{IndirectX, IndirectY, Relative}
use Rattle.cpu_table.specs.Decoding.{decoded, length_of}
use Rattle.text_line.specs.Words.{hex_byte, hex_word}
use Rattle.board_debug.specs.Bytes.{Seen, further}
use Rattle.board_debug.specs.Columns.{listed}

-- where a branch goes: its byte counts from the next instruction, and from 80 on it is a minus
-- (two's complement)
abbrev pub target_of : ℕ → ℕ → ℕ
target_of address byte = further address (2 + byte + (if nat_lt byte 128 then 0 else 0xFF00))

-- the operand of an instruction at an address, behind its name
abbrev pub operand_text : ℕ → Mode → ℕ → List ℕ
operand_text address Implied n = []
operand_text address Accumulator n = codes " a"
operand_text address Immediate n = codes " #$" ++ hex_byte n
operand_text address ZeroPage n = codes " $" ++ hex_byte n
operand_text address ZeroPageX n = codes " $" ++ (hex_byte n ++ codes ",x")
operand_text address ZeroPageY n = codes " $" ++ (hex_byte n ++ codes ",y")
operand_text address Absolute n = codes " $" ++ hex_word n
operand_text address AbsoluteX n = codes " $" ++ (hex_word n ++ codes ",x")
operand_text address AbsoluteY n = codes " $" ++ (hex_word n ++ codes ",y")
operand_text address Indirect n = codes " ($" ++ (hex_word n ++ codes ")")
operand_text address IndirectX n = codes " ($" ++ (hex_byte n ++ codes ",x)")
operand_text address IndirectY n = codes " ($" ++ (hex_byte n ++ codes "),y")
operand_text address Relative n = codes " $" ++ hex_word (target_of address n)

-- bytes, each before a blank
abbrev pub bytes_text : List ℕ → List ℕ
bytes_text bytes = flat_map (λ byte. hex_byte byte ++ 32 ∷ []) bytes

-- the first of some bytes, or the mark where there is none
abbrev pub first_text : List ℕ → List ℕ
first_text [] = codes "-- "
first_text (byte ∷ bytes) = hex_byte byte ++ 32 ∷ []

-- the line of what some bytes at an address are decoded to: an instruction with its bytes, or else
-- one byte
abbrev pub instruction_line : ℕ → List ℕ → Option (Op × Mode × ℕ) → List ℕ
instruction_line address bytes None = listed address 9 (first_text bytes) (codes "???")
instruction_line address bytes (Some (op, mode, n)) =
    listed address 9 (bytes_text (take (length_of mode) bytes)) (name_of op ++ operand_text address mode n)

abbrev pub dis_line : ℕ → List ℕ → List ℕ
dis_line address bytes = instruction_line address bytes (decoded bytes)

-- how many bytes it shows
abbrev pub dis_size : List ℕ → ℕ
dis_size bytes = option_map_or (λ instruction. length_of instruction.1) (decoded bytes) 1

-- the bytes from an address on, so many at most, up to the first that can't be seen
unfoldable pub readable : Seen → ℕ → ℕ → List ℕ
readable seen address zero = []
readable seen address (suc most) = option_map_or (λ byte. byte ∷ readable seen (further address 1) most) (seen address) []

-- so many instructions from an address on
unfoldable pub dis_text : Seen → ℕ → ℕ → List ℕ
dis_text seen address zero = []
dis_text seen address (suc count) =
    let bytes = readable seen address 3 in
    dis_line address bytes ++ dis_text seen (further address (dis_size bytes)) count
