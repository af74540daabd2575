-- The addressing mode of an operand, and the values that it takes. This project's own choice.
use Rattle.std.specs.Prelude.{ℕ, ◌+◌, Bool, false, ◌&&◌, is_some, if◌then◌else◌, pos, neg_ℤ, int_le}
use Rattle.std.specs.Option.{option_map_or}
use Rattle.asm_core.specs.declared.cell.Place.{Place}
use Rattle.asm_core.specs.declared.expression.Expression.{Expression}
use Rattle.asm_core.specs.Expressions.{NameValues, value_of}
use Rattle.cpu_table.specs.declared.instruction.Op.{Op}
use Rattle.cpu_table.specs.declared.instruction.Mode.{Mode}
use Rattle.cpu_table.specs.declared.instruction.Mode.TheVariants.{Implied, Accumulator, Immediate, ZeroPage, ZeroPageX, ZeroPageY, Absolute}
use Rattle.cpu_table.specs.declared.instruction.Mode.TheVariants.{AbsoluteX, AbsoluteY, Indirect, IndirectX, IndirectY, Relative}
use Rattle.cpu_table.specs.Opcodes.{opcode_of}
use Rattle.asm_cpu.specs.declared.operand.Shape.{Shape}
use Rattle.asm_cpu.specs.declared.operand.Shape.TheVariants as shape

-- an operation has a mode
abbrev pub has_mode : Op → Mode → Bool
has_mode op mode = is_some (opcode_of op mode)

-- all names of an expression stand on earlier lines, and its value is 0 to 255
abbrev pub is_short : NameValues → Expression → Bool
is_short names e = option_map_or (λ value. int_le (pos 0) value && int_le value (pos 255)) (value_of names e) false

-- the mode with an address of one byte, where the operation has it and the address is short; else
-- the one with an address of two bytes, where the operation has that
abbrev pub by_length : NameValues → Op → Expression → Mode → Mode → Mode
by_length names op e short long = if has_mode op short && is_short names e then short else (if has_mode op long then long else short)

-- the mode of an operation with an operand, under the names of earlier lines
unfoldable pub mode_of : NameValues → Op → Shape → Expression → Mode
mode_of names op shape.Immediate e = Immediate
mode_of names op shape.Direct e = if has_mode op Relative then Relative else by_length names op e ZeroPage Absolute
mode_of names op shape.IndexedX e = by_length names op e ZeroPageX AbsoluteX
mode_of names op shape.IndexedY e = by_length names op e ZeroPageY AbsoluteY
mode_of names op shape.Indirect e = Indirect
mode_of names op shape.IndirectX e = IndirectX
mode_of names op shape.IndirectY e = IndirectY

-- a byte behind the opcode, signed or not
abbrev pub byte_place : Place
byte_place = record { low = neg_ℤ (pos 128); high = pos 255; even = false; bits = 8; shift = 8 }

-- an address of the zero page behind the opcode
abbrev pub zero_page_place : Place
zero_page_place = record { low = pos 0; high = pos 255; even = false; bits = 8; shift = 8 }

-- how far a branch goes, behind the opcode
abbrev pub branch_place : Place
branch_place = record { low = neg_ℤ (pos 128); high = pos 127; even = false; bits = 8; shift = 8 }

-- an address behind the opcode
abbrev pub address_place : Place
address_place = record { low = pos 0; high = pos 65535; even = false; bits = 16; shift = 8 }

-- the place of the operand, in a mode that has one; the first two have none, and nothing asks for
-- it
abbrev pub place_of : Mode → Place
place_of Implied = zero_page_place
place_of Accumulator = zero_page_place
place_of Immediate = byte_place
place_of ZeroPage = zero_page_place
place_of ZeroPageX = zero_page_place
place_of ZeroPageY = zero_page_place
place_of Absolute = address_place
place_of AbsoluteX = address_place
place_of AbsoluteY = address_place
place_of Indirect = address_place
place_of IndirectX = zero_page_place
place_of IndirectY = zero_page_place
place_of Relative = branch_place

-- what the operand counts from: a branch from the next instruction's address
abbrev pub operand_origin : Mode → ℕ → ℕ
operand_origin Relative at = at + 2
operand_origin _ at = 0
