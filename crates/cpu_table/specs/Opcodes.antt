-- The opcode table.
use denote.Enum.Bare.{sameb}
use Rattle.std.specs.Prelude.{ℕ, ◌==◌, Bool, ◌&&◌, List, [], ◌∷◌, Option, Some, None, if◌then◌else◌}
use Rattle.cpu_table.specs.contracts.instruction.Op as op_contracts
use Rattle.cpu_table.specs.contracts.instruction.Mode as mode_contracts
use Rattle.cpu_table.specs.declared.instruction.Op.{Op}
use Rattle.cpu_table.specs.declared.instruction.Op.TheVariants.{Adc, And, Asl, Bcc, Bcs, Beq, Bit, Bmi, Bne, Bpl, Brk, Bvc, Bvs, Clc, Cld}
use Rattle.cpu_table.specs.declared.instruction.Op.TheVariants.{Cli, Clv, Cmp, Cpx, Cpy, Dec, Dex, Dey, Eor, Inc, Inx, Iny, Jmp, Jsr}
use Rattle.cpu_table.specs.declared.instruction.Op.TheVariants.{Lda, Ldx, Ldy, Lsr, Nop, Ora, Pha, Php, Pla, Plp, Rol, Ror, Rti, Rts, Sbc, Sec, Sed, Sei, Sta, Stx, Sty, Tax, Tay, Tsx, Txa, Txs, Tya}
use Rattle.cpu_table.specs.declared.instruction.Mode.{Mode}
use Rattle.cpu_table.specs.declared.instruction.Mode.TheVariants.{Implied, Accumulator, Immediate, ZeroPage, ZeroPageX, ZeroPageY, Absolute}
use Rattle.cpu_table.specs.declared.instruction.Mode.TheVariants.{AbsoluteX, AbsoluteY, Indirect, IndirectX, IndirectY, Relative}

-- the documented instructions of the 6502, each with its opcode, its operation and its addressing
-- mode (MCS6500 Programming Manual, its list of instructions)
abbrev pub opcode_table : List (ℕ × Op × Mode)
opcode_table =
    (0x69, Adc, Immediate) ∷ (0x65, Adc, ZeroPage) ∷ (0x75, Adc, ZeroPageX) ∷
    (0x6D, Adc, Absolute) ∷ (0x7D, Adc, AbsoluteX) ∷ (0x79, Adc, AbsoluteY) ∷
    (0x61, Adc, IndirectX) ∷ (0x71, Adc, IndirectY) ∷
    (0x29, And, Immediate) ∷ (0x25, And, ZeroPage) ∷ (0x35, And, ZeroPageX) ∷
    (0x2D, And, Absolute) ∷ (0x3D, And, AbsoluteX) ∷ (0x39, And, AbsoluteY) ∷
    (0x21, And, IndirectX) ∷ (0x31, And, IndirectY) ∷
    (0xC9, Cmp, Immediate) ∷ (0xC5, Cmp, ZeroPage) ∷ (0xD5, Cmp, ZeroPageX) ∷
    (0xCD, Cmp, Absolute) ∷ (0xDD, Cmp, AbsoluteX) ∷ (0xD9, Cmp, AbsoluteY) ∷
    (0xC1, Cmp, IndirectX) ∷ (0xD1, Cmp, IndirectY) ∷
    (0x49, Eor, Immediate) ∷ (0x45, Eor, ZeroPage) ∷ (0x55, Eor, ZeroPageX) ∷
    (0x4D, Eor, Absolute) ∷ (0x5D, Eor, AbsoluteX) ∷ (0x59, Eor, AbsoluteY) ∷
    (0x41, Eor, IndirectX) ∷ (0x51, Eor, IndirectY) ∷
    (0xA9, Lda, Immediate) ∷ (0xA5, Lda, ZeroPage) ∷ (0xB5, Lda, ZeroPageX) ∷
    (0xAD, Lda, Absolute) ∷ (0xBD, Lda, AbsoluteX) ∷ (0xB9, Lda, AbsoluteY) ∷
    (0xA1, Lda, IndirectX) ∷ (0xB1, Lda, IndirectY) ∷
    (0x09, Ora, Immediate) ∷ (0x05, Ora, ZeroPage) ∷ (0x15, Ora, ZeroPageX) ∷
    (0x0D, Ora, Absolute) ∷ (0x1D, Ora, AbsoluteX) ∷ (0x19, Ora, AbsoluteY) ∷
    (0x01, Ora, IndirectX) ∷ (0x11, Ora, IndirectY) ∷
    (0xE9, Sbc, Immediate) ∷ (0xE5, Sbc, ZeroPage) ∷ (0xF5, Sbc, ZeroPageX) ∷
    (0xED, Sbc, Absolute) ∷ (0xFD, Sbc, AbsoluteX) ∷ (0xF9, Sbc, AbsoluteY) ∷
    (0xE1, Sbc, IndirectX) ∷ (0xF1, Sbc, IndirectY) ∷
    (0x85, Sta, ZeroPage) ∷ (0x95, Sta, ZeroPageX) ∷ (0x8D, Sta, Absolute) ∷
    (0x9D, Sta, AbsoluteX) ∷ (0x99, Sta, AbsoluteY) ∷ (0x81, Sta, IndirectX) ∷
    (0x91, Sta, IndirectY) ∷
    (0xA0, Ldy, Immediate) ∷ (0xA4, Ldy, ZeroPage) ∷ (0xB4, Ldy, ZeroPageX) ∷
    (0xAC, Ldy, Absolute) ∷ (0xBC, Ldy, AbsoluteX) ∷
    (0xE0, Cpx, Immediate) ∷ (0xE4, Cpx, ZeroPage) ∷ (0xEC, Cpx, Absolute) ∷
    (0xC0, Cpy, Immediate) ∷ (0xC4, Cpy, ZeroPage) ∷ (0xCC, Cpy, Absolute) ∷
    (0x24, Bit, ZeroPage) ∷ (0x2C, Bit, Absolute) ∷
    (0x84, Sty, ZeroPage) ∷ (0x94, Sty, ZeroPageX) ∷ (0x8C, Sty, Absolute) ∷
    (0xE6, Inc, ZeroPage) ∷ (0xF6, Inc, ZeroPageX) ∷ (0xEE, Inc, Absolute) ∷
    (0xFE, Inc, AbsoluteX) ∷
    (0xC6, Dec, ZeroPage) ∷ (0xD6, Dec, ZeroPageX) ∷ (0xCE, Dec, Absolute) ∷
    (0xDE, Dec, AbsoluteX) ∷
    (0xA2, Ldx, Immediate) ∷ (0xA6, Ldx, ZeroPage) ∷ (0xB6, Ldx, ZeroPageY) ∷
    (0xAE, Ldx, Absolute) ∷ (0xBE, Ldx, AbsoluteY) ∷
    (0x86, Stx, ZeroPage) ∷ (0x96, Stx, ZeroPageY) ∷ (0x8E, Stx, Absolute) ∷
    (0x0A, Asl, Accumulator) ∷ (0x06, Asl, ZeroPage) ∷ (0x16, Asl, ZeroPageX) ∷
    (0x0E, Asl, Absolute) ∷ (0x1E, Asl, AbsoluteX) ∷
    (0x4A, Lsr, Accumulator) ∷ (0x46, Lsr, ZeroPage) ∷ (0x56, Lsr, ZeroPageX) ∷
    (0x4E, Lsr, Absolute) ∷ (0x5E, Lsr, AbsoluteX) ∷
    (0x2A, Rol, Accumulator) ∷ (0x26, Rol, ZeroPage) ∷ (0x36, Rol, ZeroPageX) ∷
    (0x2E, Rol, Absolute) ∷ (0x3E, Rol, AbsoluteX) ∷
    (0x6A, Ror, Accumulator) ∷ (0x66, Ror, ZeroPage) ∷ (0x76, Ror, ZeroPageX) ∷
    (0x6E, Ror, Absolute) ∷ (0x7E, Ror, AbsoluteX) ∷
    (0x4C, Jmp, Absolute) ∷ (0x6C, Jmp, Indirect) ∷
    (0x20, Jsr, Absolute) ∷
    (0x10, Bpl, Relative) ∷ (0x30, Bmi, Relative) ∷ (0x50, Bvc, Relative) ∷
    (0x70, Bvs, Relative) ∷ (0x90, Bcc, Relative) ∷ (0xB0, Bcs, Relative) ∷
    (0xD0, Bne, Relative) ∷ (0xF0, Beq, Relative) ∷
    (0x00, Brk, Implied) ∷ (0x40, Rti, Implied) ∷ (0x60, Rts, Implied) ∷ (0x08, Php, Implied) ∷
    (0x28, Plp, Implied) ∷ (0x48, Pha, Implied) ∷ (0x68, Pla, Implied) ∷ (0x18, Clc, Implied) ∷
    (0x38, Sec, Implied) ∷ (0x58, Cli, Implied) ∷ (0x78, Sei, Implied) ∷ (0xB8, Clv, Implied) ∷
    (0xD8, Cld, Implied) ∷ (0xF8, Sed, Implied) ∷ (0x88, Dey, Implied) ∷ (0x98, Tya, Implied) ∷
    (0xA8, Tay, Implied) ∷ (0xC8, Iny, Implied) ∷ (0xE8, Inx, Implied) ∷ (0x8A, Txa, Implied) ∷
    (0x9A, Txs, Implied) ∷ (0xAA, Tax, Implied) ∷ (0xBA, Tsx, Implied) ∷ (0xCA, Dex, Implied) ∷
    (0xEA, Nop, Implied) ∷ []

-- the operation and mode of the first row with this opcode
abbrev pub row_in : List (ℕ × Op × Mode) → ℕ → Option (Op × Mode)
row_in [] opcode = None
row_in (row ∷ rows) opcode = if row.0 == opcode then Some (row.1, row.2) else row_in rows opcode

-- the operation and mode of an opcode; none where it is undocumented
unfoldable pub row_of : ℕ → Option (Op × Mode)
row_of opcode = row_in opcode_table opcode

-- two operations are the same, and two modes are
abbrev pub same_op : Op → Op → Bool
same_op a b = sameb op_contracts.the_type a b

abbrev pub same_mode : Mode → Mode → Bool
same_mode a b = sameb mode_contracts.the_type a b

-- the opcode of the first row with this operation and this mode
abbrev pub opcode_in : List (ℕ × Op × Mode) → Op → Mode → Option ℕ
opcode_in [] op mode = None
opcode_in (row ∷ rows) op mode =
    if same_op row.1 op && same_mode row.2 mode
    then Some row.0
    else opcode_in rows op mode

-- the opcode of an operation in a mode; none where the table has no such row
unfoldable pub opcode_of : Op → Mode → Option ℕ
opcode_of op mode = opcode_in opcode_table op mode
