-- The statements of a processor source that are its language's own. This project's own choice.
use Rattle.std.specs.Prelude.{ℕ, List, [], ◌∷◌, Option, Some, None, codes, if◌then◌else◌}
use Rattle.std.specs.Str.{str_eq_ignore_ascii_case}
use Rattle.std.specs.Option.{option_map}
use Rattle.asm_core.specs.declared.cell.Cell.{Cell}
use Rattle.asm_core.specs.declared.cell.TheConstants.{BYTE}
use Rattle.asm_core.specs.declared.dialect.Form.{Form}
use Rattle.asm_core.specs.declared.dialect.Form.TheVariants as form
use Rattle.asm_core.specs.declared.expression.Expression.{Expression}
use Rattle.asm_core.specs.declared.word.Word.{Word}
use Rattle.asm_core.specs.Expressions.{NameValues, expression_of}
use Rattle.asm_core.specs.Lines.{Language}
use Rattle.asm_core.specs.Lists.{cells_of}
use Rattle.asm_core.specs.Words.{items_of}
use Rattle.cpu_table.specs.declared.instruction.Op.{Op}
use Rattle.cpu_table.specs.declared.instruction.Mode.{Mode}
use Rattle.cpu_table.specs.declared.instruction.Mode.TheVariants.{Implied, Accumulator}
use Rattle.cpu_table.specs.Decoding.{length_of}
use Rattle.cpu_table.specs.Opcodes.{opcode_of}
use Rattle.asm_cpu.specs.declared.operand.Shape.{Shape}
use Rattle.asm_cpu.specs.Mnemonics.{op_of}
use Rattle.asm_cpu.specs.Modes.{mode_of, operand_origin, place_of}
use Rattle.asm_cpu.specs.Operands.{is_register, shape_of}

-- an opcode alone
abbrev pub opcode_cell : ℕ → Cell
opcode_cell opcode = record { size = 1; base = opcode; fields = [] }

-- an opcode at an address, and its operand behind it
abbrev pub operand_cell : ℕ → Mode → Expression → ℕ → Cell
operand_cell at mode e opcode =
    record { size = length_of mode; base = opcode; fields = record { expression = e; origin = operand_origin mode at; place = place_of mode } ∷ [] }

-- a statement of this one cell, where there is one
abbrev pub cell_form : Option Cell → Form
cell_form None = form.NoSuchForm
cell_form (Some cell) = form.Gives (cell ∷ [])

-- an instruction without an expression
abbrev pub bare_form : Op → Mode → Form
bare_form op mode = cell_form (option_map opcode_cell (opcode_of op mode))

-- an instruction at an address, in this mode and with this expression
abbrev pub mode_form : Op → ℕ → Mode → Expression → Form
mode_form op at mode e = cell_form (option_map (operand_cell at mode e) (opcode_of op mode))

-- an instruction with an operand of this shape
abbrev pub shape_form : NameValues → ℕ → Op → Shape → Option Expression → Form
shape_form names at op shape None = form.NoSuchForm
shape_form names at op shape (Some e) = mode_form op at (mode_of names op shape e) e

-- an instruction with an operand
abbrev pub operand_form : NameValues → ℕ → Op → Option (Shape × List Word) → Form
operand_form names at op None = form.NoSuchForm
operand_form names at op (Some shaped) = shape_form names at op shaped.0 (expression_of shaped.1)

-- an instruction: what stands behind its word is nothing, `a`, or an operand with an expression
unfoldable pub instruction_of : NameValues → ℕ → Op → List Word → Form
instruction_of names at op [] = bare_form op Implied
instruction_of names at op (w ∷ ws) =
    if is_register 97 (w ∷ ws) then bare_form op Accumulator else operand_form names at op (shape_of (w ∷ ws))

-- a list of bytes, where all its items are expressions
abbrev pub list_form : Option (List Cell) → Form
list_form None = form.NoSuchForm
list_form (Some cells) = form.Gives cells

-- an instruction, where the statement's first word names one
abbrev pub op_form : (Op → Form) → Option Op → Form
op_form form_of None = form.NotReserved
op_form form_of (Some op) = form_of op

-- a statement, by its first word and those behind it
unfoldable pub cpu_statement : Language
cpu_statement names at first ws =
    if str_eq_ignore_ascii_case first (codes ".byte") then list_form (cells_of BYTE 1 (items_of ws))
    else op_form (λ op. instruction_of names at op ws) (op_of first)
