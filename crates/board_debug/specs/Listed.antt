-- How an instruction reads in a listing.
use Rattle.std.specs.Prelude.{◌≡◌, ℕ, List, ◌++◌, length}
use Rattle.asm_cpu.specs.Mnemonics.{name_of}
use Rattle.cpu_table.specs.declared.instruction.Op.{Op}
use Rattle.cpu_table.specs.declared.instruction.Mode.{Mode}
use Rattle.board_debug.specs.Columns.{listed}
use Rattle.board_debug.specs.Instructions.{bytes_text, dis_line, dis_size, operand_text}

-- the bytes at an address are shown in one line, as this operation with this operand
pub record ReadsAs (address : ℕ) (bytes : List ℕ) (op : Op) (mode : Mode) (operand : ℕ) : Type 0 where
  pub line : dis_line address bytes ≡ listed address 9 (bytes_text bytes) (name_of op ++ operand_text address mode operand)
  pub size : dis_size bytes ≡ length bytes

-- they are shown as an instruction of this operation
abbrev pub ReadsAsSome : ℕ → List ℕ → Op → Type 0
ReadsAsSome address bytes op = (mode : Mode) × (operand : ℕ) × ReadsAs address bytes op mode operand
