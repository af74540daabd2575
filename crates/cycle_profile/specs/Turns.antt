-- What a sequence does to the list of routines (MCS6500 Programming Manual, its subroutines and
-- interrupts).
use Rattle.std.specs.Prelude.{ℕ, Bool, true, false, Option, Some, None}
use Rattle.board_base.specs.declared.cpu.Sequence.{Sequence}
use Rattle.board_base.specs.declared.cpu.Sequence.TheVariants as sequence
use Rattle.cpu_table.specs.declared.instruction.Op.{Op}
use Rattle.cpu_table.specs.declared.instruction.Op.TheVariants.{Brk, Jsr, Rti, Rts}
use Rattle.cpu_table.specs.declared.instruction.Mode.{Mode}
use Rattle.cpu_table.specs.Opcodes.{row_of}
use Rattle.cycle_profile.specs.declared.turn.Turn.{Turn}
use Rattle.cycle_profile.specs.declared.turn.Turn.TheVariants.{Call, Return, Restart, Stay}

-- JSR and BRK call, RTS and RTI return
abbrev pub turn_of_op : Op → Turn
turn_of_op Jsr = Call
turn_of_op Brk = Call
turn_of_op Rts = Return
turn_of_op Rti = Return
turn_of_op _ = Stay

-- an undocumented opcode does nothing to the list
abbrev pub turn_of_row : Option (Op × Mode) → Turn
turn_of_row None = Stay
turn_of_row (Some row) = turn_of_op row.0

-- an interrupt calls, and a reset begins anew
abbrev pub turn_of : Sequence → ℕ → Turn
turn_of sequence.Opcode opcode = turn_of_row (row_of opcode)
turn_of sequence.Interrupt opcode = Call
turn_of sequence.Reset opcode = Restart

-- the list stays
abbrev pub is_stay : Turn → Bool
is_stay Stay = true
is_stay _ = false

-- an instruction of this opcode leaves the list as it is
abbrev pub stays : ℕ → Bool
stays opcode = is_stay (turn_of sequence.Opcode opcode)
