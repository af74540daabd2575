-- The causes for which a file is refused, as they are reported.
use Rattle.std.specs.Prelude.{ℕ, ◌++◌, List, codes, decimal}
use Rattle.asm_text.specs.Texts.{source_fault_text}
use Rattle.debug_script.specs.Texts.{script_fault_text}
use Rattle.rom_image.specs.Texts.{image_fault_text}
use Rattle.tape_ports.specs.Texts.{tape_fault_text}
use Rattle.save_state.specs.Texts.{state_fault_text}
use Rattle.gravitar_commands.specs.declared.cause.Cause.{Cause}
use Rattle.gravitar_commands.specs.declared.cause.Cause.TheVariants.{Absent, Image, Tape, State, Cells, Source, Script}

-- a cause after a file's name
abbrev pub cause_text : Cause → List ℕ
cause_text Absent = codes "absent"
cause_text (Image fault) = image_fault_text fault
cause_text (Tape fault) = tape_fault_text fault
cause_text (State fault) = state_fault_text fault
cause_text (Cells n) = codes "length " ++ decimal n
cause_text (Source fault) = source_fault_text fault
cause_text (Script fault) = script_fault_text fault
