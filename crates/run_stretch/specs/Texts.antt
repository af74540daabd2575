-- What is said of bytes that are refused.
use Rattle.std.specs.Prelude.{ℕ, List, codes}
use Rattle.asm_text.specs.Texts.{source_fault_text}
use Rattle.rom_image.specs.Texts.{image_fault_text}
use Rattle.save_state.specs.Texts.{state_fault_text}
use Rattle.tape_ports.specs.Texts.{tape_fault_text}
use Rattle.run_stretch.specs.declared.assembling.AssemblyFault.{AssemblyFault}
use Rattle.run_stretch.specs.declared.assembling.AssemblyFault.TheVariants as source
use Rattle.run_stretch.specs.declared.fault.StretchFault.{StretchFault}
use Rattle.run_stretch.specs.declared.fault.StretchFault.TheVariants.{Image, Board, Tape, NoMemory}

-- the words that `gravitar` has after the file's name
abbrev pub stretch_fault_text : StretchFault → List ℕ
stretch_fault_text (Image fault) = image_fault_text fault
stretch_fault_text (Board fault) = state_fault_text fault
stretch_fault_text (Tape fault) = tape_fault_text fault
stretch_fault_text NoMemory = codes "no memory"

abbrev pub assembly_fault_text : AssemblyFault → List ℕ
assembly_fault_text (source.Processor fault) = source_fault_text fault
assembly_fault_text (source.Generator fault) = source_fault_text fault
assembly_fault_text source.NoMemory = codes "no memory"
