-- Where bytes are wrong, as a number. This project's own.
use Rattle.std.specs.Prelude.{ℕ}
use Rattle.asm_text.specs.declared.fault.AsmFault.{AsmFault}
use Rattle.asm_text.specs.declared.fault.AsmFault.TheVariants as text
use Rattle.rom_image.specs.declared.fault.ImageFault.TheVariants as image
use Rattle.save_state.specs.declared.fault.StateFault.TheVariants as state
use Rattle.tape_ports.specs.declared.fault.TapeFault.TheVariants as tape
use Rattle.run_stretch.specs.declared.assembling.AssemblyFault.{AssemblyFault}
use Rattle.run_stretch.specs.declared.assembling.AssemblyFault.TheVariants as source
use Rattle.run_stretch.specs.declared.fault.StretchFault.{StretchFault}
use Rattle.run_stretch.specs.declared.fault.StretchFault.TheVariants.{Image, Board, Tape}

-- the length of an image; the length, the version or the offset of a saved board; the line of a
-- tape
abbrev pub place_of_stretch : StretchFault → ℕ
place_of_stretch (Image (image.Length n)) = n
place_of_stretch (Board (state.Length n)) = n
place_of_stretch (Board (state.Version version)) = version
place_of_stretch (Board (state.Field at)) = at
place_of_stretch (Tape (tape.BadLine line cause)) = line
place_of_stretch _ = 0

-- the line of a source
abbrev pub place_of_source : AsmFault → ℕ
place_of_source (text.Line line cause) = line
place_of_source _ = 0

abbrev pub place_of_assembly : AssemblyFault → ℕ
place_of_assembly (source.Processor fault) = place_of_source fault
place_of_assembly (source.Generator fault) = place_of_source fault
place_of_assembly source.NoMemory = 0
