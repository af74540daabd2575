-- An image of two sources. This project's own.
use Rattle.std.specs.Prelude.{◌≡◌, ℕ, List, replicate, Result, Ok, Err}
use Rattle.asm_avg.specs.Sources.{source_assembled}
use Rattle.asm_core.specs.Images.{assembled}
use Rattle.asm_core.specs.declared.listing.ListingLine.{ListingLine}
use Rattle.asm_cpu.specs.Statements.{cpu_statement}
use Rattle.asm_cpu.specs.declared.source.TheConstants.{PROGRAM_ROM}
use Rattle.asm_text.specs.declared.fault.AsmFault.TheVariants as source
use Rattle.rom_image.specs.declared.image.TheConstants.{IMAGE_LEN}
use Rattle.run_stretch.specs.declared.assembling.AssemblyFault.{AssemblyFault}
use Rattle.run_stretch.specs.declared.assembling.AssemblyFault.TheVariants.{Processor, Generator, NoMemory}

-- the processor's source is good, and put into an image of zeros gives this one
pub record MakesHalf (processor half : List ℕ) : Type 0 where
  pub listing : List ListingLine
  pub of_processor : assembled cpu_statement PROGRAM_ROM processor (replicate IMAGE_LEN 0) ≡ Ok (half, listing)

-- the generator's source is good too, and put into that one gives this image
pub record MakeImage (processor generator image : List ℕ) : Type 0 where
  pub half : List ℕ
  pub first : MakesHalf processor half
  pub listing : List ListingLine
  pub of_generator : source_assembled generator half ≡ Ok (image, listing)

-- what comes of two sources: their image, or the fault of the first that is none
abbrev pub Assembles : List ℕ → List ℕ → Result (List ℕ) AssemblyFault → Type 0
Assembles processor generator (Ok image) = MakeImage processor generator image
Assembles processor generator (Err (Processor source.OutOfMemory)) = ⊥
Assembles processor generator (Err (Processor fault)) = assembled cpu_statement PROGRAM_ROM processor (replicate IMAGE_LEN 0) ≡ Err fault
Assembles processor generator (Err (Generator source.OutOfMemory)) = ⊥
Assembles processor generator (Err (Generator fault)) = (half : List ℕ) × MakesHalf processor half × (source_assembled generator half ≡ Err fault)
Assembles processor generator (Err NoMemory) = Unit {0}
