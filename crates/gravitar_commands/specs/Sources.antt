-- What the sources of an image give. This project's own choice.
use Rattle.std.specs.Prelude.{ℕ, List, ◌++◌, Result, Ok, Err}
use Rattle.asm_avg.specs.Sources.{source_assembled}
use Rattle.asm_core.specs.Images.{assembled}
use Rattle.asm_cpu.specs.Statements.{cpu_statement}
use Rattle.asm_cpu.specs.declared.source.TheConstants.{PROGRAM_ROM}
use Rattle.asm_listing.specs.ListingText.{listing_text}
use Rattle.asm_text.specs.declared.fault.AsmFault.{AsmFault}
use Rattle.asm_core.specs.declared.listing.ListingLine.{ListingLine}
use Rattle.gravitar_commands.specs.declared.assembled.Assembled.{Assembled}
use Rattle.gravitar_commands.specs.declared.assembled.Language.{Language}
use Rattle.gravitar_commands.specs.declared.assembled.Language.TheVariants.{Processor, Generator}
use Rattle.gravitar_commands.specs.declared.cause.Cause.{Cause}
use Rattle.gravitar_commands.specs.declared.cause.Cause.TheVariants.{Source}

-- the image and the listing that a source gives, put into an image, or its fault
unfoldable pub assembled_in : Language → List ℕ → List ℕ → Result (List ℕ × List ListingLine) AsmFault
assembled_in Processor text image = assembled cpu_statement PROGRAM_ROM text image
assembled_in Generator text image = source_assembled text image

-- what a source gives, or the cause of its refusal
abbrev pub source_read : Result (List ℕ × List ListingLine) AsmFault → Result (List ℕ × List ListingLine) Cause
source_read (Ok given) = Ok given
source_read (Err fault) = Err (Source fault)

-- the listing of the processor's source, and then that of the generator's
abbrev pub both_listings : Assembled → List ℕ
both_listings made = listing_text made.image made.processor ++ listing_text made.image made.generator
