-- The sources of the vector generator. This project's own choice.
use Rattle.std.specs.Prelude.{ℕ, true, List, Result}
use Rattle.asm_text.specs.declared.fault.AsmFault.{AsmFault}
use Rattle.asm_core.specs.declared.listing.ListingLine.{ListingLine}
use Rattle.asm_core.specs.declared.dialect.Rom.{Rom}
use Rattle.asm_core.specs.Images.{assembled}
use Rattle.asm_avg.specs.Language.{language}

-- a source gives bytes of the vector ROM, from even addresses on
abbrev pub vector_rom : Rom
vector_rom = record { low = 0x2800; high = 0x6000; even = true }

-- the image and the listing, or the one fault, of a source
abbrev pub source_assembled : List ℕ → List ℕ → Result (List ℕ × List ListingLine) AsmFault
source_assembled text image = assembled language vector_rom text image
