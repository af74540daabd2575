-- What a source gives. This project's own choice.
use Rattle.std.specs.Prelude.{ℕ, ◌+◌, List, [], ◌∷◌, length, map, Option, Some, None, slice_set, Result, Ok, Err, nat_lt, if◌then◌else◌}
use Rattle.asm_text.specs.declared.fault.AsmFault.{AsmFault}
use Rattle.asm_text.specs.declared.fault.AsmFault.TheVariants as fault
use Rattle.asm_core.specs.declared.listing.ListingLine.{ListingLine}
use Rattle.asm_text.specs.declared.scan.TheConstants.{TEXT_LIMIT}
use Rattle.asm_text.specs.Lines.{lines_with_ends}
use Rattle.rom_image.specs.Addresses.{offset_of}
use Rattle.asm_core.specs.declared.dialect.Rom.{Rom}
use Rattle.asm_core.specs.declared.placed.Placed.{Placed}
use Rattle.asm_core.specs.Cells.{size_of}
use Rattle.asm_core.specs.Expressions.{NameValues}
use Rattle.asm_core.specs.Lines.{Language}
use Rattle.asm_core.specs.Passes.{Known, pass_one, placed_bytes, then_on}

-- an image with a byte at an address that has a place in it
abbrev pub put_at : Option ℕ → List ℕ → ℕ → List ℕ
put_at None image byte = image
put_at (Some place) image byte = slice_set image place byte

-- an image with bytes from an address on
unfoldable pub with_bytes : ℕ → List ℕ → List ℕ → List ℕ
with_bytes at [] image = image
with_bytes at (byte ∷ bytes) image = with_bytes (at + 1) bytes (put_at (offset_of at) image byte)

-- pass 2 over a line: the image with its bytes
abbrev pub line_written : NameValues → List ℕ → Placed → Result (List ℕ) AsmFault
line_written names image placed = then_on (λ bytes. Ok (with_bytes placed.at bytes image)) (placed_bytes names placed)

-- pass 2 over the lines that give bytes: the image with them
unfoldable pub pass_two : NameValues → List ℕ → List Placed → Result (List ℕ) AsmFault
pass_two names image [] = Ok image
pass_two names image (placed ∷ rest) = then_on (λ after. pass_two names after rest) (line_written names image placed)

-- the line of the listing for a line that gives bytes
abbrev pub listed : Placed → ListingLine
listed placed = record { addr = placed.at; count = size_of placed.cells; line = placed.line }

-- the image and the listing that lines give
abbrev pub written_and_listed : NameValues → List ℕ → List Placed → Result (List ℕ × List ListingLine) AsmFault
written_and_listed names image placed = then_on (λ after. Ok (after, map listed placed)) (pass_two names image placed)

-- before the first line nothing is known, and the address is 0
abbrev pub at_the_start : Known
at_the_start = record { names = []; at = 0; placed = [] }

-- the image and the listing, or the one fault, of a source that isn't too long
unfoldable pub given_by : Language → Rom → List ℕ → List ℕ → Result (List ℕ × List ListingLine) AsmFault
given_by language rom text image =
    then_on (λ known. written_and_listed known.names image known.placed) (pass_one language rom 1 at_the_start (lines_with_ends text))

-- the image and the listing, or the one fault, of a source
abbrev pub assembled : Language → Rom → List ℕ → List ℕ → Result (List ℕ × List ListingLine) AsmFault
assembled language rom text image = if nat_lt TEXT_LIMIT (length text) then Err fault.TooLong else given_by language rom text image
