-- The text of a listing. This project's own choice.
use Rattle.std.specs.Prelude.{ℕ, ◌+◌, List, [], ◌∷◌, ◌++◌, map, decimal, unwrap_or}
use Rattle.std.specs.List.{flat_map, range_with_len}
use Rattle.asm_core.specs.declared.listing.ListingLine.{ListingLine}
use Rattle.text_line.specs.Words.{hex_byte, hex_word}
use Rattle.rom_image.specs.Addresses.{byte_of}

-- so many bytes of an image, from an address on
abbrev pub bytes_from : List ℕ → ℕ → ℕ → List ℕ
bytes_from image addr count = map (λ i. unwrap_or (byte_of image (addr + i)) 0) (range_with_len 0 count)

-- each byte behind a blank, in two hexadecimal digits
abbrev pub bytes_text : List ℕ → List ℕ
bytes_text bytes = flat_map (λ byte. 32 ∷ hex_byte byte) bytes

-- a line: its address, its number in the source, and the bytes that it gives
abbrev pub line_text : List ℕ → ListingLine → List ℕ
line_text image line =
    (hex_word line.addr ++ 32 ∷ decimal line.line ++ 58 ∷ []) ++ (bytes_text (bytes_from image line.addr line.count) ++ 10 ∷ [])

-- the lines, in order
abbrev pub listing_text : List ℕ → List ListingLine → List ℕ
listing_text image lines = flat_map (λ line. line_text image line) lines
