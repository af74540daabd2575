-- The image. This project's own choice.
use Rattle.std.specs.Prelude.{◌≡◌, ℕ, ◌+◌, ◌-◌, ◌/◌, ◌%◌, List, [], ◌∷◌, ◌++◌, length, replicate, Some}
use Rattle.std.specs.Int.{to_le_bytes, w16}
use Rattle.std.specs.List.{flat_map}
use Rattle.board_base.specs.declared.vector_memory.TheConstants.{VECTOR_ROM_LEN}
use Rattle.rom_image.specs.declared.image.TheConstants.{PROGRAM_ROM_LEN}
use Rattle.rom_image.specs.Addresses.{byte_of}
use Rattle.workload_gen.specs.Words.{words_of}

-- the bytes of a word, the low one first
abbrev pub bytes_of : ℕ → List ℕ
bytes_of word = to_le_bytes w16 word

-- the program, which stands from 9000
unfoldable pub program : List ℕ
program =
    0xD8 ∷ 0xA2 ∷ 0xFF ∷ 0x9A ∷ 0xA9 ∷ 0xE4 ∷ 0x8D ∷ 0x01 ∷ 0x20 ∷ 0xA9 ∷ 0x03 ∷ 0x8D ∷ 0x0F ∷ 0x60 ∷ 0x8D ∷ 0x0F
    ∷ 0x68 ∷ 0xA9 ∷ 0xA6 ∷ 0x8D ∷ 0x01 ∷ 0x60 ∷ 0x8D ∷ 0x03 ∷ 0x68 ∷ 0x58 ∷ 0x8D ∷ 0x80 ∷ 0x89 ∷ 0xAD ∷ 0x00 ∷ 0x78
    ∷ 0x29 ∷ 0x40 ∷ 0xF0 ∷ 0xF6 ∷ 0x8D ∷ 0x40 ∷ 0x88 ∷ 0xAD ∷ 0x0A ∷ 0x60 ∷ 0x8D ∷ 0x00 ∷ 0x60 ∷ 0xAD ∷ 0x0A ∷ 0x68
    ∷ 0x8D ∷ 0x02 ∷ 0x68 ∷ 0xE6 ∷ 0x10 ∷ 0xA5 ∷ 0x10 ∷ 0x8D ∷ 0x00 ∷ 0x88 ∷ 0x4C ∷ 0x1A ∷ 0x90 ∷ 0x48 ∷ 0x8D ∷ 0xC0
    ∷ 0x88 ∷ 0xAD ∷ 0x00 ∷ 0x80 ∷ 0x8D ∷ 0x05 ∷ 0x60 ∷ 0x68 ∷ 0x40 ∷ []

-- the processor's interrupt vectors, which stand from FFFA: NMI, reset and IRQ
unfoldable pub interrupt_vectors : List ℕ
interrupt_vectors = 0x00 ∷ 0x90 ∷ 0x00 ∷ 0x90 ∷ 0x3D ∷ 0x90 ∷ []

-- a part with so many bytes: these, and zeros behind them
abbrev pub filled : ℕ → List ℕ → List ℕ
filled size bytes = bytes ++ replicate (size - length bytes) 0

-- the image: the words at the start of the vector ROM, the program at the start of the program ROM,
-- the interrupt vectors at its end, and all else 0
unfoldable pub image_with : List ℕ → List ℕ
image_with words = filled VECTOR_ROM_LEN (flat_map bytes_of words) ++ filled (PROGRAM_ROM_LEN - length interrupt_vectors) program ++ interrupt_vectors

-- the image of a seed
abbrev pub image_of : ℕ → List ℕ
image_of seed = image_with (words_of seed)

-- a word stands at an address, its low byte first
abbrev pub HasWord : List ℕ → ℕ → ℕ → Type 0
HasWord bytes addr word = (byte_of bytes addr ≡ Some (word % 256)) × (byte_of bytes (addr + 1) ≡ Some (word / 256 % 256))
