-- Where an image's bytes stand in the processor's addresses. This project's own choice.
use Rattle.std.specs.Prelude.{ℕ, ◌+◌, ◌-◌, List, Option, Some, None, nat_le, nat_lt, ◌&&◌, if◌then◌else◌, slice_index}
use Rattle.std.specs.Option.{option_map}
use Rattle.board_base.specs.declared.vector_memory.TheConstants.{VECTOR_ROM_LEN}
use Rattle.rom_image.specs.declared.image.TheConstants.{PROGRAM_ROM_LEN, PROGRAM_ROM_START, VECTOR_ROM_START}

-- the place of an address in an image: the vector ROM, and then the program ROM
abbrev pub offset_of : ℕ → Option ℕ
offset_of addr =
    if nat_le VECTOR_ROM_START addr && nat_lt addr (VECTOR_ROM_START + VECTOR_ROM_LEN)
    then Some (addr - VECTOR_ROM_START)
    else if nat_le PROGRAM_ROM_START addr && nat_lt addr (PROGRAM_ROM_START + PROGRAM_ROM_LEN) then Some (VECTOR_ROM_LEN + (addr - PROGRAM_ROM_START)) else None

-- the byte of an image at an address, where it has one
abbrev pub byte_of : List ℕ → ℕ → Option ℕ
byte_of image addr = option_map (λ k. slice_index image k) (offset_of addr)
