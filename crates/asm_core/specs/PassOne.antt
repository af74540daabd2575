-- What pass 1 keeps while it goes over the lines. This project's own choice.
use Rattle.std.specs.Prelude.{◌≡◌, ℕ, ◌+◌, ◌<◌, ◌≤◌, Bool, false, ◌&&◌, List, length, slice_index_or, nat_le, nat_lt, IsSome}
use Rattle.std.specs.List.{All, list_any}
use Rattle.rom_image.specs.Addresses.{offset_of}
use Rattle.asm_core.specs.declared.dialect.Rom.{Rom}
use Rattle.asm_core.specs.declared.pass_one.PassOne.{PassOne}
use Rattle.asm_core.specs.declared.placed.Placed.{Placed}
use Rattle.asm_core.specs.Cells.{size_of}
use Rattle.asm_core.specs.Forms.{AreCells}
use Rattle.asm_core.specs.Passes.{Known}

-- a ROM whose addresses have a place in an image
pub record IsRom (rom : Rom) : Type 0 where
  pub order : rom.low ≤ rom.high
  pub high : rom.high ≤ 65536
  pub inside : (addr : ℕ) → rom.low ≤ addr → addr < rom.high → IsSome (offset_of addr)

-- what pass 1 knows
abbrev pub known_of : PassOne → Known
known_of pass = record { names = pass.names; at = pass.at; placed = pass.placed }

-- a line gives the byte at an address
abbrev pub gives : ℕ → Placed → Bool
gives addr placed = nat_le placed.at addr && nat_lt addr (placed.at + size_of placed.cells)

-- of each byte of a ROM is known whether one of these lines gives it
abbrev pub Covers : Rom → List Bool → List Placed → Type 0
Covers rom taken placed = (i : ℕ) → i < length taken → slice_index_or taken i false ≡ list_any (gives (rom.low + i)) placed

-- a line's bytes are in a ROM
pub record IsPlaced (rom : Rom) (placed : Placed) : Type 0 where
  pub low : rom.low ≤ placed.at
  pub high : placed.at + size_of placed.cells ≤ rom.high
  pub cells : AreCells placed.cells

-- what holds before each line
pub record IsPassOne (rom : Rom) (pass : PassOne) : Type 0 where
  pub at : pass.at ≤ 65536
  pub whole : length pass.taken.items + rom.low ≡ rom.high
  pub covers : Covers rom pass.taken.items pass.placed
  pub each : All (IsPlaced rom) pass.placed
