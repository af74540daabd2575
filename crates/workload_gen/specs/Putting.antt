-- Bytes that are put into an image.
use Rattle.std.specs.Prelude.{ℕ, ◌+◌, List, [], ◌∷◌, slice_set, unwrap_or}
use Rattle.rom_image.specs.Addresses.{offset_of}

-- where an address stands in an image
abbrev pub place_of : ℕ → ℕ
place_of addr = unwrap_or (offset_of addr) 0

-- an image with bytes from a place on
unfoldable pub with_bytes : ℕ → List ℕ → List ℕ → List ℕ
with_bytes place [] before = before
with_bytes place (byte ∷ bytes) before = with_bytes (place + 1) bytes (slice_set before place byte)
