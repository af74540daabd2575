-- How bytes are read as an image.
use Rattle.std.specs.Prelude.{◌≡◌, ◌≢◌, ℕ, List, length, Result, Ok, Err}
use Rattle.rom_image.specs.declared.fault.ImageFault.{ImageFault}
use Rattle.rom_image.specs.declared.fault.ImageFault.TheVariants.{Length, OutOfMemory}
use Rattle.rom_image.specs.declared.image.TheConstants.{IMAGE_LEN}

-- an image has a fixed number of bytes: these bytes, or their number where it is another
abbrev pub ReadsImage : List ℕ → Result (List ℕ) ImageFault → Type 0
ReadsImage bytes (Ok image) = (length bytes ≡ IMAGE_LEN) × (image ≡ bytes)
ReadsImage bytes (Err (Length n)) = (n ≡ length bytes) × (length bytes ≢ IMAGE_LEN)
ReadsImage bytes (Err OutOfMemory) = length bytes ≡ IMAGE_LEN
