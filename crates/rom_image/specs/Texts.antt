-- The text of a fault. This project's own choice.
use Rattle.std.specs.Prelude.{ℕ, List, ◌++◌, codes, decimal}
use Rattle.rom_image.specs.declared.fault.ImageFault.{ImageFault}
use Rattle.rom_image.specs.declared.fault.ImageFault.TheVariants.{Length, OutOfMemory}

-- why bytes are no image
abbrev pub image_fault_text : ImageFault → List ℕ
image_fault_text (Length n) = codes "length " ++ decimal n
image_fault_text OutOfMemory = codes "no memory"
