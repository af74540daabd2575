-- How the bytes of a stretch are read. This project's own.
use Rattle.std.specs.Prelude.{◌≡◌, ◌≢◌, ◌≤◌, ◌<◌, ℕ, List, length, Result, Ok, Err}
use Rattle.board_base.specs.Board.{BoardValue}
use Rattle.rom_image.specs.declared.image.TheConstants.{IMAGE_LEN}
use Rattle.rom_image.specs.declared.fault.ImageFault.TheVariants as image
use Rattle.save_state.specs.Reading.{ReadsState}
use Rattle.tape_ports.specs.Grammar.{tape_of}
use Rattle.tape_ports.specs.Tape.{TapeValue}
use Rattle.tape_ports.specs.declared.tape.TheConstants.{TAPE_LIMIT}
use Rattle.tape_ports.specs.declared.fault.TapeFault.TheVariants as tape
use Rattle.run_stretch.specs.declared.fault.StretchFault.{StretchFault}
use Rattle.run_stretch.specs.declared.fault.StretchFault.TheVariants.{Image, Board, Tape, NoMemory}
use Rattle.run_stretch.specs.declared.parts.Parts.{Parts}

-- an image has one length
abbrev pub ReadsImagePart : List ℕ → Result (List ℕ) StretchFault → Type 0
ReadsImagePart bytes (Ok image) = (length bytes ≡ IMAGE_LEN) × (image ≡ bytes)
ReadsImagePart bytes (Err (Image (image.Length n))) = (n ≡ length bytes) × (length bytes ≢ IMAGE_LEN)
ReadsImagePart bytes (Err NoMemory) = length bytes ≡ IMAGE_LEN
ReadsImagePart bytes (Err _) = ⊥

-- a tape is a text of its grammar
abbrev pub ReadsTapePart : List ℕ → Result TapeValue StretchFault → Type 0
ReadsTapePart text (Ok value) = (length text ≤ TAPE_LIMIT) × (tape_of text ≡ Ok value)
ReadsTapePart text (Err (Tape tape.TooLong)) = TAPE_LIMIT < length text
ReadsTapePart text (Err (Tape (tape.BadLine line cause))) = (length text ≤ TAPE_LIMIT) × (tape_of text ≡ Err (line, cause))
ReadsTapePart text (Err NoMemory) = length text ≤ TAPE_LIMIT
ReadsTapePart text (Err _) = ⊥

-- these bytes are read as some board
abbrev pub AreBoard : List ℕ → Type 0
AreBoard bytes = (b : BoardValue) × ReadsState bytes (Ok b)

-- how an image, a board and a tape are read, each wholly before the next: a fault is that of the
-- first that is no such file. A lack of memory may come where the files that it is wanted for are
-- good.
abbrev pub ReadsParts : List ℕ → List ℕ → List ℕ → Result Parts StretchFault → Type 0
ReadsParts image board tape (Ok parts) =
    ReadsImagePart image (Ok parts.image) × ReadsState board (Ok parts.board) × ReadsTapePart tape (Ok parts.tape)
ReadsParts image board tape (Err (Image fault)) = ReadsImagePart image (Err (Image fault))
ReadsParts image board tape (Err (Board fault)) = (length image ≡ IMAGE_LEN) × ReadsState board (Err fault)
ReadsParts image board tape (Err (Tape fault)) = (length image ≡ IMAGE_LEN) × AreBoard board × ReadsTapePart tape (Err (Tape fault))
ReadsParts image board tape (Err NoMemory) = length image ≡ IMAGE_LEN
