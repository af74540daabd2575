-- The lines of the log, which are this project's own.
use Rattle.std.specs.Prelude.{ℕ, List, [], ◌∷◌, codes, decimal}
use Rattle.std.specs.Fmt.{signed_decimal}
use Rattle.text_line.specs.Words.{line, hex_byte}
use Rattle.board_base.specs.declared.record.Record.{Record}
use Rattle.board_base.specs.declared.record.Record.TheVariants.{Stroke, Levels, Latch, WatchdogReset}
use Rattle.board_base.specs.declared.part.Part.{Part}
use Rattle.board_base.specs.declared.part.Part.TheVariants.{Pokey2}

-- the letter of a line of levels: A for those of POKEY 1, B for those of POKEY 2; no other part
-- makes levels
abbrev pub levels_letter : Part → List ℕ
levels_letter Pokey2 = codes "B"
levels_letter _ = codes "A"

-- the line of a record: numbers are decimal and have no leading zeros, but the byte of the latch is
-- hexadecimal
unfoldable pub record_text : Part → Record → List ℕ
record_text part (Stroke clock x0 y0 x1 y1 colour intensity) =
    line (codes "S" ∷ decimal clock ∷ signed_decimal x0 ∷ signed_decimal y0 ∷ signed_decimal x1 ∷ signed_decimal y1
    ∷ decimal colour ∷ decimal intensity ∷ [])
record_text part (Levels clock l1 l2 l3 l4) =
    line (levels_letter part ∷ decimal clock ∷ decimal l1 ∷ decimal l2 ∷ decimal l3 ∷ decimal l4 ∷ [])
record_text part (Latch clock value) = line (codes "L" ∷ decimal clock ∷ hex_byte value ∷ [])
record_text part (WatchdogReset clock) = line (codes "W" ∷ decimal clock ∷ [])
