-- The text of the log, which is this project's own.
use Rattle.std.specs.Prelude.{◌≡◌, ℕ, ◌≤◌, List, [], ◌∷◌, ◌++◌, codes, decimal, map, AllPairs, Option, Some, None, nat_lt, ◌==◌, if◌then◌else◌}
use Rattle.std.specs.List.{flat_map, filter_map}
use Rattle.board_base.specs.declared.record.Record.{Record}
use Rattle.board_base.specs.declared.part.Part.{Part}
use Rattle.board_base.specs.declared.part.Part.TheVariants.{Generator, Pokey1, Pokey2, Board}
use Rattle.board_base.specs.Records.{clock_of}
use Rattle.text_line.specs.Words.{line, hex_byte, hex_word}
use Rattle.log_text.specs.Lines.{record_text}

-- a record and the part of the board that made it
abbrev pub PartRecord : Type 0
PartRecord = Part × Record

-- the text of one list of records: their lines, in order
unfoldable pub log_text : List PartRecord → List ℕ
log_text records = flat_map (λ made. record_text made.0 made.1) records

-- a record put behind those of earlier clocks and before those of its own clock and of later ones
unfoldable pub placed : PartRecord → List PartRecord → List PartRecord
placed made [] = made ∷ []
placed made (first ∷ others) =
    if nat_lt (clock_of first.1) (clock_of made.1) then first ∷ placed made others else made ∷ first ∷ others

-- records sorted by their clocks; those of one clock stay in their order
unfoldable pub by_clock : List PartRecord → List PartRecord
by_clock [] = []
by_clock (made ∷ others) = placed made (by_clock others)

-- each of the records with the part that made them
abbrev pub from_part : Part → List Record → List PartRecord
from_part part records = map (λ made. (part, made)) records

-- the records of the generator, of POKEY 1, of POKEY 2 and of the rest of the board, in one list:
-- by clock, and within a clock in this order of parts
unfoldable pub merged : List Record → List Record → List Record → List Record → List PartRecord
merged vector sound1 sound2 board =
    by_clock (from_part Generator vector
    ++ (from_part Pokey1 sound1 ++ (from_part Pokey2 sound2 ++ from_part Board board)))

-- the lines of the records of the generator, of POKEY 1, of POKEY 2 and of the rest of the board:
-- by clock, and within a clock in this order of parts
unfoldable pub merged_text : List Record → List Record → List Record → List Record → List ℕ
merged_text vector sound1 sound2 board = log_text (merged vector sound1 sound2 board)

-- the last line of a run that reached its limit at this clock
unfoldable pub end_text : ℕ → List ℕ
end_text clock = line (codes "E" ∷ decimal clock ∷ [])

-- the last line of a run that an undocumented opcode stopped at this clock and program counter
unfoldable pub jam_text : ℕ → ℕ → ℕ → List ℕ
jam_text clock pc opcode = line (codes "X" ∷ decimal clock ∷ hex_word pc ∷ hex_byte opcode ∷ [])

-- the last line of a run that has ended at this clock and program counter, by the opcode that
-- stopped it, if one did
abbrev pub last_text : ℕ → ℕ → Option ℕ → List ℕ
last_text clock pc (Some opcode) = jam_text clock pc opcode
last_text clock pc None = end_text clock

-- the line that states how many device calls a run made
unfoldable pub cost_text : ℕ → List ℕ
cost_text calls = line (codes "C" ∷ decimal calls ∷ [])

-- the place of a part among those that make records in one clock
abbrev pub place_of : Part → ℕ
place_of Generator = 0
place_of Pokey1 = 1
place_of Pokey2 = 2
place_of Board = 3

-- the records of one part, in order
unfoldable pub made_by : Part → List PartRecord → List Record
made_by part records = filter_map (λ made. if place_of made.0 == place_of part then Some made.1 else None) records

-- one record doesn't come after another: its clock isn't later, and in one clock its part isn't
pub record IsNotAfter (first second : PartRecord) : Type 0 where
  pub clocks : clock_of first.1 ≤ clock_of second.1
  pub parts : clock_of first.1 ≡ clock_of second.1 → place_of first.0 ≤ place_of second.0

-- the records of the board one clock at a time: clocks don't fall, nor do the parts within a clock
abbrev pub IsInOrder : List PartRecord → Type 0
IsInOrder records = AllPairs IsNotAfter records

-- Over the records of each part of one list in order, the merged text is the text of that list.
abbrev pub MergedIsOneLog : List PartRecord → Type 0
MergedIsOneLog records =
    merged_text (made_by Generator records) (made_by Pokey1 records) (made_by Pokey2 records) (made_by Board records)
    ≡ log_text records
