-- Records as bytes, 40 of each. They are this project's own: on a little-endian machine those of a
-- struct of a clock of 64 bits, a kind of 32, six signed values of 32, and 32 bits that are 0.
use Rattle.std.specs.Prelude.{ℕ, ℤ, List, ◌++◌, flat_map}
use Rattle.std.specs.Int.{w32, w64, to_le_bytes, cast_unsigned}
use Rattle.board_base.specs.declared.record.Record.{Record}
use Rattle.board_base.specs.declared.record.Record.TheVariants.{Stroke, Levels, Latch, WatchdogReset}
use Rattle.board_base.specs.declared.part.Part.{Part}
use Rattle.board_base.specs.declared.part.Part.TheVariants.{Pokey2}
use Rattle.log_text.specs.LogText.{PartRecord}

-- the lowest byte first
unfoldable pub clock_bytes : ℕ → List ℕ
clock_bytes clock = to_le_bytes w64 clock

unfoldable pub word_bytes : ℕ → List ℕ
word_bytes word = to_le_bytes w32 word

-- a clock, a kind, six words, and a word that is 0
unfoldable pub record_row : ℕ → ℕ → ℕ → ℕ → ℕ → ℕ → ℕ → ℕ → List ℕ
record_row clock kind a b c d e f =
    clock_bytes clock ++ (word_bytes kind
    ++ (word_bytes a ++ (word_bytes b ++ (word_bytes c ++ (word_bytes d ++ (word_bytes e ++ (word_bytes f ++ word_bytes 0)))))))

-- a signed number as a word
abbrev pub signed : ℤ → ℕ
signed value = cast_unsigned w32 value

-- the kind of levels: 1 for those of POKEY 1, 2 for those of POKEY 2; no other part makes levels
abbrev pub levels_kind : Part → ℕ
levels_kind Pokey2 = 2
levels_kind _ = 1

-- a record: a stroke is of kind 0, a write of the latch of kind 3, and a watchdog reset of kind 4
unfoldable pub record_bytes : Part → Record → List ℕ
record_bytes part (Stroke clock x0 y0 x1 y1 colour intensity) = record_row clock 0 (signed x0) (signed y0) (signed x1) (signed y1) colour intensity
record_bytes part (Levels clock l1 l2 l3 l4) = record_row clock (levels_kind part) l1 l2 l3 l4 0 0
record_bytes part (Latch clock value) = record_row clock 3 value 0 0 0 0 0
record_bytes part (WatchdogReset clock) = record_row clock 4 0 0 0 0 0 0

-- one list of records, in order
unfoldable pub records_bytes : List PartRecord → List ℕ
records_bytes records = flat_map (λ made. record_bytes made.0 made.1) records
