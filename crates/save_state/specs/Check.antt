-- The code's tables beside the definition's.
use Rattle.std.specs.Prelude.{◌≡◌, ◌≢◌, ◌+◌, ℕ, if◌then◌else◌, List, take, drop, map, slice_index, None, All, Result, MatchResult}
use Rattle.std.specs.Int.{w16, w32, w64}
use Rattle.board_base.specs.Board.{BoardValue}
use Rattle.save_state.specs.declared.bytes.Kind.{Kind}
use Rattle.save_state.specs.declared.bytes.Kind.TheVariants.{Any, Byte, Word, Long, Count, Signed, Letters, Flags, Clock, JamOpcode, SequenceNumber, ClocksDone, ClocksLeft}
use Rattle.save_state.specs.declared.bytes.Field.{Field}
use Rattle.save_state.specs.Fields.{Range, anything, byte_at_most, number_at_most, number_from_1, signed_within, letters, flags, IsInFieldRange, Facts, Row, pieces_of}
use Rattle.save_state.specs.StateBytes.{opcode_range, count_range, left_range, processor_of, facts_of, clock_rows, register_rows, jam_rows, port_rows, divider_rows, vg_rows}
use Rattle.save_state.specs.StateBytes.{pokey_rows, earom_rows, memory_rows}
use Rattle.save_state.specs.Reading.{Holds, IsFirstBroken}

-- the number of bytes of a field
abbrev pub width_of : Kind → ℕ
width_of (Any n) = n
width_of (Byte n) = 1
width_of (Word n) = 2
width_of (Long n) = 4
width_of (Count n) = 4
width_of (Signed n) = 4
width_of Letters = 3
width_of Flags = 1
width_of Clock = 8
width_of JamOpcode = 1
width_of SequenceNumber = 1
width_of ClocksDone = 1
width_of ClocksLeft = 2

-- and its range
abbrev pub range_of : Facts → Kind → Range
range_of facts (Any n) = anything
range_of facts (Byte greatest) = byte_at_most greatest
range_of facts (Word greatest) = number_at_most w16 greatest
range_of facts (Long greatest) = number_at_most w32 greatest
range_of facts (Count greatest) = number_from_1 w32 greatest
range_of facts (Signed n) = signed_within n
range_of facts Letters = letters
range_of facts Flags = flags
range_of facts Clock = number_at_most w64 facts.last
range_of facts JamOpcode = opcode_range facts.jammed
range_of facts SequenceNumber = byte_at_most (if facts.jammed then 0 else 3)
range_of facts ClocksDone = count_range facts.idle
range_of facts ClocksLeft = left_range facts.drawing

-- the bytes at an offset are such a field, in a file of this version
abbrev pub IsInRange : ℕ → List ℕ → ℕ → Kind → Type 0
IsInRange version file at kind =
    IsInFieldRange (processor_of file) (range_of (facts_of version file) kind) (take (width_of kind) (drop at file))

-- where a field stands, how many bytes it has, and their range
abbrev pub Spot : Type 0
Spot = ℕ × ℕ × Range

abbrev pub spot : Facts → ℕ → Field → Spot
spot facts base f = (base + f.0, width_of f.1, range_of facts f.1)

abbrev pub spot_of : Facts → Row BoardValue → Spot
spot_of facts r = (r.at, r.width, r.range facts)

-- a table of the code that begins at this offset has the fields of these rows
abbrev pub AreSame : Facts → ℕ → List Field → List (Row BoardValue) → Type 0
AreSame facts base fields rows = map (spot facts base) fields ≡ map (spot_of facts) rows

-- what is to be answered of the fields of these rows: that they are in their ranges, or else the
-- offset of the first that isn't
abbrev pub IsAnswer : {T : Type 0} → ℕ → List ℕ → List (Row BoardValue) → Result T ℕ → Type 0
IsAnswer version file rows answer = MatchResult answer (λ _. All (Holds version file) rows) (λ at. IsFirstBroken version file rows at)

-- the bytes of the fields of a table that begins at this offset
abbrev pub pieces_in : {V : Type 0} → ℕ → List ℕ → List (Row V) → List (List ℕ)
pieces_in base file rows = map (λ r. take r.width (drop (base + r.at) file)) rows

-- a board as the fields of a file state it
pub record IsDecoded (file : List ℕ) (b : BoardValue) : Type 0 where
  pub clock : pieces_of clock_rows b.clock ≡ pieces_in 0 file clock_rows
  pub registers : pieces_of register_rows b.cpu ≡ pieces_in 0 file register_rows
  pub jam : pieces_of jam_rows b.cpu.jam ≡ pieces_in 0 file jam_rows
  pub ports : pieces_of port_rows b ≡ pieces_in 0 file port_rows
  pub divider : pieces_of divider_rows b.divider ≡ pieces_in 0 file divider_rows
  pub outside : slice_index file 30 ≡ 0 → b.cpu.mid ≡ None
  pub inside : slice_index file 30 ≢ 0 → b.cpu ≡ processor_of file
  pub vg : pieces_of vg_rows b.vg ≡ pieces_in 0 file vg_rows
  pub sound1 : pieces_of pokey_rows b.sound1 ≡ pieces_in 84 file pokey_rows
  pub sound2 : pieces_of pokey_rows b.sound2 ≡ pieces_in 137 file pokey_rows
  pub earom : pieces_of earom_rows b.earom ≡ pieces_in 0 file earom_rows
  pub memory : pieces_of memory_rows b ≡ pieces_in 0 file memory_rows
