-- The fields of a format of fixed lengths: where each stands, how many bytes it has, which bytes
-- are in its range, and how it is spelled.
use Rattle.std.specs.Prelude.{◌≡◌, ◌≤◌, ℕ, ◌/◌, ◌%◌, ℤ, Bool, List, [], ◌∷◌, ◌+◌, map, slice_index, None}
use Rattle.std.specs.Int.{Width, w16, w32, w64, byte_len, from_le_bytes, to_le_bytes, cast_signed, cast_unsigned, from_bool}
use Rattle.board_base.specs.Cpu.{CpuValue}
use Rattle.board_base.specs.Ranges.{IsWithin}
use Rattle.cpu_table.specs.Opcodes.{row_of}
use Rattle.cpu_core.specs.Places.{IsMiddle}

-- the kinds of ranges
pub data Range : Type 0 where
  anything : Range
  byte_at_most : ℕ → Range
  byte_from_1 : ℕ → Range
  number_at_most : Width → ℕ → Range
  number_from_1 : Width → ℕ → Range
  signed_within : ℕ → Range
  letters : Range
  six_zeros : Range
  flags : Range
  undocumented_opcode : Range
  place : Range

-- bytes are in a range, in a file of this processor; numbers stand low byte first, signed ones in
-- two's complement
abbrev pub IsInFieldRange : CpuValue → Range → List ℕ → Type 0
IsInFieldRange cpu anything piece = Unit {0}
IsInFieldRange cpu (byte_at_most greatest) piece = slice_index piece 0 ≤ greatest
IsInFieldRange cpu (byte_from_1 greatest) piece = (1 ≤ slice_index piece 0) × (slice_index piece 0 ≤ greatest)
IsInFieldRange cpu (number_at_most w greatest) piece = from_le_bytes w piece ≤ greatest
IsInFieldRange cpu (number_from_1 w greatest) piece = (1 ≤ from_le_bytes w piece) × (from_le_bytes w piece ≤ greatest)
IsInFieldRange cpu (signed_within n) piece = IsWithin n (cast_signed w32 (from_le_bytes w32 piece))
IsInFieldRange cpu letters piece = (slice_index piece 0 ≡ 0x47) × (slice_index piece 1 ≡ 0x56) × (slice_index piece 2 ≡ 0x53)
IsInFieldRange cpu six_zeros piece =
    (slice_index piece 0 ≡ 0) × (slice_index piece 1 ≡ 0) × (slice_index piece 2 ≡ 0) ×
    (slice_index piece 3 ≡ 0) × (slice_index piece 4 ≡ 0) × (slice_index piece 5 ≡ 0)
IsInFieldRange cpu flags piece = slice_index piece 0 / 16 % 4 ≡ 0
IsInFieldRange cpu undocumented_opcode piece = row_of (slice_index piece 0) ≡ None
IsInFieldRange cpu place piece = IsMiddle cpu

-- a field has so many bytes, and they have a range
pub record Field : Type 0 where
  pub width : ℕ
  pub range : Range

-- so many bytes, whatever they are
abbrev pub any : ℕ → Field
any n = record { width = n; range = anything }

-- a byte that is at most so much
abbrev pub byte_to : ℕ → Field
byte_to greatest = record { width = 1; range = byte_at_most greatest }

-- a number that is at most so much
abbrev pub number_to : Width → ℕ → Field
number_to w greatest = record { width = byte_len w; range = number_at_most w greatest }

-- a number from 1 to so much
abbrev pub count_to : Width → ℕ → Field
count_to w greatest = record { width = byte_len w; range = number_from_1 w greatest }

-- a signed number of 32 bits that is no further than so much from 0
abbrev pub signed_to : ℕ → Field
signed_to n = record { width = 4; range = signed_within n }

-- how a flag is spelled
abbrev pub flag : Bool → List ℕ
flag b = from_bool b ∷ []

-- a number of 16 bits, low byte first
abbrev pub u16_bytes : ℕ → List ℕ
u16_bytes n = to_le_bytes w16 n

-- a number of 32 bits, low byte first
abbrev pub u32_bytes : ℕ → List ℕ
u32_bytes n = to_le_bytes w32 n

-- a number of 64 bits, low byte first
abbrev pub u64_bytes : ℕ → List ℕ
u64_bytes n = to_le_bytes w64 n

-- a signed number of 32 bits, in two's complement
abbrev pub i32_bytes : ℤ → List ℕ
i32_bytes z = to_le_bytes w32 (cast_unsigned w32 z)

-- what ranges go by in a file: the greatest clock, whether the processor is jammed, whether it
-- stands inside no sequence, and whether a vector is being drawn
pub record Facts : Type 0 where
  pub last : ℕ
  pub jammed : Bool
  pub idle : Bool
  pub drawing : Bool

-- a row of a table: the offset of a field and the number of its bytes, its range, and how it is
-- spelled
pub record Row (V : Type 0) : Type 0 where
  pub at : ℕ
  pub width : ℕ
  pub range : Facts → Range
  pub spelled : V → List ℕ

-- at an offset, a field
abbrev pub row : {V : Type 0} → ℕ → Field → (V → List ℕ) → Row V
row at f spelled = record { at = at; width = f.width; range = λ _. f.range; spelled = spelled }

-- at an offset, so many bytes, whose range goes by the file
abbrev pub row_by : {V : Type 0} → ℕ → ℕ → (Facts → Range) → (V → List ℕ) → Row V
row_by at width range spelled = record { at = at; width = width; range = range; spelled = spelled }

-- the rows of what is a part of something
abbrev pub rows_of : {V W : Type 0} → (W → V) → List (Row V) → List (Row W)
rows_of part rows = map (λ r. record { at = r.at; width = r.width; range = r.range; spelled = λ w. r.spelled (part w) }) rows

-- the same rows, so many bytes further on
abbrev pub rows_at : {V : Type 0} → ℕ → List (Row V) → List (Row V)
rows_at n rows = map (λ r. record { at = n + r.at; width = r.width; range = r.range; spelled = r.spelled }) rows

-- the fields of a table, in a file that states this
abbrev pub fields_of : {V : Type 0} → Facts → List (Row V) → List Field
fields_of facts rows = map (λ r. record { width = r.width; range = r.range facts }) rows

-- the bytes of each field of a table, as a value has them
abbrev pub pieces_of : {V : Type 0} → List (Row V) → V → List (List ℕ)
pieces_of rows value = map (λ r. r.spelled value) rows
