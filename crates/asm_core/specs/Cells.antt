-- Cells: what a statement puts into bytes. This project's own choice.
use Rattle.std.specs.Prelude.{ℕ, ◌==◌, ◌+◌, ◌*◌, ◌/◌, ◌%◌, ◌^◌, ◌≤◌, zero, suc, Bool, true, not, ◌&&◌, ◌||◌, List, []}
use Rattle.std.specs.Prelude.{◌∷◌, length, sum_by, All, unwrap_or, is_some, if◌then◌else◌, ℤ, pos, ◌-ℤ◌, int_le}
use Rattle.std.specs.List.{flat_map, list_all}
use Rattle.std.specs.Option.{option_map_or}
use Rattle.bit_words.specs.Residues.{residue}
use Rattle.asm_core.specs.declared.cell.Place.{Place}
use Rattle.asm_core.specs.declared.cell.Field.{Field}
use Rattle.asm_core.specs.declared.cell.Cell.{Cell}
use Rattle.asm_core.specs.Expressions.{NameValues, value_of}

-- a value is in a range, and even where that is asked
abbrev pub is_in_range : ℤ → ℤ → Bool → ℤ → Bool
is_in_range low high even value = int_le low value && int_le value high && (not even || residue 2 value == 0)

-- a place takes this value
abbrev pub takes : Place → ℤ → Bool
takes place value = is_in_range place.low place.high place.even value

-- what a place counts by: where even values are asked, it holds half of them
abbrev pub unit_of : Place → ℕ
unit_of place = if place.even then 2 else 1

-- the number that holds a value in a place: its bits, in two's complement, at their place in the
-- cell
abbrev pub held : Place → ℤ → ℕ
held place value = residue (unit_of place * 2 ^ place.bits) value / unit_of place * 2 ^ place.shift

-- the value in a field, counted from where the field counts from
abbrev pub field_value : Field → ℤ → ℤ
field_value field value = value -ℤ pos field.origin

-- a field takes its expression's value, or that isn't known
abbrev pub is_fine : NameValues → Field → Bool
is_fine names field = option_map_or (λ value. takes field.place (field_value field value)) (value_of names field.expression) true

-- a field's expression has a value
abbrev pub is_known : NameValues → Field → Bool
is_known names field = is_some (value_of names field.expression)

-- what a field adds to its cell
abbrev pub field_number : NameValues → Field → ℕ
field_number names field = held field.place (field_value field (unwrap_or (value_of names field.expression) (pos 0)))

-- the number of a cell: its own, and what its fields add
abbrev pub cell_number : NameValues → Cell → ℕ
cell_number names cell = cell.base + sum_by (λ field. field_number names field) cell.fields

-- the lowest bytes of a number, so many, the lowest first
unfoldable pub low_bytes : ℕ → ℕ → List ℕ
low_bytes zero n = []
low_bytes (suc count) n = n % 256 ∷ low_bytes count (n / 256)

-- the bytes of a cell
abbrev pub cell_bytes : NameValues → Cell → List ℕ
cell_bytes names cell = low_bytes cell.size (cell_number names cell)

-- the bytes of a statement
abbrev pub cells_bytes : NameValues → List Cell → List ℕ
cells_bytes names cells = flat_map (λ cell. cell_bytes names cell) cells

-- all fields of a statement take their values, or these aren't known
abbrev pub all_fine : NameValues → List Cell → Bool
all_fine names cells = list_all (λ cell. list_all (λ field. is_fine names field) cell.fields) cells

-- all expressions of a statement have a value
abbrev pub all_known : NameValues → List Cell → Bool
all_known names cells = list_all (λ cell. list_all (λ field. is_known names field) cell.fields) cells

-- how many bytes a statement has
abbrev pub size_of : List Cell → ℕ
size_of cells = sum_by (λ cell. cell.size) cells

-- a place lies in a cell's 32 bits
abbrev pub IsFieldPlace : Place → Type 0
IsFieldPlace place = place.bits + place.shift ≤ 32

-- a cell has one to four bytes, three fields at most, and each of them lies in it
pub record IsCell (cell : Cell) : Type 0 where
  pub some : 1 ≤ cell.size
  pub few : cell.size ≤ 4
  pub fields : length cell.fields ≤ 3
  pub places : All (λ field. IsFieldPlace field.place) cell.fields
