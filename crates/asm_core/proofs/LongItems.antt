-- Lists of expressions that are too long for any ROM.
use Rattle.std.proofs.Common.{◌≡◌, ℕ, ◌+◌, ◌*◌, ◌<◌, ◌≤◌, true, false, List, [], ◌∷◌, Option, Some, None, Err, length, refl, ◌∙◌, arith}
use Rattle.std.specs.List.{All}
use Rattle.std.specs.Option.{IsSome, option_and_then, option_map, option_map_or, unwrap_or}
use Rattle.std.proofs.lemmas.Bool.Decides.{nat_tests}
use Rattle.std.proofs.lemmas.List.Elements.{All-cons, All-nil}
use Rattle.std.proofs.lemmas.List.Sums.{sum_by-cons}
use Rattle.rom_image.specs.declared.image.TheConstants.{PROGRAM_ROM_LEN}
use Rattle.asm_text.specs.declared.fault.AsmCause.TheVariants.{OutOfRange, OutsideRom}
use Rattle.asm_text.specs.declared.fault.AsmFault.TheVariants.{Line}
use Rattle.asm_core.specs.declared.cell.Cell.{Cell}
use Rattle.asm_core.specs.declared.cell.Field.{Field}
use Rattle.asm_core.specs.declared.cell.Place.{Place}
use Rattle.asm_core.specs.declared.dialect.Rom.{Rom}
use Rattle.asm_core.specs.declared.expression.Expression.{Expression}
use Rattle.asm_core.specs.declared.word.Word.{Word}
use Rattle.asm_core.specs.Cells.{IsCell, IsFieldPlace, all_fine, size_of}
use Rattle.asm_core.specs.Expressions.{expression_of}
use Rattle.asm_core.specs.PassOne.{IsRom}
use Rattle.asm_core.specs.Forms.{AreCells}
use Rattle.asm_core.specs.Lists.{IsLong, cells_of, list_cells, value_cell, value_field}
use Rattle.asm_core.specs.Passes.{Known, is_in_rom, room_for}
use Rattle.asm_core.specs.Words.{items_of}

-- the items that are left of a list, where there is one
abbrev pub items_left : Option (List Word) → List (List Word)
items_left list = option_map_or (λ rest. items_of rest) list []

-- the cells of an item and of those behind it
abbrev joined : Place → ℕ → Option Expression → Option (List Cell) → Option (List Cell)
joined place size first rest = option_and_then (λ e. option_map (λ cells. value_cell place size e ∷ cells) rest) first

-- how many bytes items give
list-size : (place : Place) (size : ℕ) (items : List (List Word)) → IsSome (cells_of place size items) → size_of (list_cells place size items) ≡ length items * size
unfolding cells_of
list-size place size [] some = omega arith
list-size place size (item ∷ items) some = go (expression_of item) (cells_of place size items) some (list-size place size items)
  where
    go : (first : Option Expression) (rest : Option (List Cell)) → IsSome (joined place size first rest) → (IsSome rest → size_of (unwrap_or rest []) ≡ length items * size)
        → size_of (unwrap_or (joined place size first rest) []) ≡ length (item ∷ items) * size
    go None rest some more = absurd (cc)
    go (Some e) None some more = absurd (cc)
    go (Some e) (Some cells) some more = sum_by-cons (λ (c : Cell). c.size) (value_cell place size e) cells ∙ omega (arith, more refl)

-- the cells of items are a statement's
value-cell : (place : Place) (size : ℕ) (e : Expression) → 1 ≤ size → size ≤ 4 → IsFieldPlace place → IsCell (value_cell place size e)
value-cell place size e some few inside = record {
  some = some;
  few = few;
  fields = omega arith;
  places = All-cons (λ (f : Field). IsFieldPlace f.place) (value_field place e) [] inside (All-nil _);
}

list-each : (place : Place) (size : ℕ) (items : List (List Word)) → 1 ≤ size → size ≤ 4 → IsFieldPlace place → All IsCell (list_cells place size items)
unfolding cells_of
list-each place size [] some few inside = All-nil IsCell
list-each place size (item ∷ items) some few inside = each (expression_of item) (cells_of place size items) (list-each place size items some few inside)
  where
    each : (first : Option Expression) (rest : Option (List Cell)) → All IsCell (unwrap_or rest []) → All IsCell (unwrap_or (joined place size first rest) [])
    each None rest all = All-nil IsCell
    each (Some e) None all = All-nil IsCell
    each (Some e) (Some cells) all = All-cons IsCell (value_cell place size e) cells (value-cell place size e some few inside) all

pub list-cells : (place : Place) (size : ℕ) (items : List (List Word)) → 1 ≤ size → size ≤ 4 → IsFieldPlace place → IsSome (cells_of place size items) → PROGRAM_ROM_LEN < length items * size
    → AreCells (list_cells place size items)
list-cells place size items some few inside read long = record {
  some = has_some (list_cells place size items) (rw (← list-size place size items read) at long);
  each = list-each place size items some few inside;
}
  where
    has_some : (cells : List Cell) → PROGRAM_ROM_LEN < size_of cells → 1 ≤ length cells
    has_some [] more = absurd (omega (arith, more))
    has_some (cell ∷ cells) more = omega arith

-- what items are read as
pub list-read : (place : Place) (size : ℕ) (items : List (List Word)) → IsSome (cells_of place size items) → Some (list_cells place size items) ≡ cells_of place size items
list-read place size items read = same (cells_of place size items) read
  where
    same : (o : Option (List Cell)) → IsSome o → Some (unwrap_or o []) ≡ o
    same None some = absurd (cc)
    same (Some cells) some = refl

-- a long list gives more bytes than a ROM has
pub long-size : (place : Place) (size : ℕ) (items : List (List Word)) → IsLong place size items → PROGRAM_ROM_LEN < size_of (list_cells place size items)
long-size place size items long = rw (list-size place size items long.read) long.long

-- a ROM is no longer than the program ROM: address 6000, behind the vector ROM, has no place in an
-- image
rom-size : (rom : Rom) → IsRom rom → rom.high ≤ rom.low + PROGRAM_ROM_LEN
rom-size rom is = grind (arith, nat_tests, is.inside rom.low, is.inside 0x6000)

-- a line that gives more bytes than a ROM has
pub room-long : (rom : Rom) (number : ℕ) (known : Known) (cells : List Cell) → IsRom rom → all_fine known.names cells ≡ true → PROGRAM_ROM_LEN < size_of cells
    → room_for rom number known cells ≡ Err (Line number OutsideRom)
room-long rom number known cells is fine long =
    let outside : is_in_rom rom known.at (size_of cells) ≡ false = grind (arith, nat_tests, rom-size rom is) in
    rw (fine, outside) refl

-- a line of which a value is out of range
pub room-unfit : (rom : Rom) (number : ℕ) (known : Known) (cells : List Cell) → all_fine known.names cells ≡ false → room_for rom number known cells ≡ Err (Line number OutOfRange)
room-unfit rom number known cells unfit = rw unfit refl

pub ruleset rooms = (room-long, room-unfit)

pub ruleset lists = (list-cells, list-read)

pub ruleset lengths = (long-size, nat_tests)
