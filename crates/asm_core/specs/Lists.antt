-- Lists of expressions, which commas part. This project's own choice.
use Rattle.std.specs.Prelude.{ℕ, ◌<◌, ◌*◌, List, [], ◌∷◌, Option, Some, IsSome, length, unwrap_or}
use Rattle.std.specs.Option.{option_and_then, option_map}
use Rattle.rom_image.specs.declared.image.TheConstants.{PROGRAM_ROM_LEN}
use Rattle.asm_core.specs.declared.word.Word.{Word}
use Rattle.asm_core.specs.declared.cell.Cell.{Cell}
use Rattle.asm_core.specs.declared.cell.Field.{Field}
use Rattle.asm_core.specs.declared.cell.Place.{Place}
use Rattle.asm_core.specs.declared.expression.Expression.{Expression}
use Rattle.asm_core.specs.Expressions.{expression_of}

-- the field of a cell that holds one expression's value
abbrev pub value_field : Place → Expression → Field
value_field place e = record { expression = e; origin = 0; place = place }

-- a cell that holds one expression's value
abbrev pub value_cell : Place → ℕ → Expression → Cell
value_cell place size e = record { size = size; base = 0; fields = value_field place e ∷ [] }

-- a cell for each item of a list
unfoldable pub cells_of : Place → ℕ → List (List Word) → Option (List Cell)
cells_of place size [] = Some []
cells_of place size (item ∷ items) =
    option_and_then (λ e. option_map (λ cells. value_cell place size e ∷ cells) (cells_of place size items)) (expression_of item)

-- the cells of a list whose items are all expressions
abbrev pub list_cells : Place → ℕ → List (List Word) → List Cell
list_cells place size items = unwrap_or (cells_of place size items) []

-- each item of a list is an expression, and together they give more bytes than the largest ROM has
pub record IsLong (place : Place) (size : ℕ) (items : List (List Word)) : Type 0 where
  pub read : IsSome (cells_of place size items)
  pub long : PROGRAM_ROM_LEN < length items * size
