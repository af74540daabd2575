-- The operands of a generator's statement. This project's own choice.
use Rattle.std.specs.Prelude.{ℕ, List, [], ◌∷◌, Option, Some, None}
use Rattle.std.specs.Option.{option_and_then, option_map}
use Rattle.asm_core.specs.declared.cell.Field.{Field}
use Rattle.asm_core.specs.declared.cell.Place.{Place}
use Rattle.asm_core.specs.declared.word.Word.{Word}
use Rattle.asm_core.specs.Expressions.{expression_of}
use Rattle.asm_core.specs.Words.{items_of}

-- the operands behind a statement's first word, which commas part: none where there is no word
abbrev pub operands_of : List Word → List (List Word)
operands_of [] = []
operands_of (w ∷ ws) = items_of (w ∷ ws)

-- the fields of a statement that has these places: an expression for each of them
unfoldable pub fields_of : ℕ → List Place → List (List Word) → Option (List Field)
fields_of origin [] [] = Some []
fields_of origin [] (item ∷ items) = None
fields_of origin (place ∷ places) [] = None
fields_of origin (place ∷ places) (item ∷ items) =
    option_and_then (λ e. option_map (λ fields. record { expression = e; origin = origin; place = place } ∷ fields) (fields_of origin places items)) (expression_of item)
