-- The operands of a processor source, as they are written. This project's own choice.
use Rattle.std.specs.Prelude.{ℕ, Bool, false, List, [], ◌∷◌, drop, Option, Some, None, if◌then◌else◌}
use Rattle.std.specs.Str.{str_eq_ignore_ascii_case}
use Rattle.std.specs.Option.{option_map, option_map_or}
use Rattle.asm_core.specs.declared.word.Word.{Word}
use Rattle.asm_core.specs.declared.word.Word.TheVariants as word
use Rattle.asm_core.specs.Words.{before_close, begins_with, items_of}
use Rattle.asm_cpu.specs.declared.operand.Shape.{Shape}
use Rattle.asm_cpu.specs.declared.operand.Shape.TheVariants.{Immediate, Direct, IndexedX, IndexedY, Indirect, IndirectX, IndirectY}

-- the word is this letter, of either case
abbrev pub is_letter : ℕ → Word → Bool
is_letter letter (word.Name name) = str_eq_ignore_ascii_case name (letter ∷ [])
is_letter letter (word.Number n) = false
is_letter letter (word.Mark byte) = false

-- the words are this letter alone, of either case
abbrev pub is_register : ℕ → List Word → Bool
is_register letter [] = false
is_register letter (w ∷ []) = is_letter letter w
is_register letter (w ∷ v ∷ ws) = false

-- `x` and `)`
abbrev pub closes_x : List Word → Bool
closes_x ws = option_map_or (is_register 120) (before_close ws) false

-- an operand without a comma, and the words of its expression: `#e`, `(e)` or `e`
abbrev pub whole_shape : List Word → Option (Shape × List Word)
whole_shape ws =
    if begins_with 35 ws then Some (Immediate, drop 1 ws)
    else (if begins_with 40 ws then option_map (λ inner. (Indirect, inner)) (before_close (drop 1 ws))
    else Some (Direct, ws))

-- what stands behind `(`, up to the comma and behind it: `e` and `x)`, or `e)` and `y`
abbrev pub indirect_shape : List Word → List Word → Option (Shape × List Word)
indirect_shape ws index =
    if closes_x index then Some (IndirectX, ws)
    else (if is_register 121 index then option_map (λ inner. (IndirectY, inner)) (before_close ws)
    else None)

-- an operand up to its comma and behind it, and the words of its expression: `(e,x)`, `(e),y`,
-- `e,x` or `e,y`
abbrev pub indexed_shape : List Word → List Word → Option (Shape × List Word)
indexed_shape ws index =
    if begins_with 40 ws then indirect_shape (drop 1 ws) index
    else (if is_register 120 index then Some (IndexedX, ws)
    else (if is_register 121 index then Some (IndexedY, ws)
    else None))

-- an operand of these items, and the words of its expression; none has more than one comma
abbrev pub shape_of_items : List (List Word) → Option (Shape × List Word)
shape_of_items [] = None
shape_of_items (ws ∷ []) = whole_shape ws
shape_of_items (ws ∷ index ∷ []) = indexed_shape ws index
shape_of_items (ws ∷ index ∷ more ∷ items) = None

-- the shape of an operand, and the words of its expression
abbrev pub shape_of : List Word → Option (Shape × List Word)
shape_of ws = shape_of_items (items_of ws)
