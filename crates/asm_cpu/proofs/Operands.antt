-- The items of an operand.
use Rattle.std.proofs.Common.{◌≡◌, List, [], ◌∷◌, inl, inr, refl, None}
use Rattle.std.specs.List.{onto_first}
use Rattle.asm_text.proofs.Parting.{bool_cases}
use Rattle.asm_core.specs.declared.word.Word.{Word}
use Rattle.asm_core.specs.Words.{is_comma, items_of}
use Rattle.asm_cpu.specs.Operands.{shape_of_items}

onto-many : (w : Word) (ws index : List Word) (items : List (List Word)) → shape_of_items (ws ∷ index ∷ onto_first w items) ≡ None
onto-many w ws index [] = refl
onto-many w ws index (item ∷ items) = refl

-- no operand has more than one comma
pub shape-many : (ws index rest : List Word) → shape_of_items (ws ∷ index ∷ items_of rest) ≡ None
unfolding items_of
shape-many ws index [] = refl
shape-many ws index (w ∷ rest) = elim (bool_cases (is_comma w)) [
  | inl comma ↦ rw comma refl
  | inr other ↦ rw other (onto-many w ws index (items_of rest))
]

pub ruleset shapes = (shape-many)
