-- The fields of a statement, place by place.
use Rattle.std.proofs.Common.{◌≡◌, ℕ, List, [], ◌∷◌, ◌+◌, ◌<◌, Some, refl, append_assoc, append-nil, length, drop, get_or, true, false, if◌then◌else◌}
use Rattle.std.proofs.lemmas.Grind.{common_steps}
use Rattle.std.proofs.lemmas.List.{drop_all, drop_more}
use Rattle.std.specs.List.{onto_first}
use Rattle.std.specs.Option.{option_map}
use Rattle.asm_core.specs.declared.cell.Place.{Place}
use Rattle.asm_core.specs.declared.expression.Expression.{Expression}
use Rattle.asm_core.specs.declared.word.Word.{Word}
use Rattle.asm_core.specs.Expressions.{expression_of}
use Rattle.asm_core.specs.Words.{is_comma, items_of}
use Rattle.asm_avg.specs.Operands.{fields_of}
use Rattle.asm_avg.specs.Statements.{target}

-- a list has an item
some_item : (ws : List Word) → (item : List Word) × (items : List (List Word)) × (items_of ws ≡ item ∷ items)
unfolding items_of
some_item [] = ([], [], refl)
some_item (w ∷ ws) = elim (is_comma w) as (λ comma. (item : List Word) × (items : List (List Word)) × ((if comma then [] ∷ items_of ws else onto_first w (items_of ws)) ≡ item ∷ items)) [
  | true ↦ ([], items_of ws, refl)
  | false ↦ onto_some w (items_of ws)
]
  where
    onto_some : (w : Word) (items : List (List Word)) → (item : List Word) × (rest : List (List Word)) × (onto_first w items ≡ item ∷ rest)
    onto_some w [] = (w ∷ [], [], refl)
    onto_some w (item ∷ items) = (w ∷ item, items, refl)

pub items-some : (ws : List Word) → items_of ws ≡ get_or (items_of ws) 0 [] ∷ drop 1 (items_of ws)
items-some ws = rw ((some_item ws).2) refl

-- what stands from a place of a list on has a first element
pub drop-place : (places : List Place) (i : ℕ) → i < length places → drop i places ≡ get_or places i target ∷ drop (i + 1) places
drop-place places i inside = drop_more places i target inside

-- a place's item
pub fields-next : (origin : ℕ) (places : List Place) (i : ℕ) (any : Place) (item : List Word) (items : List (List Word)) (e : Expression)
    → i < length places → Some e ≡ expression_of item
    → fields_of origin (drop i places) (item ∷ items)
    ≡ option_map (λ fields. record { expression = e; origin = origin; place = get_or places i any } ∷ fields) (fields_of origin (drop (i + 1) places) items)
unfolding fields_of
fields-next origin places i any item items e inside good = rw (drop_more places i any inside, ← good) refl

pub ruleset steps = (common_steps, append_assoc, append-nil, drop_all, drop-place, items-some)
