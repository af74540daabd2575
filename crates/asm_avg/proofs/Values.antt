-- The values in a statement's fields.
use Rattle.std.proofs.Common.{◌≡◌, ℕ, ◌+◌, ◌∙◌, Bool, true, false, ◌&&◌, List, [], ◌∷◌, map, sum_by, Option, Some, is_some, refl, ap, ℤ, pos, ◌-ℤ◌, arith}
use Rattle.std.specs.List.{list_all}
use Rattle.std.proofs.lemmas.List.Sums.{sum_by-cons}
use Rattle.std.specs.Option.{option_and_then}
use Rattle.asm_core.specs.declared.cell.Field.{Field}
use Rattle.asm_core.specs.declared.cell.Place.{Place}
use Rattle.asm_core.specs.declared.expression.Expression.{Expression}
use Rattle.asm_core.specs.declared.word.Word.{Word}
use Rattle.asm_core.proofs.Covering.{both_pass}
use Rattle.asm_core.specs.Cells.{field_number, held, is_fine, is_known, takes}
use Rattle.asm_core.specs.Expressions.{NameValues, expression_of, value_of}
use Rattle.asm_avg.specs.Operands.{fields_of}

-- these places take these values, one each
abbrev pub taken : ℕ → List Place → List ℤ → Bool
taken origin [] [] = true
taken origin [] (v ∷ vs) = false
taken origin (place ∷ places) [] = false
taken origin (place ∷ places) (v ∷ vs) = takes place (v -ℤ pos origin) && taken origin places vs

-- what these places hold of these values, together
abbrev pub added : ℕ → List Place → List ℤ → ℕ
added origin [] vs = 0
added origin (place ∷ places) [] = 0
added origin (place ∷ places) (v ∷ vs) = held place (v -ℤ pos origin) + added origin places vs

-- the value of an operand
abbrev pub value_in : NameValues → List Word → Option ℤ
value_in names item = option_and_then (λ e. value_of names e) (expression_of item)

-- the values in fields, as their places see them
pub record Valued (names : NameValues) (origin : ℕ) (places : List Place) (items : List (List Word)) (fields : List Field) : Type 0 where
  pub values : List ℤ
  pub items_are : map (λ item. value_in names item) items ≡ map (λ v. Some v) values
  pub fine : list_all (λ field. is_fine names field) fields ≡ taken origin places values
  pub number : sum_by (λ field. field_number names field) fields ≡ added origin places values

-- the first field of a statement, and the others
fields-first : (origin : ℕ) (place : Place) (places : List Place) (item : List Word) (items : List (List Word)) (fields : List Field) → fields_of origin (place ∷ places) (item ∷ items) ≡ Some fields
    → (e : Expression) × (rest : List Field) × (expression_of item ≡ Some e) × (fields_of origin places items ≡ Some rest) × (fields ≡ record { expression = e; origin = origin; place = place } ∷ rest)
unfolding fields_of
fields-first origin place places item items fields is = grind arith

some_value : (o : Option ℤ) → is_some o ≡ true → (v : ℤ) × (o ≡ Some v)
some_value o some = grind arith

-- one field more
valued_more : (names : NameValues) (origin : ℕ) (place : Place) (places : List Place) (item : List Word) (items : List (List Word)) (e : Expression) (fields : List Field) (v : ℤ)
    → expression_of item ≡ Some e → value_of names e ≡ Some v → Valued names origin places items fields
    → Valued names origin (place ∷ places) (item ∷ items) (record { expression = e; origin = origin; place = place } ∷ fields)
valued_more names origin place places item items e fields v is worth rest = record {
  values = v ∷ rest.values;
  items_are = rw (is, worth) (ap (λ all. Some v ∷ all) rest.items_are);
  fine = rw worth (ap (λ all. takes place (v -ℤ pos origin) && all) rest.fine);
  number =
      sum_by-cons (λ field. field_number names field) (record { expression = e; origin = origin; place = place }) fields
      ∙ rw worth (ap (λ all. held place (v -ℤ pos origin) + all) rest.number);
}

-- the fields of a statement have values where all of them are known
pub valued : (names : NameValues) (origin : ℕ) (places : List Place) (items : List (List Word)) (fields : List Field)
    → fields_of origin places items ≡ Some fields → list_all (λ field. is_known names field) fields ≡ true → Valued names origin places items fields
unfolding fields_of
valued names origin [] [] [] is known = record { values = []; items_are = refl; fine = refl; number = refl }
valued names origin [] [] (field ∷ fields) is known = cc
valued names origin [] (item ∷ items) fields is known = cc
valued names origin (place ∷ places) [] fields is known = cc
valued names origin (place ∷ places) (item ∷ items) fields is known =
    let (e, rest, good, more, same) = fields-first origin place places item items fields is in
    let (first, others) = both_pass (is_some (value_of names e)) (list_all (λ field. is_known names field) rest) (rw same at known) in
    let (v, worth) = some_value (value_of names e) first in
    rw same (valued_more names origin place places item items e rest v good worth (valued names origin places items rest more others))
