-- Values of names in maps. This project's own choice.
use Rattle.std.specs.Prelude.{◌≡◌, ◌≢◌, ℕ, ◌+◌, ◌*◌, ◌%◌, List, length, Option, ℤ}
use Rattle.asm_core.specs.Expressions.{NameValues, value_of_name}
use Rattle.std.specs.Borrow.{Bor}
use Rattle.asm_core.specs.declared.name_maps.TheConstants.{MAPS}
use Rattle.std.specs.BTreeMap.{BTreeMap, get_by}
use Rattle.std.specs.Cmp.Lexicographic.{slice_cmp}
use Rattle.std.specs.List.{fold, slice_get}
use Rattle.std.specs.Option.{option_and_then}
use Rattle.std.specs.Ordering.{nat_cmp}

-- the number of the map that may have a name
abbrev pub map_of : List ℕ → ℕ
map_of name = fold (λ sum byte. (sum * 31 + byte) % MAPS) 0 name

-- the value of a name in its map
abbrev pub value_in : List (BTreeMap (Bor (List ℕ)) ℤ) → List ℕ → Option ℤ
value_in maps name = option_and_then (λ map. get_by (λ key. slice_cmp nat_cmp name key.now) map) (slice_get maps (map_of name))

-- maps, all of them or none, have the values of these names
pub record HasValues (maps : List (BTreeMap (Bor (List ℕ)) ℤ)) (names : NameValues) : Type 0 where
  pub count : length maps ≢ 0 → length maps ≡ MAPS
  pub values : (name : List ℕ) → value_in maps name ≡ value_of_name names name
