-- Values of names in maps.
use Rattle.std.proofs.Common.{◌≡◌, ◌≢◌, ℕ, zero, suc, ◌<◌, List, [], ◌∷◌, true, false, Some, inl, inr, refl, ap, sym, ◌∙◌, bytes_eq, length, slice_set, None, ◌++◌, map, Bool, ℤ, if◌then◌else◌, arith}
use Rattle.std.proofs.lemmas.Bool.Decides.{eqb_tells}
use Rattle.std.proofs.lemmas.List.{map-append}
use Rattle.std.proofs.lemmas.Map.Text.{btree_map_updates_str}
use Rattle.std.proofs.lemmas.Slice.Eq.{bytes_eq-Decides}
use Rattle.std.specs.Borrow.{Bor}
use Rattle.asm_core.specs.declared.name_maps.TheConstants.{MAPS}
use Rattle.std.specs.BTreeMap.{BTreeMap, Updates}
use Rattle.std.specs.Cmp.Lexicographic.{slice_cmp}
use Rattle.std.specs.List.{slice_get}
use Rattle.std.specs.Ordering.{nat_cmp}
use Rattle.asm_text.proofs.Parting.{bool_cases}
use Rattle.asm_core.specs.NameMaps.{HasValues, map_of, value_in}
use Rattle.asm_core.specs.Expressions.{NameValues, value_of_name}
use Rattle.std.specs.Map.{lookup}

-- a list with an item changed: that item
set-here : {X : Type 0} (xs : List X) (i : ℕ) (y : X) → i < length xs → slice_get (slice_set xs i y) i ≡ Some y
set-here [] i y within = absurd (omega (arith, within))
set-here (x ∷ xs) zero y within = refl
set-here (x ∷ xs) (suc i) y within = set-here xs i y (omega (arith, within))

-- and another
set-other : {X : Type 0} (xs : List X) (i j : ℕ) (y : X) → j ≢ i → slice_get (slice_set xs i y) j ≡ slice_get xs j
set-other [] i j y apart = refl
set-other (x ∷ xs) zero zero y apart = absurd (apart refl)
set-other (x ∷ xs) zero (suc j) y apart = refl
set-other (x ∷ xs) (suc i) zero y apart = refl
set-other (x ∷ xs) (suc i) (suc j) y apart = set-other xs i j y (λ same. apart (ap (λ n. suc n) same))

-- maps of which one takes a name have its value, and else the values that they had
pub value-after : (maps : List (BTreeMap (Bor (List ℕ)) ℤ)) (name : Bor (List ℕ)) (value : ℤ) (before after : BTreeMap (Bor (List ℕ)) ℤ) (other : List ℕ)
    → map_of name.now < length maps → slice_get maps (map_of name.now) ≡ Some before → Updates (λ x y. slice_cmp nat_cmp x.now y.now) before after name (Some value)
    → value_in (slice_set maps (map_of name.now) after) other ≡ (if bytes_eq name.now other then Some value else value_in maps other)
value-after maps name value before after other within found updates =
    let stated = btree_map_updates_str name.now before after (Some value) updates other in
    elim (eqb_tells (map_of other) (map_of name.now)) [
      | inl same ↦ rw (same.1, set-here maps (map_of name.now) after within, found) stated
      | inr apart ↦
          let place : map_of other ≢ map_of name.now = apart.1 in
          rw (set-other maps (map_of name.now) (map_of other) after place)
          (elim (bool_cases (bytes_eq name.now other)) [
            | inl equal ↦ absurd (place (ap (λ bytes. map_of bytes) (sym ((bytes_eq-Decides name.now other).0 equal))))
            | inr differ ↦ rw differ refl
          ])
    ]

-- a list with one more entry: a name that isn't its
push-other : {K X : Type 0} (test : K → Bool) (entries : List (K × X)) (entry : K × X) → test entry.0 ≡ false → lookup test (entries ++ entry ∷ []) ≡ lookup test entries
push-other test [] entry differs = rw differs refl
push-other test (first ∷ entries) entry differs = rw (push-other test entries entry differs) refl

-- and one that is
push-here : {K X : Type 0} (test : K → Bool) (entries : List (K × X)) (entry : K × X) → test entry.0 ≡ true → lookup test entries ≡ None → lookup test (entries ++ entry ∷ []) ≡ Some entry.1
push-here test [] entry same absent = rw same refl
push-here test (first ∷ entries) entry same absent = elim (bool_cases (test first.0)) [
  | inl found ↦ let some : Some first.1 ≡ None = rw found at absent in absurd (cc)
  | inr other ↦ rw other (push-here test entries entry same (rw other at absent))
]

-- names with one more have its value, and else the values that they had
pub name-after : (names : NameValues) (name other : List ℕ) (value : ℤ) → value_of_name names name ≡ None
    → (if bytes_eq name other then Some value else value_of_name names other) ≡ value_of_name (names ++ (name, value) ∷ []) other
name-after names name other value absent = elim (bool_cases (bytes_eq name other)) [
  | inl same ↦
      let is : name ≡ other = (bytes_eq-Decides name other).0 same in
      let found : bytes_eq other name ≡ true = (bytes_eq-Decides other name).1 (sym is) in
      rw same (sym (push-here (λ known. bytes_eq other known) names (name, value) found (rw is at absent)))
  | inr differs ↦
      let apart : bytes_eq other name ≡ false = elim (bool_cases (bytes_eq other name)) [
        | inl same ↦ let is : bytes_eq name other ≡ true = (bytes_eq-Decides name other).1 (sym ((bytes_eq-Decides other name).0 same)) in absurd (cc)
        | inr other ↦ other
      ] in
      rw differs (sym (push-other (λ known. bytes_eq other known) names (name, value) apart))
]

-- maps that have the values of names take one more
pub values-after : (before made after : List (BTreeMap (Bor (List ℕ)) ℤ)) (names : NameValues) (name : List ℕ) (value : ℤ) → HasValues before names → value_of_name names name ≡ None
    → ((other : List ℕ) → value_in made other ≡ value_in before other) → length after ≡ MAPS
    → ((other : List ℕ) → value_in after other ≡ (if bytes_eq name other then Some value else value_in made other)) → HasValues after (names ++ (name, value) ∷ [])
values-after before made after names name value has absent same count stated = record {
  count = λ some. count;
  values = λ other. stated other ∙ ap (λ found. if bytes_eq name other then Some value else found) (same other ∙ has.values other) ∙ name-after names name other value absent;
}

-- the names of entries with one more
pub names-pushed : (before after : List (Bor (List ℕ) × ℤ)) (entry : Bor (List ℕ) × ℤ) → after ≡ before ++ entry ∷ []
    → map {B = List ℕ × ℤ} (λ one. (one.0.now, one.1)) after ≡ map {B = List ℕ × ℤ} (λ one. (one.0.now, one.1)) before ++ (entry.0.now, entry.1) ∷ []
names-pushed before after entry is = rw is (map-append {B = List ℕ × ℤ} (λ one. (one.0.now, one.1)) before (entry ∷ []))
