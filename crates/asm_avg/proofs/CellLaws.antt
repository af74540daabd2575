-- The cell of a statement is one.
use Rattle.std.proofs.Common.{◌≡◌, ◌+◌, ◌≤◌, true, leb, List, [], ◌∷◌, map, length, sym, ◌∙◌, ap, subst, lit≤, arith}
use Rattle.std.specs.List.{All, list_all}
use Rattle.std.proofs.lemmas.Bool.{leb-true}
use Rattle.std.proofs.Math.ListN.{get_or-map}
use Rattle.std.proofs.lemmas.List.{length-map}
use Rattle.std.proofs.lemmas.List.Elements.{All-cons, All-nil, All-weaker}
use Rattle.std.proofs.lemmas.List.Sums.{AllPass-from_list_all}
use Rattle.asm_core.specs.declared.cell.Field.{Field}
use Rattle.asm_core.specs.declared.cell.Place.{Place}
use Rattle.asm_core.specs.Cells.{IsCell, IsFieldPlace}
use Rattle.asm_core.specs.Forms.{AreCells}
use Rattle.asm_avg.specs.declared.mnemonic.Mnemonic.{Mnemonic}
use Rattle.asm_avg.specs.Language.{cell_of}
use Rattle.asm_avg.specs.Statements.{places_of, mnemonic_size}

-- each place lies in 32 bits
places-fit : (mnemonic : Mnemonic) → All IsFieldPlace (places_of mnemonic)
places-fit mnemonic =
    All-weaker (λ place. leb (place.bits + place.shift) 32 ≡ true) IsFieldPlace (λ place is. leb-true _ _ is) (places_of mnemonic)
    (AllPass-from_list_all (λ place. leb (place.bits + place.shift) 32) (places_of mnemonic) (each mnemonic))
  where
    each : (mnemonic : Mnemonic) → list_all (λ (place : Place). leb (place.bits + place.shift) 32) (places_of mnemonic) ≡ true
    each mnemonic = grind arith

places-few : (mnemonic : Mnemonic) → length (places_of mnemonic) ≤ 3
places-few mnemonic = grind arith

size-within : (mnemonic : Mnemonic) → (1 ≤ mnemonic_size mnemonic) × (mnemonic_size mnemonic ≤ 4)
size-within mnemonic = grind arith

-- what holds of each image holds of each, seen there
All-unmap : {X Y : Type 0} (P : Y → Type 0) (f : X → Y) (xs : List X) → All P (map f xs) → All (λ x. P (f x)) xs
All-unmap P f xs each k d within = rw (get_or-map f xs k d) at (each k (f d) (rw (length-map xs f) within))

-- the one cell of a statement whose fields are in its places
pub are_cells : (mnemonic : Mnemonic) (fields : List Field) → map (λ field. field.place) fields ≡ places_of mnemonic → AreCells (cell_of mnemonic fields ∷ [])
are_cells mnemonic fields same =
    let count : length fields ≡ length (places_of mnemonic) = sym (length-map fields (λ field. field.place)) ∙ ap (λ places. length places) same in
    let fit : All IsFieldPlace (map (λ field. field.place) fields) = subst (λ places. All IsFieldPlace places) (sym same) (places-fit mnemonic) in
    let cell : IsCell (cell_of mnemonic fields) = record {
      some = (size-within mnemonic).0;
      few = (size-within mnemonic).1;
      fields = rw count (places-few mnemonic);
      places = All-unmap IsFieldPlace (λ field. field.place) fields fit;
    } in
    record { some = lit≤ tt; each = All-cons IsCell (cell_of mnemonic fields) [] cell (All-nil IsCell) }
