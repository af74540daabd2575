-- One more piece.
use Rattle.std.proofs.Common.{◌≡◌, ℕ, List, [], ◌∷◌, ◌++◌, length, refl, sym, ◌∙◌, append_assoc}
use Rattle.std.proofs.lemmas.List.{flat_map_more}
use Rattle.std.specs.Int.{w64, to_le_bytes}
use Rattle.outside_io.specs.Shelf.{Kept}
use Rattle.command_calls.specs.Bytes.{all_bytes, all_named, named, sized}

-- a piece of a text
pub more_bytes : (pieces : List Kept) (name bytes : List ℕ) → all_bytes (pieces ++ (name, bytes) ∷ []) ≡ all_bytes pieces ++ bytes
unfolding all_bytes
more_bytes pieces name bytes = sym (flat_map_more (λ (piece : Kept). piece.1) [] pieces (name, bytes))

-- a store
pub one_more : (stores : List Kept) (name bytes : List ℕ)
    → all_named (stores ++ (name, bytes) ∷ [])
    ≡ (((all_named stores ++ to_le_bytes w64 (length name)) ++ name) ++ to_le_bytes w64 (length bytes)) ++ bytes
unfolding all_named named sized
one_more stores name bytes = sym (flat_map_more named [] stores (name, bytes)) ∙ simp append_assoc refl
