-- The pieces of a line together, and a part of a text at its place.
use Rattle.std.proofs.Common.{◌≡◌, ℕ, ◌+◌, ◌-◌, ◌≤◌, List, [], ◌∷◌, ◌++◌, length, drop, refl, sym, ap, ◌∙◌, length-append, length-drop, arith}
use Rattle.std.specs.List.{concat, onto_first, slice_range}
use Rattle.std.proofs.Math.Seq.{drop-append_seam, take-append_seam}
use Rattle.std.proofs.lemmas.Bool.{cond_both}
use Rattle.std.proofs.lemmas.List.{drop-drop}
use Rattle.asm_text.specs.Pieces.{joins, pieces_of}

concat-onto_first : (byte : ℕ) (parts : List (List ℕ)) → concat (onto_first byte parts) ≡ byte ∷ concat parts
concat-onto_first byte [] = refl
concat-onto_first byte (part ∷ parts) = refl

-- the pieces of a line together are the line
pub concat-pieces : (code : List ℕ) → concat (pieces_of code) ≡ code
unfolding pieces_of
concat-pieces [] = refl
concat-pieces (byte ∷ []) = refl
concat-pieces (byte ∷ next ∷ code) =
    let rest : concat (pieces_of (next ∷ code)) ≡ next ∷ code = concat-pieces (next ∷ code) in
    cond_both (joins byte next) (onto_first byte (pieces_of (next ∷ code))) ((byte ∷ []) ∷ pieces_of (next ∷ code)) (λ parts. concat parts ≡ byte ∷ next ∷ code)
    (λ _. concat-onto_first byte (pieces_of (next ∷ code)) ∙ ap (λ bytes. byte ∷ bytes) rest)
    (λ _. ap (λ bytes. byte ∷ bytes) rest)

-- a part of a text at its place
module _ (text : List ℕ) (place : ℕ) (part after : List ℕ) (here : drop place text ≡ part ++ after) where
  pub part_after : drop (place + length part) text ≡ after
  part_after = sym (drop-drop (length part) place text) ∙ ap (λ bytes. drop (length part) bytes) here ∙ drop-append_seam part after

  pub part_slice : slice_range text place (place + length part) ≡ part
  part_slice =
      let size : place + length part - place ≡ length part = omega arith in
      rw (size, here) (take-append_seam part after)

  pub part_within : place ≤ length text → place + length part ≤ length text
  part_within inside = omega (arith, length-drop place text, ap length here, length-append part after)
