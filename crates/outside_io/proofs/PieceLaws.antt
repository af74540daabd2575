-- What a stream took, piece by piece, where it is known.
use Rattle.std.proofs.Common.{◌≡◌, ℕ, ◌-◌, List, ◌++◌, Option, sym, ap, ◌∙◌, append_assoc, length, take, drop, take-append-drop}
use Rattle.std.proofs.KnownBytes.{Appends-trans}
use Rattle.std.proofs.lemmas.List.{take_rest}
use Rattle.std.specs.Io.KnownBytes.{Appends}

-- one more call took the front of the rest
pub wrote_more : (before mid after : Option (List ℕ)) (all done rest : List ℕ) (n : ℕ)
    → all ≡ done ++ rest → Appends before mid done → Appends mid after (take n rest)
    → (longer : List ℕ) × (all ≡ longer ++ take (length rest - n) (drop n rest)) × Appends before after longer
wrote_more before mid after all done rest n split took more = (
  done ++ take n rest,
  split ∙ ap (λ l. done ++ l) (sym (take-append-drop n rest)) ∙ sym (append_assoc done (take n rest) (drop n rest))
      ∙ ap (λ l. (done ++ take n rest) ++ l) (sym (take_rest rest n)),
  Appends-trans before mid after done (take n rest) took more,
)
