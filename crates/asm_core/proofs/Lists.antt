-- The steps of a loop over a list, and the texts that are left when it ends.
use Rattle.std.proofs.Common.{◌≡◌, List, [], ◌∷◌, ◌++◌, Option, Some, None, refl, sym, ap, append_assoc, append-nil}
use Rattle.std.proofs.lemmas.Grind.{common_steps}
use Rattle.std.proofs.lemmas.List.{drop_all, drop_more, nil_from_length}
use Rattle.std.proofs.lemmas.List.Elements.{All-push}
use Rattle.std.specs.Option.{option_map}
use Rattle.asm_text.proofs.Parting.{lines_with_ends-nil}

pub ruleset steps = (common_steps, append_assoc, append-nil, drop_all, drop_more, All-push)

pub ruleset texts = (lines_with_ends-nil, nil_from_length)

-- one before others is one more of those before it
pub onto-over : {X : Type 0} (before : List X) (x : X) (rest : Option (List X))
    → option_map (λ xs. before ++ xs) (option_map (λ xs. x ∷ xs) rest) ≡ option_map (λ xs. (before ++ x ∷ []) ++ xs) rest
onto-over before x None = refl
onto-over before x (Some xs) = ap (λ all. Some all) (sym (append_assoc before (x ∷ []) xs))
