-- A line of four words or more.
use Rattle.std.proofs.Common.{◌≡◌, ℕ, ◌<◌, eqb, List, [], ◌∷◌, None, length, refl, arith}
use Rattle.std.proofs.lemmas.List.Splits.{length-slice_split}
use Rattle.plain_text.specs.Lines.{words_of}
use Rattle.debug_script.specs.Commands.{command_of}

command_of_four : (verb from count : List ℕ) (more : List (List ℕ)) → 0 < length more → command_of (verb ∷ from ∷ count ∷ more) ≡ None
command_of_four verb from count [] some = absurd (omega arith)
command_of_four verb from count (word ∷ more) some = refl

-- no command has so many
pub command_of_more : (verb from count rest : List ℕ) → command_of (verb ∷ from ∷ count ∷ words_of rest) ≡ None
command_of_more verb from count rest =
    command_of_four verb from count (words_of rest) (omega (arith, length-slice_split (λ byte. eqb byte 32) rest))
