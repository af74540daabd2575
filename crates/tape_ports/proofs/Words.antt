-- A line of four words or more.
use Rattle.std.proofs.Common.{◌≡◌, ℕ, ◌<◌, eqb, List, [], ◌∷◌, Err, length, refl, arith}
use Rattle.std.proofs.lemmas.List.Splits.{length-slice_split}
use Rattle.plain_text.specs.Lines.{words_of}
use Rattle.tape_ports.specs.declared.fault.LineCause.TheVariants as cause
use Rattle.tape_ports.specs.Grammar.{tape_line_of}

line_of_four : (before : ℕ) (clock name value : List ℕ) (more : List (List ℕ)) → 0 < length more
    → tape_line_of before (clock ∷ name ∷ value ∷ more) ≡ Err cause.Form
line_of_four before clock name value [] some = absurd (omega arith)
line_of_four before clock name value (word ∷ more) some = refl

-- no line of a tape has so many
pub line_of_more : (before : ℕ) (clock name value rest : List ℕ) → tape_line_of before (clock ∷ name ∷ value ∷ words_of rest) ≡ Err cause.Form
line_of_more before clock name value rest =
    line_of_four before clock name value (words_of rest) (omega (arith, length-slice_split (λ byte. eqb byte 32) rest))
