-- The line of a stroke, put together piece by piece.
use Rattle.std.proofs.Common.{◌≡◌, ℕ, ℤ, List, [], ◌∷◌, ◌++◌, append_assoc, w32, to_z, of_z}
use Rattle.std.specs.Prelude.{codes, FitsSigned}
use Rattle.std.specs.Fmt.{decimal, signed_decimal}
use Rattle.std.proofs.lemmas.Int.{to_z-of_z}
use Rattle.board_base.specs.declared.record.Record.{Record}
use Rattle.board_base.specs.declared.record.Record.TheVariants.{Stroke}
use Rattle.board_base.specs.declared.part.Part.{Part}
use Rattle.text_line.specs.Words.{line}
use Rattle.log_text.specs.Lines.{record_text}

-- seven words behind a letter
words : (a b c d e f g : List ℕ) → (((((((83 ∷ 32 ∷ a) ++ 32 ∷ b) ++ 32 ∷ c) ++ 32 ∷ d) ++ 32 ∷ e) ++ 32 ∷ f) ++ 32 ∷ g) ++ 10 ∷ []
    ≡ line (codes "S" ∷ a ∷ b ∷ c ∷ d ∷ e ∷ f ∷ g ∷ [])
words a b c d e f g = simp append_assoc

-- a point whose numbers fit is the same behind a call
same : (l m : List ℕ) (x y : ℤ) → FitsSigned w32 x → FitsSigned w32 y
    → m ≡ (l ++ 32 ∷ signed_decimal (to_z w32 (of_z w32 x))) ++ 32 ∷ signed_decimal (to_z w32 (of_z w32 y))
    → m ≡ (l ++ 32 ∷ signed_decimal x) ++ 32 ∷ signed_decimal y
same l m x y fx fy e = rw (to_z-of_z w32 x fx, to_z-of_z w32 y fy) at e

-- a letter and a clock, two points behind them, a colour and an intensity, and LF behind the last
pub stroke_line : (part : Part) (made : Record) (clock : ℕ) (x0 y0 x1 y1 : ℤ) (colour intensity : ℕ) (l0 l1 l2 l3 : List ℕ)
    → made ≡ Stroke clock x0 y0 x1 y1 colour intensity → FitsSigned w32 x0 → FitsSigned w32 y0 → FitsSigned w32 x1 → FitsSigned w32 y1
    → l0 ≡ 83 ∷ 32 ∷ decimal clock → l1 ≡ (l0 ++ 32 ∷ signed_decimal (to_z w32 (of_z w32 x0))) ++ 32 ∷ signed_decimal (to_z w32 (of_z w32 y0))
    → l2 ≡ (l1 ++ 32 ∷ signed_decimal (to_z w32 (of_z w32 x1))) ++ 32 ∷ signed_decimal (to_z w32 (of_z w32 y1))
    → l3 ≡ (l2 ++ 32 ∷ decimal colour) ++ 32 ∷ decimal intensity → l3 ++ 10 ∷ [] ≡ record_text part made
unfolding record_text
stroke_line part made clock x0 y0 x1 y1 colour intensity l0 l1 l2 l3 is fx0 fy0 fx1 fy1 e0 e1 e2 e3 =
    rw (is, e3, same l1 l2 x1 y1 fx1 fy1 e2, same l0 l1 x0 y0 fx0 fy0 e1, e0)
    (words (decimal clock) (signed_decimal x0) (signed_decimal y0) (signed_decimal x1) (signed_decimal y1) (decimal colour) (decimal intensity))
