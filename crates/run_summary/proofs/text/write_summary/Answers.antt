use Rattle.std.proofs.Common.{◌≡◌, ℕ, List, [], ◌∷◌, ◌++◌, append_assoc, append-nil}
use Rattle.std.specs.List.{concat}
use Rattle.run_summary.specs.SoakText.{soak_text}
use Rattle.run_summary.proofs.text.write_summary.Goals as goal

-- seven lines, one after another
seven : (a b c d e f g : List ℕ) → ((((((([] ++ a) ++ b) ++ c) ++ d) ++ e) ++ f) ++ g) ≡ concat (a ∷ b ∷ c ∷ d ∷ e ∷ f ∷ g ∷ [])
seven a b c d e f g = simp (append_assoc, append-nil)

lines-joined : (l m n o p q r s a b c d e f g : List ℕ) → l ≡ [] → m ≡ l ++ a → n ≡ m ++ b → o ≡ n ++ c → p ≡ o ++ d → q ≡ p ++ e → r ≡ q ++ f → s ≡ r ++ g
    → s ≡ concat (a ∷ b ∷ c ∷ d ∷ e ∷ f ∷ g ∷ [])
lines-joined l m n o p q r s a b c d e f g start ea eb ec ed ee ef eg = rw (eg, ef, ee, ed, ec, eb, ea, start) (seven a b c d e f g)

pub returns-clause-taken : goal.returns-clause-taken
unfolding soak_text
returns-clause-taken h c =
    let joined =
    lines-joined _ _ _ _ _ _ _ _ _ _ _ _ _ _ _ c.new.ensures c.with.ensures.text c.with-2.ensures.text c.with-3.ensures.text c.with-4.ensures.text
    c.with-5.ensures.text c.with-6.ensures.text c.with-lines.ensures.text in
    rw (c.bytes.ensures, joined) at c.write.ensures.taken
