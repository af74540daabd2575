use Rattle.std.proofs.Common.{◌≡◌, ◌∷◌, ◌∙◌, sym}
use Rattle.asm_core.specs.Expressions.{terms_of}
use Rattle.asm_core.proofs.Lists.{onto-over}
use Rattle.asm_core.proofs.expression.read_terms.Goals as goal

pub terms-preserved : goal.terms-preserved
unfolding terms_of
terms-preserved c =
    let front : c.terms.rest ≡ c.in-Some.word ∷ c.in-Some.after = cc in
    let second : c.in-Some.after ≡ c.in-Some-split_first.sign ∷ c.in-Some-split_first.behind = cc in
    rw c.in_ok-push.ensures.ok
    (sym (onto-over c.terms.terms _ (terms_of c.in-Some-minus.next c.in-Some-split_first.behind))
    ∙ (rw (front, second, ← c.read_operand.ensures, c.in-Some-read_operand.is, ← c.minus.ensures, c.in-Some-minus.is) at c.terms.invariant))
