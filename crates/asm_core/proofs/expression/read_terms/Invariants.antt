use Rattle.std.proofs.Common.{◌≡◌, ◌++◌, length}
use Rattle.std.specs.Option.{option_map}
use Rattle.asm_core.specs.Expressions.{terms_of}
use Rattle.asm_core.proofs.expression.read_terms.Given as goal

abbrev pub invariant-terms : goal.invariant-terms
invariant-terms l = option_map (λ terms. l.terms ++ terms) (terms_of l.negative l.rest) ≡ terms_of l.first l.words

abbrev pub decreases-terms : goal.decreases-terms
decreases-terms l = length l.rest
