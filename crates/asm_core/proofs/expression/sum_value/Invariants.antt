use Rattle.std.proofs.Common.{◌≡◌, ◌*◌, ◌≤◌, pos, drop, unsigned_abs}
use Rattle.asm_core.specs.Expressions.{sum_value}
use Rattle.asm_core.proofs.expression.sum_value.Given as goal

abbrev pub invariant-loop-term : goal.invariant-loop-term
invariant-loop-term l = record {
  sum : sum_value l.names l.sum (drop l.term-index l.terms) ≡ sum_value l.names (pos 0) l.terms;
  small : unsigned_abs l.sum ≤ l.term-index * 2147483648;
}
