use Rattle.std.proofs.Common.{◌+◌, take, All}
use Rattle.save_state.specs.Check.{IsInRange}
use Rattle.save_state.proofs.check.check.Given as goal

abbrev pub invariant-loop-at : goal.invariant-loop-at
invariant-loop-at l = All (λ f. IsInRange l.version l.file (l.base + f.0) f.1) (take l.at-index l.fields)
