use Rattle.std.proofs.Common.{arith}
use Rattle.std.proofs.lemmas.Grind.{common_steps}
use Rattle.cpu_alu.specs.Arithmetic.{compare_of}
use Rattle.cpu_alu.proofs.Modes.{compare_keeps}
use Rattle.cpu_alu.proofs.arithmetic.compare.Goals as goal

pub returns-clause-value : goal.returns-clause-value
unfolding compare_of
returns-clause-value c = grind (arith, common_steps)

pub returns-clause-modes : goal.returns-clause-modes
returns-clause-modes c = compare_keeps _ _ _ _ (returns-clause-value c)
