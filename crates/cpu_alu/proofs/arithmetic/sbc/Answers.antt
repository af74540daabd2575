use Rattle.std.proofs.Common.{rules, arith}
use Rattle.std.proofs.lemmas.Grind.{common_steps}
use Rattle.cpu_alu.specs.Arithmetic.{sbc_of}
use Rattle.cpu_alu.proofs.Modes.{sbc_keeps}
use Rattle.cpu_alu.proofs.Sums.{is_decimal_difference, is_difference}
use Rattle.cpu_alu.proofs.arithmetic.sbc.Goals as goal

pub returns-clause-value : goal.returns-clause-value
unfolding sbc_of
returns-clause-value c = grind (arith, common_steps)

pub returns-clause-modes : goal.returns-clause-modes
returns-clause-modes c = sbc_keeps _ _ _ _ (returns-clause-value c)

pub returns-clause-binary : goal.returns-clause-binary
returns-clause-binary c = λ binary. is_difference _ _ _ _ (search rules) (search rules) (returns-clause-value c) binary

pub returns-clause-decimal : goal.returns-clause-decimal
returns-clause-decimal c = λ decimal first second. is_decimal_difference _ _ _ _ (search rules) (search rules) (returns-clause-value c) decimal first second
