use Rattle.std.proofs.Common.{rules, arith}
use Rattle.std.proofs.lemmas.Grind.{common_steps}
use Rattle.cpu_alu.specs.Arithmetic.{adc_of}
use Rattle.cpu_alu.proofs.Modes.{adc_keeps}
use Rattle.cpu_alu.proofs.Sums.{is_decimal_sum, is_sum}
use Rattle.cpu_alu.proofs.arithmetic.adc.Goals as goal

pub returns-clause-value : goal.returns-clause-value
unfolding adc_of
returns-clause-value c = grind (arith, common_steps)

pub returns-clause-modes : goal.returns-clause-modes
returns-clause-modes c = adc_keeps _ _ _ _ (returns-clause-value c)

pub returns-clause-binary : goal.returns-clause-binary
returns-clause-binary c = λ binary. is_sum _ _ _ _ (search rules) (search rules) (returns-clause-value c) binary

pub returns-clause-decimal : goal.returns-clause-decimal
returns-clause-decimal c = λ decimal first second. is_decimal_sum _ _ _ _ (returns-clause-value c) decimal first second
