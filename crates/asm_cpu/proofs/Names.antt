-- Each operation is found by its name.
use Rattle.std.proofs.Common.{◌≡◌, Some, refl}
use Rattle.cpu_table.specs.declared.instruction.Op.{Op}
use Rattle.cpu_table.specs.declared.instruction.Op.TheVariants.{Adc}
use Rattle.asm_cpu.specs.Mnemonics.{name_of, op_of}

pub name-back : (op : Op) → op_of (name_of op) ≡ Some op
unfolding op_of
name-back Adc = refl
name-back _ = refl

pub ruleset names = (name-back)
