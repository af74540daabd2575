use Rattle.std.proofs.Common.{◌≡◌}
use Rattle.board_base.specs.Ticks.{times}
use Rattle.pokey_poly.specs.declared.poly.Poly.TheVariants.{Four, Five, Nine, Seventeen}
use Rattle.pokey_poly.specs.Shift.{shifted}
use Rattle.device_bench.proofs.shifts.bare_shifts.Given as goal

abbrev pub invariant-loop-done : goal.invariant-loop-done
invariant-loop-done l = record {
  four : l.registers.four ≡ times (shifted Four) l.done 15;
  five : l.registers.five ≡ times (shifted Five) l.done 31;
  nine : l.registers.nine ≡ times (shifted Nine) l.done 511;
  seventeen : l.registers.seventeen ≡ times (shifted Seventeen) l.done 131071;
}
