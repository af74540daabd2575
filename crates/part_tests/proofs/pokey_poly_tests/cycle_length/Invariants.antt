use Rattle.std.proofs.Common.{◌^◌, ◌<◌}
use Rattle.pokey_poly.specs.Shift.{width_of}
use Rattle.part_tests.proofs.pokey_poly_tests.cycle_length.Given as goal

abbrev pub invariant-loop-shifts : goal.invariant-loop-shifts
invariant-loop-shifts l = l.r < 2 ^ width_of l.poly
