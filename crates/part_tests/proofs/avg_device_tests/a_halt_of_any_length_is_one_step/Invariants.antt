-- The trail keeps its first room.
use Rattle.std.proofs.Common.{◌≤◌}
use Rattle.part_tests.proofs.avg_device_tests.a_halt_of_any_length_is_one_step.Given as goal

abbrev pub invariant-loop-step : goal.invariant-loop-step
invariant-loop-step g l = 6000 ≤ l.trail.room
