use Rattle.std.proofs.Common.{◌≤◌}
use Rattle.part_tests.proofs.pokey_chip_tests.a_pokey_at_rest_is_moved_at_once.Given as goal

abbrev pub invariant-loop-k : goal.invariant-loop-k
invariant-loop-k g l = record { spare : 6000 ≤ l.trail.spare; room : 6000 ≤ l.trail.room }
