use Rattle.std.proofs.Common.{◌≡◌, ◌+◌, ◌≤◌}
use Rattle.board_base.specs.Ticks.{times}
use Rattle.board_base.specs.Trail.{Extended}
use Rattle.pokey_chip.specs.Tick.{levels_made, pokey_tick}
use Rattle.pokey_chip.proofs.plain.ByClocksMoves.run.Given as goal

abbrev pub invariant-loop-i : goal.invariant-loop-i
invariant-loop-i l = record {
  state : l.state ≡ times pokey_tick l.i l.fn.state;
  records : Extended l.fn.trail l.trail (levels_made l.from l.i l.fn.state);
  room : l.n ≤ l.trail.spare + l.i;
}
