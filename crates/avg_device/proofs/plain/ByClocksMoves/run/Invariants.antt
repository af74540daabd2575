-- The clocks done so far are ticks, and there is room for the rest.
use Rattle.std.proofs.Common.{◌≡◌, ◌+◌, ◌≤◌}
use Rattle.board_base.specs.Ticks.{made, ticks}
use Rattle.board_base.specs.Trail.{Extended}
use Rattle.avg_device.specs.Tick.{vg_gives, vg_tick}
use Rattle.avg_device.proofs.plain.ByClocksMoves.run.Given as goal

abbrev pub invariant-loop-done : goal.invariant-loop-done
invariant-loop-done l = record {
  state : l.state ≡ ticks (vg_tick l.memory) l.from l.done l.fn.state;
  records : Extended l.fn.trail l.trail (made (vg_tick l.memory) vg_gives l.from l.done l.fn.state);
  room : l.n ≤ l.trail.spare + l.done;
}
