use Rattle.std.proofs.Common.{◌≡◌, ◌-◌, ◌^◌, ◌≤◌, []}
use Rattle.avg_device.specs.Tick.{vg_gives, vg_tick}
use Rattle.board_base.specs.Ticks.{made, ticks}
use Rattle.device_bench.specs.Tally.{tally_of}
use Rattle.device_bench.proofs.picture.draw.Given as goal

abbrev pub invariant-loop-done : goal.invariant-loop-done
invariant-loop-done g l = record {
  within : l.done ≤ l.clocks;
  empty : l.trail.records ≡ [];
  spare : l.trail.spare ≡ l.trail.room;
  room : l.slice ≤ l.trail.room;
  some : 1 ≤ l.slice;
  most : l.clocks ≤ 2 ^ 48;
  state : g.V.VectorUnit.device l.unit ≡ ticks (vg_tick l.memory) 0 l.done (g.V.VectorUnit.device l.initial.unit);
  strokes : l.tally ≡ tally_of (made (vg_tick l.memory) vg_gives 0 l.done (g.V.VectorUnit.device l.initial.unit));
}

abbrev pub decreases-loop-done : goal.decreases-loop-done
decreases-loop-done g l = l.clocks - l.done
