use Rattle.std.proofs.Common.{◌≡◌, ◌-◌, ◌^◌, ◌≤◌, []}
use Rattle.board_base.specs.Ticks.{times}
use Rattle.pokey_chip.specs.Tick.{levels_made, pokey_tick}
use Rattle.device_bench.specs.Tally.{tally_of}
use Rattle.device_bench.proofs.sound.play.Given as goal

abbrev pub invariant-loop-done : goal.invariant-loop-done
invariant-loop-done g l = record {
  within : l.done ≤ l.clocks;
  empty : l.trail.records ≡ [];
  spare : l.trail.spare ≡ l.trail.room;
  room : l.slice ≤ l.trail.room;
  some : 1 ≤ l.slice;
  most : l.clocks ≤ 2 ^ 48;
  state : g.S.SoundUnit.device l.unit ≡ times pokey_tick l.done (g.S.SoundUnit.device l.initial.unit);
  levels : l.tally ≡ tally_of (levels_made 0 l.done (g.S.SoundUnit.device l.initial.unit));
}

abbrev pub decreases-loop-done : goal.decreases-loop-done
decreases-loop-done g l = l.clocks - l.done
