use Rattle.std.proofs.Common.{append_assoc, refl}
use Rattle.avg_device.specs.Tick.{vg_gives, vg_tick}
use Rattle.earom_cells.specs.Tick.{earom_tick}
use Rattle.irq_watchdog.specs.Tick.{divider_tick}
use Rattle.pokey_chip.specs.Tick.{pokey_tick}
use Rattle.catchup_engine.specs.Quiet.{later, passed}
use Rattle.catchup_engine.proofs.QuietLaws.{lagging-later, levels-later, made-later, ticks-later, times-later}
use Rattle.catchup_engine.proofs.bus.BoardBus.pass.Goals as goal

pub returns-clause-value : goal.returns-clause-value
unfolding passed later
returns-clause-value g c =
    let bus = c.self.inside in
    let n = c.args.clocks in
    let vector = c.self.invariant.1 in
    let sound1 = c.self.invariant.2 in
    let sound2 = c.self.invariant.3 in
    let cells = c.self.invariant.4 in
    let divider = c.self.invariant.5 in
    let vg = g.S.Vector.VectorUnit.device bus.vector.unit in
    let pokey1 = g.S.Sound.SoundUnit.device bus.sound1.unit in
    let pokey2 = g.S.Sound.SoundUnit.device bus.sound2.unit in
    rw (
      ← c.self.view_is,
      times-later divider_tick bus.divider.done bus.clock n (g.S.Divider.DividerUnit.device bus.divider.unit) divider,
      ticks-later (vg_tick bus.memory) bus.vector.done bus.clock n vg vector,
      times-later pokey_tick bus.sound1.done bus.clock n pokey1 sound1,
      times-later pokey_tick bus.sound2.done bus.clock n pokey2 sound2,
      times-later earom_tick bus.cells.done bus.clock n (g.S.Cells.CellUnit.device bus.cells.unit) cells,
      made-later (vg_tick bus.memory) vg_gives bus.vector.done bus.clock n vg vector,
      levels-later bus.sound1.done bus.clock n pokey1 sound1,
      levels-later bus.sound2.done bus.clock n pokey2 sound2,
      lagging-later bus.vector.done bus.sound1.done bus.sound2.done bus.cells.done bus.divider.done bus.clock n vector sound1 sound2 cells divider,
      append_assoc,
      append_assoc,
      append_assoc,
    ) refl
