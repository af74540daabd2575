use Rattle.catchup_engine.specs.Quiet.{later}
use Rattle.lockstep_board.specs.Peripherals.{devices_ticked}
use Rattle.catchup_engine.proofs.QuietLaws.{either-asks, requests-later}
use Rattle.catchup_engine.proofs.bus.BoardBus.has_request_after.Goals as goal

pub returns-else-asserts_irq_next : goal.returns-else-asserts_irq_next
unfolding later devices_ticked
returns-else-asserts_irq_next g c =
    let bus = c.self.inside in
    let invariant = c.self.invariant in
    let n = c.args.clocks in
    rw (
      ← c.self.view_is,
      requests-later bus.sound1.done bus.clock n (g.S.Sound.SoundUnit.device bus.sound1.unit) invariant.2,
      requests-later bus.sound2.done bus.clock n (g.S.Sound.SoundUnit.device bus.sound2.unit) invariant.3,
    ) (either-asks bus.sound1.wired bus.sound2.wired _ _ _ _ invariant.11 c.if-asserts_irq_next.false (c.asserts_irq_next.ensures invariant.9)
    (c.asserts_irq_next-else-asserts_irq_next.ensures invariant.10))
