use Rattle.std.proofs.Common.{ap}
use Rattle.catchup_engine.specs.Bus.{BusValue}
use Rattle.catchup_engine.proofs.EventLaws.{place-after}
use Rattle.catchup_engine.proofs.bus.BoardBus.clock_with_events.Goals as goal

pub look_ahead-requires-clause-place : goal.look_ahead-requires-clause-place
look_ahead-requires-clause-place g c =
    place-after c.args.tape.now c.args.self.now c.apply_due.new.self c.tick.new.self (ap (λ (b : BusValue). b.peripherals) c.apply_due.ensures.value)
    (ap (λ (b : BusValue). b.peripherals) c.tick.ensures.does.value) (ap (λ (b : BusValue). b.tape_pos) c.tick.ensures.does.value) c.apply_due.ensures.tape_pos
