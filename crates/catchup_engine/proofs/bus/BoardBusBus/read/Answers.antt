use Rattle.std.proofs.Common.{ap, ◌∙◌, arith}
use Rattle.catchup_engine.specs.Bus.{BusValue}
use Rattle.catchup_engine.proofs.AccessLaws.{read-room}
use Rattle.catchup_engine.proofs.bus.BoardBusBus.read.Goals as goal

pub returns-clause-room : goal.returns-clause-room
returns-clause-room g c =
    read-room c.args.tape.now.entries c.args.self.now c.enter.new.self c.byte.new.self
    (ap (λ (b : BusValue). b.peripherals) c.enter.ensures.value) (ap (λ (b : BusValue). b.peripherals) c.byte.ensures.does.value)
    (ap (λ (b : BusValue). b.rooms) c.byte.ensures.does.value ∙ ap (λ (b : BusValue). b.rooms) c.enter.ensures.value)
    (let first = c.enter.ensures.until in let then = c.byte.ensures.does.until in omega arith)
