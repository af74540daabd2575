use Rattle.std.proofs.Common.{ap, ◌∙◌, arith}
use Rattle.catchup_engine.specs.Bus.{BusValue}
use Rattle.catchup_engine.proofs.AccessLaws.{has-entered, room-written, write-step, write-room}
use Rattle.catchup_engine.proofs.bus.BoardBusBus.write.Goals as goal

pub put-requires-clause-room : goal.put-requires-clause-room
put-requires-clause-room g c =
    room-written c.args.self.now c.enter.new.self c.requires.room
    (has-entered c.args.tape.now.entries c.args.self.now c.enter.new.self (ap (λ (b : BusValue). b.peripherals) c.enter.ensures.value)).written
    (ap (λ (b : BusValue). b.rooms) c.enter.ensures.value)

pub returns-clause-step : goal.returns-clause-step
returns-clause-step g c =
    write-step c.args.tape.now.entries c.args.addr c.args.value c.args.self.now c.enter.new.self c.put.new.self
    (ap (λ (b : BusValue). b.peripherals) c.enter.ensures.value) (ap (λ (b : BusValue). b.peripherals) c.put.ensures.does.value)
    (record {
      clock_open = ap (λ (b : BusValue). b.clock_open) c.put.ensures.does.value ∙ ap (λ (b : BusValue). b.clock_open) c.enter.ensures.value;
      rooms = ap (λ (b : BusValue). b.rooms) c.put.ensures.does.value ∙ ap (λ (b : BusValue). b.rooms) c.enter.ensures.value;
      until = (let first = c.enter.ensures.until in let then = c.put.ensures.does.until in omega arith);
      calls = (let first = c.enter.ensures.calls in let then = c.put.ensures.does.calls in omega arith);
      more = (let first = c.enter.ensures.more in let then = c.put.ensures.does.more in omega arith);
    })

pub returns-clause-room : goal.returns-clause-room
returns-clause-room g c =
    write-room c.args.tape.now.entries c.args.addr c.args.value c.args.self.now c.enter.new.self c.put.new.self
    (ap (λ (b : BusValue). b.peripherals) c.enter.ensures.value) (ap (λ (b : BusValue). b.peripherals) c.put.ensures.does.value) c.put.ensures.few
    (ap (λ (b : BusValue). b.rooms) c.put.ensures.does.value ∙ ap (λ (b : BusValue). b.rooms) c.enter.ensures.value)
    (let first = c.enter.ensures.until in let then = c.put.ensures.does.until in omega arith)
