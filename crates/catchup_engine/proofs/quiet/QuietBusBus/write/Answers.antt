use Rattle.std.proofs.Common.{refl, ◌*◌}
use Rattle.std.specs.Int.{from_bool}
use Rattle.cpu_core.specs.BusCycles.{write_of}
use Rattle.lockstep_board.specs.Budget.{reaches_device}
use Rattle.catchup_engine.proofs.HorizonLaws.{keeps-then, put-keeps, ram-keeps}
use Rattle.catchup_engine.proofs.QuietLaws.{counted-more, device-writes, ram-writes, flushed-clock, flushed-room}
use Rattle.catchup_engine.proofs.quiet.QuietBusBus.write.Goals as goal

pub flush-requires-clause-clock : goal.flush-requires-clause-clock
flush-requires-clause-clock g c = (counted-more c.args._tape.now c.args.self.now.elapsed c.args.self.now.bus.now c.requires.accepts c.requires.room).last

pub flush-requires-clause-room : goal.flush-requires-clause-room
flush-requires-clause-room g c = (counted-more c.args._tape.now c.args.self.now.elapsed c.args.self.now.bus.now c.requires.accepts c.requires.room).until

pub put-requires-clause-room : goal.put-requires-clause-room
put-requires-clause-room g c = flushed-room c.args.self.now.elapsed c.args.self.now.bus.now c.flush.new.self.bus.now c.requires.room c.flush.ensures.flushed

pub put-requires-clause-clock_done : goal.put-requires-clause-clock_done
put-requires-clause-clock_done g c = flushed-clock c.args.self.now.elapsed c.args.self.now.bus.now c.flush.new.self.bus.now c.flush.ensures.flushed

pub returns-then-addr : goal.returns-then-addr
returns-then-addr g c =
    let is =
    ram-writes c.args._tape.now c.args.self.now.elapsed c.args.addr c.args.value c.args.self.now.bus.now c.put_ram.new.self c.requires.accepts c.requires.room
    c.if-addr.true c.put_ram.ensures in
    record { step = (refl, ram-keeps c.args.self.now.bus.now c.put_ram.new.self c.args.addr c.args.value c.put_ram.ensures, is.step); accepts = is.accepts; room = is.room }

pub returns-else-addr : goal.returns-else-addr
returns-else-addr g c =
    let is =
    device-writes c.args._tape.now c.args.self.now.elapsed c.flush.new.self.elapsed c.args.addr c.args.value c.args.self.now.bus.now c.flush.new.self.bus.now c.put.new.self
    c.requires.accepts c.requires.room c.flush.ensures.flushed c.flush.ensures.none c.put.ensures.does c.put.ensures.few in
    record {
      step = (
        c.flush.ensures.same_reference,
        keeps-then c.args.self.now.bus.now c.flush.new.self.bus.now c.put.new.self c.flush.ensures.lines
            (put-keeps c.args.addr c.args.value c.flush.new.self.bus.now c.put.new.self (2 * from_bool (reaches_device (write_of c.args.addr c.args.value))) c.put.ensures.does),
        is.step,
      );
      accepts = is.accepts;
      room = is.room;
    }
