use Rattle.std.proofs.Common.{refl, ◌*◌}
use Rattle.std.specs.Int.{from_bool}
use Rattle.cpu_core.specs.BusCycles.{read_of}
use Rattle.lockstep_board.specs.Budget.{reaches_device}
use Rattle.catchup_engine.proofs.HorizonLaws.{keeps-refl, keeps-then, read-keeps}
use Rattle.catchup_engine.proofs.QuietLaws.{counted-more, device-reads, program-reads, ram-reads}
use Rattle.catchup_engine.proofs.quiet.QuietBusBus.read.Goals as goal

pub flush-requires-clause-clock : goal.flush-requires-clause-clock
flush-requires-clause-clock g c = (counted-more c.args._tape.now c.args.self.now.elapsed c.args.self.now.bus.now c.requires.accepts c.requires.room).last

pub flush-requires-clause-room : goal.flush-requires-clause-room
flush-requires-clause-room g c = (counted-more c.args._tape.now c.args.self.now.elapsed c.args.self.now.bus.now c.requires.accepts c.requires.room).until

pub flush-requires-else-addr-eq-IN0-clause-clock : goal.flush-requires-else-addr-eq-IN0-clause-clock
flush-requires-else-addr-eq-IN0-clause-clock g c = (counted-more c.args._tape.now c.args.self.now.elapsed c.args.self.now.bus.now c.requires.accepts c.requires.room).last

pub flush-requires-else-addr-eq-IN0-clause-room : goal.flush-requires-else-addr-eq-IN0-clause-room
flush-requires-else-addr-eq-IN0-clause-room g c = (counted-more c.args._tape.now c.args.self.now.elapsed c.args.self.now.bus.now c.requires.accepts c.requires.room).until

pub returns-then-addr-ge-PROGRAM_START : goal.returns-then-addr-ge-PROGRAM_START
returns-then-addr-ge-PROGRAM_START g c =
    let is =
    program-reads c.args._tape.now c.args.self.now.elapsed c.args.addr c.program_at.result c.args.self.now.bus.now c.requires.accepts c.requires.room
    c.if-addr-ge-PROGRAM_START.true c.ranges.addr.fits c.program_at.ensures in
    record { step = (refl, keeps-refl c.args.self.now.bus.now, is.step); accepts = is.accepts; room = is.room }

pub returns-then-addr : goal.returns-then-addr
returns-then-addr g c =
    let is =
    ram-reads c.args._tape.now c.args.self.now.elapsed c.args.addr c.ram_byte.result c.args.self.now.bus.now c.requires.accepts c.requires.room
    c.if-addr.true c.ram_byte.ensures in
    record { step = (refl, keeps-refl c.args.self.now.bus.now, is.step); accepts = is.accepts; room = is.room }

pub returns-then-addr-eq-IN0 : goal.returns-then-addr-eq-IN0
returns-then-addr-eq-IN0 g c =
    let is =
    device-reads c.args._tape.now c.args.self.now.elapsed c.flush.new.self.elapsed c.args.addr c.byte_of_in0.result c.args.self.now.bus.now c.flush.new.self.bus.now c.byte_of_in0.new.self
    c.requires.accepts c.requires.room c.flush.ensures.flushed c.flush.ensures.none c.byte_of_in0.ensures.does c.byte_of_in0.ensures.byte c.byte_of_in0.ensures.current in
    record {
      step = (
        c.flush.ensures.same_reference,
        keeps-then c.args.self.now.bus.now c.flush.new.self.bus.now c.byte_of_in0.new.self c.flush.ensures.lines
            (read-keeps c.flush.new.self.bus.now c.byte_of_in0.new.self (2 * from_bool (reaches_device (read_of c.args.addr c.byte_of_in0.result))) c.byte_of_in0.ensures.does),
        is.step,
      );
      accepts = is.accepts;
      room = is.room;
    }

pub returns-else-addr-eq-IN0 : goal.returns-else-addr-eq-IN0
returns-else-addr-eq-IN0 g c =
    let is =
    device-reads c.args._tape.now c.args.self.now.elapsed c.flush-else-addr-eq-IN0.new.self.elapsed c.args.addr c.byte.result
    c.args.self.now.bus.now c.flush-else-addr-eq-IN0.new.self.bus.now c.byte.new.self
    c.requires.accepts c.requires.room c.flush-else-addr-eq-IN0.ensures.flushed c.flush-else-addr-eq-IN0.ensures.none c.byte.ensures.does c.byte.ensures.byte c.byte.ensures.current in
    record {
      step = (
        c.flush-else-addr-eq-IN0.ensures.same_reference,
        keeps-then c.args.self.now.bus.now c.flush-else-addr-eq-IN0.new.self.bus.now c.byte.new.self c.flush-else-addr-eq-IN0.ensures.lines
            (read-keeps c.flush-else-addr-eq-IN0.new.self.bus.now c.byte.new.self (2 * from_bool (reaches_device (read_of c.args.addr c.byte.result))) c.byte.ensures.does),
        is.step,
      );
      accepts = is.accepts;
      room = is.room;
    }
