use Rattle.std.proofs.Common.{◌+◌}
use Rattle.catchup_engine.proofs.HorizonLaws.{passed-keeps}
use Rattle.catchup_engine.proofs.NotedSteps.{noted-written}
use Rattle.catchup_engine.proofs.QuietLaws.{counted-more, flushed-clock, flushed-room}
use Rattle.catchup_engine.proofs.noted.write_noted.Goals as goal

pub pass-requires-clause-clock : goal.pass-requires-clause-clock
pass-requires-clause-clock g c = (counted-more c.args._tape.now c.args.elapsed c.args.bus.now c.requires.accepts c.requires.room).last

pub pass-requires-clause-room : goal.pass-requires-clause-room
pass-requires-clause-room g c = (counted-more c.args._tape.now c.args.elapsed c.args.bus.now c.requires.accepts c.requires.room).until

pub put_noted-requires-clause-room : goal.put_noted-requires-clause-room
put_noted-requires-clause-room g c = flushed-room c.args.elapsed c.args.bus.now c.pass.new.self c.requires.room c.pass.ensures.value

pub put_noted-requires-clause-clock_done : goal.put_noted-requires-clause-clock_done
put_noted-requires-clause-clock_done g c = flushed-clock c.args.elapsed c.args.bus.now c.pass.new.self c.pass.ensures.value

pub put_noted-requires-else-addr-ge-WATCHDOG_START-clause-room : goal.put_noted-requires-else-addr-ge-WATCHDOG_START-clause-room
put_noted-requires-else-addr-ge-WATCHDOG_START-clause-room g c = flushed-room c.args.elapsed c.args.bus.now c.pass.new.self c.requires.room c.pass.ensures.value

pub put_noted-requires-else-addr-ge-WATCHDOG_START-clause-clock_done : goal.put_noted-requires-else-addr-ge-WATCHDOG_START-clause-clock_done
put_noted-requires-else-addr-ge-WATCHDOG_START-clause-clock_done g c = flushed-clock c.args.elapsed c.args.bus.now c.pass.new.self c.pass.ensures.value

pub returns-then-addr-ge-WATCHDOG_START : goal.returns-then-addr-ge-WATCHDOG_START
returns-then-addr-ge-WATCHDOG_START g c =
    noted-written c.args._tape.now c.args.elapsed c.args.addr c.args.value c.args.bus.now c.pass.new.self c.put_noted.new.bus c.args.reached.now c.put_noted.new.reached
    c.requires c.pass.ensures.value
    (passed-keeps (c.args.elapsed + 1) c.args.bus.now c.pass.new.self c.pass.ensures.value c.pass.ensures.irq c.pass.ensures.pending)
    c.put_noted.ensures.does c.put_noted.ensures.few c.put_noted.ensures.reached

pub returns-else-addr-ge-WATCHDOG_START : goal.returns-else-addr-ge-WATCHDOG_START
returns-else-addr-ge-WATCHDOG_START g c =
    noted-written c.args._tape.now c.args.elapsed c.args.addr c.args.value c.args.bus.now c.pass.new.self
    c.put_noted-else-addr-ge-WATCHDOG_START.new.bus c.args.reached.now c.put_noted-else-addr-ge-WATCHDOG_START.new.reached
    c.requires c.pass.ensures.value
    (passed-keeps (c.args.elapsed + 1) c.args.bus.now c.pass.new.self c.pass.ensures.value c.pass.ensures.irq c.pass.ensures.pending)
    c.put_noted-else-addr-ge-WATCHDOG_START.ensures.does c.put_noted-else-addr-ge-WATCHDOG_START.ensures.few c.put_noted-else-addr-ge-WATCHDOG_START.ensures.reached
