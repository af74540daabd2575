use Rattle.std.proofs.Common.{◌+◌}
use Rattle.catchup_engine.proofs.HorizonLaws.{passed-keeps}
use Rattle.catchup_engine.proofs.NotedSteps.{noted-read}
use Rattle.catchup_engine.proofs.QuietLaws.{counted-more}
use Rattle.catchup_engine.proofs.noted.read_by.Goals as goal

pub pass-requires-clause-clock : goal.pass-requires-clause-clock
pass-requires-clause-clock g c = (counted-more c.args._tape.now c.args.elapsed c.args.bus.now c.requires.can.accepts c.requires.can.room).last

pub pass-requires-clause-room : goal.pass-requires-clause-room
pass-requires-clause-room g c = (counted-more c.args._tape.now c.args.elapsed c.args.bus.now c.requires.can.accepts c.requires.can.room).until

pub returns : goal.returns
returns g c =
    noted-read c.args._tape.now c.args.elapsed c.args.addr c.byte_noted.result c.args.bus.now c.pass.new.self c.byte_noted.new.bus c.args.reached.now c.byte_noted.new.reached
    c.requires.can c.pass.ensures.value
    (passed-keeps (c.args.elapsed + 1) c.args.bus.now c.pass.new.self c.pass.ensures.value c.pass.ensures.irq c.pass.ensures.pending)
    c.byte_noted.ensures.does c.byte_noted.ensures.byte c.byte_noted.ensures.current c.byte_noted.ensures.reached
