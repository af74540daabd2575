use Rattle.catchup_engine.proofs.HorizonLaws.{passed-keeps}
use Rattle.catchup_engine.proofs.quiet.QuietBus.flush.Goals as goal

pub returns-clause-lines : goal.returns-clause-lines
returns-clause-lines g c =
    passed-keeps c.args.self.now.elapsed c.args.self.now.bus.now c.pass.new.self c.pass.ensures.value c.pass.ensures.irq c.pass.ensures.pending
