use Rattle.catchup_engine.proofs.TapeLaws.{HasApplied}
use Rattle.catchup_engine.proofs.bus.BoardBus.apply.Given as goal

abbrev pub invariant-loop-entry : goal.invariant-loop-entry
invariant-loop-entry g l = HasApplied l.entries l.entry-index l.fn.self l.self
