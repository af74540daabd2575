use Rattle.std.proofs.Common.{sym, ◌∙◌}
use Rattle.catchup_engine.proofs.Turns.{begins-by, fetch-turn, reset-turn}
use Rattle.catchup_engine.proofs.turn.fetch.Goals as goal

pub returns-in-Reset-clause-turned : goal.returns-in-Reset-clause-turned
returns-in-Reset-clause-turned g c =
    reset-turn c.args.tape.now.entries c.args.cpu.now c.args.clocks c.args.bus.now c.begin.new.self c.take_reset.new.bus c.take_reset.new.cpu c.requires.boundary
    (begins-by c.args.tape.now.entries c.args.bus.now c.begin.new.self c.begin.ensures.value c.begin.ensures.until c.begin.ensures.calls c.begin.ensures.more)
    (sym c.in-Reset.is ∙ c.due-sequence.ensures) c.requires.ready.some c.take_reset.ensures.resets

pub returns-in_default : goal.returns-in_default
returns-in_default g c = record {
  turned =
      fetch-turn c.args.tape.now.entries c.args.cpu.now c.due-sequence.result c.args.clocks c.begin_sequence.ensures.advances.0 c.args.bus.now
      c.begin.new.self c.begin_sequence.new.bus c.begin_sequence.new.cpu c.requires.boundary
      (begins-by c.args.tape.now.entries c.args.bus.now c.begin.new.self c.begin.ensures.value c.begin.ensures.until c.begin.ensures.calls c.begin.ensures.more)
      c.due-sequence.ensures c.in_default.not-Reset c.requires.ready.some c.begin_sequence.ensures.advances.1;
  accepts = c.begin_sequence.ensures.accepts;
}
