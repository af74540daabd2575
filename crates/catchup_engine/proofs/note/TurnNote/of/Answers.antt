use Rattle.catchup_engine.proofs.note.TurnNote.of.Goals as goal

pub invariant_of-result : goal.invariant_of-result
invariant_of-result c = record { clocks = c.trace.invariant.count }
