use Rattle.catchup_engine.proofs.TapeLaws.{rises-read}
use Rattle.catchup_engine.proofs.bus.events.entry_at.Goals as goal

pub returns-then-tape_pos-entries : goal.returns-then-tape_pos-entries
returns-then-tape_pos-entries c = λ valid k d inside. rises-read c.args.tape.now valid c.args.tape_pos k d _ _ inside c.entries-entries.ensures.entries
