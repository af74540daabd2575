use Rattle.std.proofs.Common.{◌≡◌, take}
use Rattle.catchup_engine.specs.Notes.{reached_by}
use Rattle.catchup_engine.proofs.note.Reached.of.Given as goal

abbrev pub invariant-loop-access : goal.invariant-loop-access
invariant-loop-access l = l.reached ≡ reached_by (take l.access-index l.access-items)
