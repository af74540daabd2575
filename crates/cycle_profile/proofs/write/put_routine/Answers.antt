use Rattle.cycle_profile.proofs.TextLaws.{put-nothing}
use Rattle.cycle_profile.proofs.write.put_routine.Goals as goal

pub returns-then-counts-eq0-clause-taken : goal.returns-then-counts-eq0-clause-taken
returns-then-counts-eq0-clause-taken g c = put-nothing _ _ _ _ c.if-counts-eq0.true
