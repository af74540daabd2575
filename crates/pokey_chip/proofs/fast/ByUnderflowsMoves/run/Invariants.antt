use Rattle.std.proofs.Common.{◌+◌, ◌-◌}
use Rattle.pokey_chip.proofs.MovedLaws.{HasMoved}
use Rattle.pokey_chip.proofs.fast.ByUnderflowsMoves.run.Given as goal

abbrev pub invariant-loop-at : goal.invariant-loop-at
invariant-loop-at l = HasMoved l.fn.state l.from l.n l.at l.fn.trail l.trail l.voices l.noise l.tones l.last_on l.last

abbrev pub decreases-loop-at : goal.decreases-loop-at
decreases-loop-at l = l.n + 1 - l.at
