use Rattle.std.proofs.Common.{◌≡◌, ℕ, ◌+◌, ◌-◌, ◌*◌, ◌≤◌}
use Rattle.pokey_chip.proofs.voice.Voice.last_set.Given as goal

abbrev pub invariant-loop-at : goal.invariant-loop-at
invariant-loop-at l = (more : ℕ) × (l.at ≡ l.self.due + more * l.self.step) × (l.at ≤ l.reach)

abbrev pub decreases-loop-at : goal.decreases-loop-at
decreases-loop-at l = 31 - l.tries
