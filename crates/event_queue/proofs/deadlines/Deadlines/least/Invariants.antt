use Rattle.std.proofs.Common.{◌≡◌, drop}
use Rattle.event_queue.proofs.Leasts.{least_from}
use Rattle.event_queue.proofs.deadlines.Deadlines.least.Given as goal

-- the least of the names that were looked at, which are those from this one on
abbrev pub invariant-loop-name : goal.invariant-loop-name
invariant-loop-name l = l.best ≡ least_from l.name (drop l.name l.self-inside.times)
