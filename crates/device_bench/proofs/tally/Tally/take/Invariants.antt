use Rattle.std.proofs.Common.{◌≡◌, fold, take}
use Rattle.device_bench.specs.Tally.{with_record}
use Rattle.device_bench.proofs.tally.Tally.take.Given as goal

abbrev pub invariant-loop-seen : goal.invariant-loop-seen
invariant-loop-seen l = l.self ≡ fold with_record l.initial.self (take l.seen-index l.records)
