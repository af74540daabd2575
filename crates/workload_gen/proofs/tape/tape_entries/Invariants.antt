use Rattle.std.proofs.Common.{◌≡◌, ◌++◌, ◌-◌, ◌*◌}
use Rattle.workload_gen.specs.Draws.{draws_of}
use Rattle.workload_gen.specs.Tape.{entries_from}
use Rattle.workload_gen.proofs.tape.tape_entries.Given as goal

abbrev pub invariant-entries : goal.invariant-entries
invariant-entries l = l.entries.items ++ entries_from l.k (draws_of l.draws (2 * (201 - l.k))) ≡ entries_from 1 (draws_of l.fn.draws 400)
