use Rattle.std.proofs.Common.{◌≡◌}
use Rattle.outside_io.specs.Hosts.{seen}
use Rattle.run_log.specs.Slices.{wanted_in}
use Rattle.run_log.proofs.CutLaws.{CutUpTo}
use Rattle.run_log.proofs.slices.run_synced.Given as goal

abbrev pub invariant-loop-cut : goal.invariant-loop-cut
invariant-loop-cut g l =
    (l.synced.machine.ghost_name ≡ l.initial.synced.machine.ghost_name)
    × CutUpTo l.fn.tape.entries l.fn.limit (wanted_in l.fn.wanted) l.fn.cuts (g.M.Machine.value l.fn.synced.machine.now)
    (g.M.Machine.value l.synced.machine.now) l.cut-index (seen l.fn.host) (seen l.host)
