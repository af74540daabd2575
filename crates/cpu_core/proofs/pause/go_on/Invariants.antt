use Rattle.std.proofs.Common.{◌≤◌, ◌+◌}
use Rattle.cpu_core.specs.Places.{Gone}
use Rattle.cpu_core.proofs.pause.go_on.Given as goal

abbrev pub invariant-loop-made : goal.invariant-loop-made
invariant-loop-made g l =
    Gone (g.B.Bus.step l.feed) l.start l.sequence l.initial.seen l.seen l.made l.initial.bus l.bus
    × g.B.Bus.accepts l.feed l.bus × (g.B.Bus.room l.initial.bus ≤ g.B.Bus.room l.bus + l.made)
