use Rattle.std.proofs.Common.{◌≡◌, drop}
use Rattle.cycle_profile.specs.Text.{routines_text}
use Rattle.cycle_profile.proofs.TextLaws.{Wrote}
use Rattle.cycle_profile.proofs.write.write_table.Given as goal

-- the lines of the addresses so far were taken or stand in the block, and no call failed
abbrev pub invariant-loop-address : goal.invariant-loop-address
invariant-loop-address g l = record {
  wrote : Wrote (g.O.Sink.taken l.initial.out) (g.O.Sink.taken l.out) l.block (routines_text 0 l.counts) (routines_text l.address (drop l.address l.counts));
  faults : g.O.Sink.faults l.out ≡ g.O.Sink.faults l.initial.out;
}
