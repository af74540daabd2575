use Rattle.std.proofs.Common.{◌≡◌, ◌++◌, replicate}
use Rattle.outside_io.specs.Gathering.{IsGathered}
use Rattle.sound_pcm.specs.Grouping.{IsGroup}
use Rattle.sound_pcm.specs.Samples.{bytes_of, samples, group_after}
use Rattle.sound_pcm.proofs.group.Group.add.Given as goal

-- the samples of all clocks are those that were gathered and those of the clocks that are left
abbrev pub invariant-loop-left : goal.invariant-loop-left
invariant-loop-left g l = let first = l.initial.self in record {
  gathered : IsGathered (g.O.Sink.taken l.initial.out) (g.O.Sink.taken l.out)
      (l.initial.block ++ bytes_of (samples first.per first.sum first.count (replicate l.clocks l.weight)))
      (l.block ++ bytes_of (samples first.per l.self.sum l.self.count (replicate l.left l.weight)));
  group : IsGroup l.self;
  per : l.self.per ≡ first.per;
  parts : group_after first.per first.sum first.count (replicate l.clocks l.weight)
      ≡ group_after first.per l.self.sum l.self.count (replicate l.left l.weight);
  faults : g.O.Sink.faults l.out ≡ g.O.Sink.faults l.initial.out;
}

abbrev pub decreases-loop-left : goal.decreases-loop-left
decreases-loop-left g l = l.left
