use Rattle.std.proofs.Common.{◌≡◌, ◌++◌}
use Rattle.outside_io.specs.Gathering.{IsGathered}
use Rattle.log_text.specs.LogText.{merged_text}
use Rattle.log_text.proofs.merged.write_merged.Given as goal

-- of the lines of all records a first part was taken, and the block and the lines of those that are
-- left are the rest; and no call failed
abbrev pub invariant-loop-part : goal.invariant-loop-part
invariant-loop-part g l = let all = l.trails in let left = l.part-iterator in record {
  gathered : IsGathered (g.O.Sink.taken l.initial.out) (g.O.Sink.taken l.out)
      (merged_text all.vector.now.records all.sound1.now.records all.sound2.now.records all.board.now.records)
      (l.block ++ merged_text left.vector.now left.sound1.now left.sound2.now left.board.now);
  faults : g.O.Sink.faults l.out ≡ g.O.Sink.faults l.initial.out;
}
