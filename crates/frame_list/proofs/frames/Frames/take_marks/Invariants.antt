use Rattle.std.proofs.Common.{◌≡◌, ◌+◌, ◌≤◌, length, drop}
use Rattle.frame_list.specs.Events.{by_clock}
use Rattle.frame_list.specs.Frames.{under_way, ended, frames_text}
use Rattle.outside_io.specs.Gathering.{IsGathered}
use Rattle.frame_list.proofs.frames.Frames.take_marks.Given as goal

-- of the lines of all frames that end those up to here were taken, the same frame is under way in the
-- end, and no call failed
abbrev pub invariant-loop-mark : goal.invariant-loop-mark
invariant-loop-mark g l = record {
  gathered : IsGathered (g.O.Sink.taken l.initial.out) (g.O.Sink.taken l.out)
      (frames_text (ended l.initial.self (by_clock l.initial.strokes l.marks)))
      (frames_text (ended l.self (by_clock l.strokes (drop l.mark-index l.marks))));
  frame : under_way l.initial.self (by_clock l.initial.strokes l.marks) ≡ under_way l.self (by_clock l.strokes (drop l.mark-index l.marks));
  faults : g.O.Sink.faults l.out ≡ g.O.Sink.faults l.initial.out;
  number : l.self.number ≤ l.initial.self.number + l.mark-index;
  strokes : l.self.strokes + length l.strokes ≤ l.initial.self.strokes + length l.initial.strokes;
}
