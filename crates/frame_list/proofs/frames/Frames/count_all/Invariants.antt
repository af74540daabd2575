use Rattle.std.proofs.Common.{◌≡◌, ◌+◌, ◌≤◌, map, take}
use Rattle.frame_list.specs.Events.{stroke_of}
use Rattle.frame_list.specs.Frames.{under_way}
use Rattle.frame_list.proofs.frames.Frames.count_all.Given as goal

-- the strokes so far are counted
abbrev pub invariant-loop-stroke : goal.invariant-loop-stroke
invariant-loop-stroke l = record {
  frame : l.self ≡ under_way l.initial.self (map stroke_of (take l.stroke-index l.strokes));
  count : l.self.strokes ≤ l.initial.self.strokes + l.stroke-index;
}
