use Rattle.std.proofs.Common.{◌≡◌, ◌^◌, ◌<◌}
use Rattle.board_base.specs.Ticks.{times}
use Rattle.pokey_poly.specs.Shift.{shifted, width_of}
use Rattle.pokey_poly.proofs.poly.Poly.leap.Given as goal

-- what is left to do leads where all leads from the start
abbrev pub invariant-loop-left : goal.invariant-loop-left
invariant-loop-left l = record {
  way : times (shifted l.self) l.left l.now ≡ times (shifted l.self) l.n l.r;
  in_range : l.now < 2 ^ width_of l.self;
}

abbrev pub decreases-loop-left : goal.decreases-loop-left
decreases-loop-left l = l.left
