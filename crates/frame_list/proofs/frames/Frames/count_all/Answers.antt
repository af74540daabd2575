use Rattle.std.proofs.Common.{◌≤◌, ◌+◌, refl, pos, arith}
use Rattle.board_base.specs.declared.record.Record.{Record}
use Rattle.board_base.specs.declared.record.Record.TheVariants.{Stroke}
use Rattle.frame_list.specs.Frames.{under_way}
use Rattle.frame_list.proofs.FrameLaws.{one_more, counted-most}
use Rattle.frame_list.proofs.frames.Frames.count_all.Goals as goal

-- what stands past the end of a list of records
abbrev nothing : Record
nothing = Stroke 0 (pos 0) (pos 0) (pos 0) (pos 0) 0 0

pub loop-stroke-init : goal.loop-stroke-init
unfolding under_way
loop-stroke-init c = record { frame = refl; count = omega arith }

pub loop-stroke-preserved : goal.loop-stroke-preserved
loop-stroke-preserved c = record {
  frame = rw (one_more _ _ _ nothing c.loop-stroke-test.true, ← c.loop-stroke.invariant.frame) c.count.ensures;
  count = let most : c.count.new.self.strokes ≤ c.loop-stroke.self.strokes + 1 = rw c.count.ensures (counted-most c.loop-stroke.self _) in
      omega arith;
}
