-- The clocks of a leap follow those done before it.
use Rattle.std.proofs.Common.{◌+◌, arith}
use Rattle.board_base.proofs.ExtendedLaws.{Extended-more}
use Rattle.board_base.proofs.TickLaws.{made-add, ticks-add}
use Rattle.avg_device.proofs.ManyTicks.{vg_made-few}
use Rattle.avg_device.proofs.fast.ByWordsMoves.run.Goals as goal

pub loop-done-preserved : goal.loop-done-preserved
loop-done-preserved c = record {
  state = rw (ticks-add, ← c.loop-done.invariant.state) c.leap-done.ensures.state;
  records = rw (made-add, ← c.loop-done.invariant.state) (Extended-more c.loop-done.invariant.records c.leap-done.ensures.records);
  room = omega (
    arith,
    c.leap-done.ensures.records.spare,
    vg_made-few c.args.memory.now (c.args.from + c.loop-done.done) c.leap-done.result c.loop-done.state,
  );
  within = omega arith;
}
