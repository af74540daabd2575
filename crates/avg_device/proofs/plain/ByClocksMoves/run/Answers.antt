-- One clock more is one tick more.
use Rattle.std.proofs.Common.{◌+◌, arith}
use Rattle.board_base.proofs.ExtendedLaws.{Extended-more}
use Rattle.board_base.proofs.TickLaws.{made-more, ticks-more}
use Rattle.avg_device.proofs.ManyTicks.{vg_gives-few}
use Rattle.avg_device.proofs.plain.ByClocksMoves.run.Goals as goal

pub loop-done-preserved : goal.loop-done-preserved
loop-done-preserved c = record {
  state = rw (ticks-more, ← c.loop-done.invariant.state) c.tick.ensures.state;
  records = rw (made-more, ← c.loop-done.invariant.state) (Extended-more c.loop-done.invariant.records c.tick.ensures.records);
  room = omega (arith, c.tick.ensures.records.spare, vg_gives-few (c.args.from + c.loop-done.done) c.loop-done.state);
}
