use Rattle.std.proofs.Common.{arith, sym, ◌∙◌, ap}
use Rattle.pokey_chip.specs.Tick.{pokey_tick}
use Rattle.pokey_chip.proofs.RecordLemmas.{extended-more}
use Rattle.board_base.proofs.TickLaws.{times-more}
use Rattle.pokey_chip.proofs.plain.ByClocksMoves.run.Goals as goal

pub loop-i-preserved : goal.loop-i-preserved
loop-i-preserved c = record {
  state = c.tick_into.ensures.state ∙ ap pokey_tick c.loop-i.invariant.state ∙ sym (times-more pokey_tick c.loop-i.i c.args.state.now);
  records = extended-more c.args.from c.loop-i.i c.args.state.now c.loop-i.invariant.records (rw c.loop-i.invariant.state at c.tick_into.ensures.records);
  room = omega arith;
}
