use Rattle.std.proofs.Common.{arith}
use Rattle.catchup_engine.proofs.TapeLaws.{none-applied, one-applied, all-applied}
use Rattle.catchup_engine.proofs.bus.BoardBus.apply.Goals as goal

pub loop-entry-init : goal.loop-entry-init
loop-entry-init g c = none-applied _ _

pub loop-entry-preserved : goal.loop-entry-preserved
loop-entry-preserved g c =
    one-applied c.args.entries.now c.loop-entry.entry-index _ c.args.self.now c.loop-entry.self c.set_port.new.self c.loop-entry-test.true c.loop-entry.invariant
    c.set_port.ensures.does

pub returns : goal.returns
returns g c = record {
  does = record {
    value =
        all-applied c.args.entries.now c.loop-entry.entry-index c.args.self.now c.loop-entry.self c.loop-entry.auto.entry-index-end c.loop-entry-test.false c.loop-entry.invariant;
    until = c.loop-entry.invariant.until;
    calls = (let h = c.loop-entry.invariant.calls in let k = c.loop-entry.auto.entry-index-end in omega arith);
    more = c.loop-entry.invariant.more;
  };
}
