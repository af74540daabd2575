use Rattle.std.proofs.Common.{◌-◌}
use Rattle.catchup_engine.specs.Bus.{Accepts}
use Rattle.catchup_engine.proofs.RunsOn.{AtCut}
use Rattle.catchup_engine.proofs.run.run_to_cut.Given as goal

abbrev pub invariant-loop-bus : goal.invariant-loop-bus
invariant-loop-bus g l = record {
  at : AtCut l.tape.entries l.cut l.wrap l.fn.cpu l.fn.bus l.bus l.cpu;
  accepts : Accepts l.tape l.bus;
}

abbrev pub decreases-loop-bus : goal.decreases-loop-bus
decreases-loop-bus g l = l.cut - l.bus.peripherals.clock
