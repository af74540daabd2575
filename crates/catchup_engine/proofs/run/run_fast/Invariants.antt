use Rattle.std.proofs.Common.{◌≡◌, ◌-◌, ◌&&◌, ◌||◌, not}
use Rattle.lockstep_board.specs.Run.{is_over}
use Rattle.catchup_engine.specs.Bus.{Accepts}
use Rattle.catchup_engine.specs.Runs.{TurnsOn, over_bus}
use Rattle.catchup_engine.specs.StopConditions.{stops_at}
use Rattle.catchup_engine.specs.Turn.{reads_opcode}
use Rattle.catchup_engine.proofs.run.run_fast.Given as goal

abbrev pub invariant-loop-on : goal.invariant-loop-on
invariant-loop-on g l = record {
  at : TurnsOn l.tape.entries l.limit (g.B.Breaks.conditions l.breaks) l.fn.cpu l.fn.bus l.bus l.cpu;
  accepts : Accepts l.tape l.bus;
  stated : l.on ≡ (not (is_over l.limit (over_bus l.cpu l.bus) || stops_at (g.B.Breaks.conditions l.breaks) (over_bus l.cpu l.bus)) && reads_opcode l.cpu l.bus);
}

abbrev pub decreases-loop-on : goal.decreases-loop-on
decreases-loop-on g l = l.limit - l.bus.peripherals.clock
