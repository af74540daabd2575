use Rattle.std.proofs.Common.{arith, sym, ◌∙◌}
use Rattle.catchup_engine.specs.StopConditions.{asks_generator}
use Rattle.catchup_engine.proofs.BreaksOn.{turns-join, turns-start}
use Rattle.catchup_engine.proofs.HorizonRuns.{goes-before, goes-on-tells, room-kept}
use Rattle.catchup_engine.proofs.StopLaws.{goes-looked, looked-accepts, looked-clock, turns-looked}
use Rattle.catchup_engine.proofs.run.run_fast.Goals as goal

pub loop-on-init : goal.loop-on-init
loop-on-init g c =
    let stops = g.B.Breaks.conditions c.args.breaks.now in
    let looked = c.goes_fast-on.ensures.looked in
    record {
      at =
          turns-looked c.args.tape.now.entries c.args.limit stops c.args.cpu c.args.bus.now c.args.bus.now c.goes_fast-on.new.bus c.args.cpu
          (turns-start c.args.tape.now.entries c.args.limit stops c.args.cpu c.args.bus.now c.requires.ready.between c.requires.boundary c.requires.ready.range) looked;
      accepts = looked-accepts (asks_generator stops) c.args.tape.now c.args.bus.now c.goes_fast-on.new.bus looked c.requires.ready.accepts;
      stated = c.goes_fast-on.ensures.value ∙ sym (goes-looked (asks_generator stops) c.args.limit stops c.args.cpu c.args.bus.now c.goes_fast-on.new.bus looked);
    }

pub run_to_horizon-cpu-requires-clause-ready : goal.run_to_horizon-cpu-requires-clause-ready
run_to_horizon-cpu-requires-clause-ready g c = record {
  within = c.requires.ready.within;
  range = c.loop-on.invariant.at.range;
  between = c.loop-on.invariant.at.run.goes.between;
  room =
      room-kept c.args.tape.now c.args.limit (g.B.Breaks.conditions c.args.breaks.now) c.args.cpu c.loop-on.cpu c.args.bus.now c.loop-on.bus c.requires.ready.within c.requires.ready.room
      c.loop-on.invariant.at;
  accepts = c.loop-on.invariant.accepts;
}

pub run_to_horizon-cpu-requires-clause-goes_on : goal.run_to_horizon-cpu-requires-clause-goes_on
run_to_horizon-cpu-requires-clause-goes_on g c =
    goes-on-tells c.args.tape.now c.args.limit (g.B.Breaks.conditions c.args.breaks.now) c.loop-on.cpu c.loop-on.bus (sym c.loop-on.invariant.stated ∙ c.loop-on-test.true)

pub loop-on-smaller : goal.loop-on-smaller
loop-on-smaller g c =
    let stops = g.B.Breaks.conditions c.args.breaks.now in
    let goes = goes-on-tells c.args.tape.now c.args.limit stops c.loop-on.cpu c.loop-on.bus (sym c.loop-on.invariant.stated ∙ c.loop-on-test.true) in
    let before = goes-before c.args.tape.now c.args.limit stops c.loop-on.cpu c.loop-on.bus goes in
    let early = before.clock in
    let later = c.run_to_horizon-cpu.ensures.later in
    let same = looked-clock (asks_generator stops) c.run_to_horizon-cpu.new.bus c.goes_fast-on-in-loop-on.new.bus c.goes_fast-on-in-loop-on.ensures.looked in
    omega arith

pub loop-on-preserved : goal.loop-on-preserved
loop-on-preserved g c =
    let stops = g.B.Breaks.conditions c.args.breaks.now in
    let looked = c.goes_fast-on-in-loop-on.ensures.looked in
    record {
      at =
          turns-looked c.args.tape.now.entries c.args.limit stops c.args.cpu c.args.bus.now c.run_to_horizon-cpu.new.bus c.goes_fast-on-in-loop-on.new.bus c.run_to_horizon-cpu.result
          (turns-join c.args.tape.now.entries c.args.limit stops c.args.cpu c.args.bus.now c.loop-on.bus c.run_to_horizon-cpu.new.bus c.loop-on.cpu
          c.run_to_horizon-cpu.result c.loop-on.invariant.at c.run_to_horizon-cpu.ensures.on) looked;
      accepts = looked-accepts (asks_generator stops) c.args.tape.now c.run_to_horizon-cpu.new.bus c.goes_fast-on-in-loop-on.new.bus looked c.run_to_horizon-cpu.ensures.accepts;
      stated =
          c.goes_fast-on-in-loop-on.ensures.value
          ∙ sym (goes-looked (asks_generator stops) c.args.limit stops c.run_to_horizon-cpu.result c.run_to_horizon-cpu.new.bus c.goes_fast-on-in-loop-on.new.bus looked);
    }
