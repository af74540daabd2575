use Rattle.std.proofs.Common.{◌≡◌, ◌||◌, false, sym, ◌∙◌}
use Rattle.lockstep_board.specs.Run.{is_over}
use Rattle.catchup_engine.specs.Runs.{over_bus}
use Rattle.catchup_engine.specs.StopConditions.{asks_generator, stops_at}
use Rattle.catchup_engine.proofs.BreaksOn.{turns-start, turns-go_on, turns-join}
use Rattle.catchup_engine.proofs.StopLaws.{ends-looked, looked-accepts, turns-looked}
use Rattle.catchup_engine.proofs.run.run_turns.Goals as goal

pub loop-ended-init : goal.loop-ended-init
loop-ended-init g c =
    let stops = g.B.Breaks.conditions c.args.breaks.now in
    let looked = c.is_at_end-ended.ensures.looked in
    record {
      at =
          turns-looked c.args.tape.now.entries c.args.limit stops c.args.cpu c.args.bus.now c.args.bus.now c.is_at_end-ended.new.bus c.args.cpu
          (turns-start c.args.tape.now.entries c.args.limit stops c.args.cpu c.args.bus.now c.requires.ready.between c.requires.boundary c.requires.ready.range) looked;
      accepts = looked-accepts (asks_generator stops) c.args.tape.now c.args.bus.now c.is_at_end-ended.new.bus looked c.requires.ready.accepts;
      stated = c.is_at_end-ended.ensures.value ∙ sym (ends-looked (asks_generator stops) c.args.limit stops c.args.cpu c.args.bus.now c.is_at_end-ended.new.bus looked);
    }

pub loop-ended-preserved : goal.loop-ended-preserved
loop-ended-preserved g c =
    let stops = g.B.Breaks.conditions c.args.breaks.now in
    let open_yet : is_over c.args.limit (over_bus c.loop-ended.cpu c.loop-ended.bus) || stops_at stops (over_bus c.loop-ended.cpu c.loop-ended.bus) ≡ false =
    sym c.loop-ended.invariant.stated ∙ c.loop-ended-test.true in
    let looked = c.is_at_end-ended-in-loop-ended.ensures.looked in
    record {
      at =
          turns-looked c.args.tape.now.entries c.args.limit stops c.args.cpu c.args.bus.now c.run_fast-cpu.new.bus c.is_at_end-ended-in-loop-ended.new.bus c.run_fast-cpu.result
          (turns-join c.args.tape.now.entries c.args.limit stops c.args.cpu c.args.bus.now c.step_slow-cpu.new.bus c.run_fast-cpu.new.bus c.step_slow-cpu.result c.run_fast-cpu.result
          (turns-go_on c.args.tape.now.entries c.args.limit stops c.args.cpu c.args.bus.now c.loop-ended.bus c.step_slow-cpu.new.bus c.loop-ended.cpu
          c.step_slow-cpu.result c.requires.ready.within c.loop-ended.invariant.at open_yet c.step_slow-cpu.ensures.turned)
          c.run_fast-cpu.ensures.runs.on) looked;
      accepts = looked-accepts (asks_generator stops) c.args.tape.now c.run_fast-cpu.new.bus c.is_at_end-ended-in-loop-ended.new.bus looked c.run_fast-cpu.ensures.accepts;
      stated =
          c.is_at_end-ended-in-loop-ended.ensures.value
          ∙ sym (ends-looked (asks_generator stops) c.args.limit stops c.run_fast-cpu.result c.run_fast-cpu.new.bus c.is_at_end-ended-in-loop-ended.new.bus looked);
    }

pub returns : goal.returns
returns g c = record {
  runs = record { on = c.loop-ended.invariant.at; ends = sym c.loop-ended.invariant.stated ∙ c.loop-ended-test.false };
  accepts = c.loop-ended.invariant.accepts;
}
