use Rattle.std.proofs.Common.{◌≡◌, false, min, arith, ap, sym, ◌∙◌}
use Rattle.lockstep_board.specs.Run.{is_cut}
use Rattle.catchup_engine.specs.Runs.{over_bus}
use Rattle.catchup_engine.proofs.RunsOn.{AtCut, cut-starts, cut-goes_on, cut-turns, cut-ends}
use Rattle.catchup_engine.proofs.run.run_to_cut.Given
use Rattle.catchup_engine.proofs.run.run_to_cut.Goals as goal

pub loop-bus-init : goal.loop-bus-init
loop-bus-init g c = record {
  at = cut-starts c.args.tape.now.entries c.args.cut c.args.wrap c.args.cpu c.args.bus.now c.requires.ready.between c.requires.ready.range;
  accepts = c.requires.ready.accepts;
}

-- a turn that isn't to go past the cut
turned : (g : Given.Over) (c : goal.Else-is_none g)
    → AtCut c.args.tape.now.entries c.args.cut c.args.wrap c.args.cpu c.args.bus.now c.step_slow-cpu.new.bus c.step_slow-cpu.result
turned g c =
    let open_yet : is_cut c.args.cut c.args.wrap (over_bus c.loop-bus.cpu c.loop-bus.bus) ≡ false = sym c.is_stopped.ensures ∙ c.loop-bus-test.true in
    let here = c.clock.ensures.value in
    let within = c.clocks_to-clocks.ensures.within in
    cut-goes_on c.args.tape.now.entries c.args.cut c.args.wrap c.clocks_to-clocks.result c.args.cpu c.args.bus.now c.loop-bus.bus c.step_slow-cpu.new.bus c.loop-bus.cpu
    c.step_slow-cpu.result c.requires.ready.within c.loop-bus.invariant.at open_yet (omega arith) (rw here at c.clocks_to-clocks.ensures.all) c.step_slow-cpu.ensures.turned

pub loop-bus-preserved-then-is_none : goal.loop-bus-preserved-then-is_none
loop-bus-preserved-then-is_none g c =
    let open_yet : is_cut c.args.cut c.args.wrap (over_bus c.loop-bus.cpu c.loop-bus.bus) ≡ false = sym c.is_stopped.ensures ∙ c.loop-bus-test.true in
    let here = c.clock.ensures.value in
    let within = c.clocks_to-clocks.ensures.within in
    let at =
    cut-goes_on c.args.tape.now.entries c.args.cut c.args.wrap c.clocks_to-clocks.result c.args.cpu c.args.bus.now c.loop-bus.bus c.step_slow-cpu.new.bus c.loop-bus.cpu
    c.step_slow-cpu.result c.requires.ready.within c.loop-bus.invariant.at open_yet (omega arith) (rw here at c.clocks_to-clocks.ensures.all) c.step_slow-cpu.ensures.turned in
    record {
      at =
          cut-turns c.args.tape.now.entries c.args.cut c.args.wrap c.min-near.result c.args.cpu c.args.bus.now c.step_slow-cpu.new.bus c.run_by_wiring-cpu.new.bus
          c.step_slow-cpu.result c.run_by_wiring-cpu.result (c.min-near.ensures ∙ ap (min c.args.wrap) c.saturating_sub.ensures) at c.run_by_wiring-cpu.ensures.runs;
      accepts = c.run_by_wiring-cpu.ensures.accepts;
    }

pub loop-bus-preserved : goal.loop-bus-preserved
loop-bus-preserved g c = record { at = turned g c; accepts = c.step_slow-cpu.ensures.accepts }

pub returns : goal.returns
returns g c = record {
  runs = cut-ends c.args.tape.now.entries c.args.cut c.args.wrap c.args.cpu c.args.bus.now c.loop-bus.bus c.loop-bus.cpu c.loop-bus.invariant.at (sym c.is_stopped.ensures ∙ c.loop-bus-test.false);
}
