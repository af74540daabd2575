use Rattle.catchup_engine.specs.Trace.{traced}
use Rattle.catchup_engine.proofs.Traces.{reset-one, reset-starts}
use Rattle.catchup_engine.proofs.Turns.{reset-inside}
use Rattle.std.proofs.Common.{arith}
use Rattle.catchup_engine.proofs.trace.trace_reset.Goals as goal

pub begin_reset-requires-clause-clock_done : goal.begin_reset-requires-clause-clock_done
begin_reset-requires-clause-clock_done g c =
    (reset-starts c.args.tape.now.entries c.args.cpu.now c.trace_first-trace.new.cpu c.args.bus.now (traced c.trace_first-trace.new.bus c.trace_first-trace.result)
    c.trace_first-trace.ensures.advances).clock

pub trace_rest-requires-clause-middle : goal.trace_rest-requires-clause-middle
trace_rest-requires-clause-middle g c =
    reset-inside c.args.tape.now.entries c.args.cpu.now c.args.bus.now c.trace_first-trace.new.bus c.trace_first-trace.new.cpu
    (reset-starts c.args.tape.now.entries c.args.cpu.now c.trace_first-trace.new.cpu c.args.bus.now (traced c.trace_first-trace.new.bus c.trace_first-trace.result)
    c.trace_first-trace.ensures.advances)

pub trace_rest-requires-clause-few : goal.trace_rest-requires-clause-few
trace_rest-requires-clause-few g c =
    let one = reset-one c.args.tape.now.entries c.args.cpu.now c.trace_first-trace.new.cpu c.args.bus.now (traced c.trace_first-trace.new.bus c.trace_first-trace.result)
    c.trace_first-trace.ensures.advances in
    omega arith

pub returns-clause-resets : goal.returns-clause-resets
returns-clause-resets g c = record {
  read = traced c.trace_first-trace.new.bus c.trace_first-trace.result;
  inside = c.trace_first-trace.new.cpu;
  begins = c.trace_first-trace.ensures.advances;
  taken = c.begin_reset.new.self;
  effects = c.begin_reset.ensures.does;
  rest = c.trace_rest.ensures.advances;
}
