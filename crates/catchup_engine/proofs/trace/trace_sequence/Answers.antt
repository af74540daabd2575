use Rattle.std.proofs.Common.{◌≡◌, true, is_some, ap, sym, ◌∙◌}
use Rattle.board_base.specs.Cpu.{CpuValue}
use Rattle.catchup_engine.proofs.RunsOn.{none-is}
use Rattle.catchup_engine.proofs.Traces.{jammed-run, jammed-observed, trace-ends, trace-observed}
use Rattle.catchup_engine.proofs.trace.trace_sequence.Goals as goal

pub returns-then-is_some-clause-run : goal.returns-then-is_some-clause-run
returns-then-is_some-clause-run g c =
    let state = c.behind-cpu.view_is ∙ c.state.ensures.value in
    let jammed : is_some c.args.cpu.now.jam ≡ true = ap (λ (k : CpuValue). is_some k.jam) (sym state) ∙ sym c.is_some.ensures ∙ c.if-is_some.true in
    jammed-run c.args.tape.now.entries c.args.cpu.now c.args.bus.now c.requires.ready.between jammed (rw c.state.ensures.value at c.state.ensures.place) c.requires.range

pub returns-then-is_some-clause-trace : goal.returns-then-is_some-clause-trace
returns-then-is_some-clause-trace g c =
    let state = c.behind-cpu.view_is ∙ c.state.ensures.value in
    let jammed : is_some c.args.cpu.now.jam ≡ true = ap (λ (k : CpuValue). is_some k.jam) (sym state) ∙ sym c.is_some.ensures ∙ c.if-is_some.true in
    c.new.ensures ∙ jammed-observed c.args.tape.now.entries c.args.cpu.now c.args.bus.now jammed

pub returns-clause-run : goal.returns-clause-run
returns-clause-run g c =
    let state = c.behind-cpu.view_is ∙ c.state.ensures.value in
    let running = none-is c.args.cpu.now.jam (ap (λ (k : CpuValue). is_some k.jam) (sym state) ∙ sym c.is_some.ensures ∙ c.if-is_some.false) in
    trace-ends c.args.tape.now.entries c.args.cpu.now c.args.bus.now c.trace_running.new.bus c.trace_running.new.cpu running c.requires.range c.requires.early
    c.trace_running.ensures.turned

pub returns-clause-trace : goal.returns-clause-trace
returns-clause-trace g c =
    let state = c.behind-cpu.view_is ∙ c.state.ensures.value in
    let running = none-is c.args.cpu.now.jam (ap (λ (k : CpuValue). is_some k.jam) (sym state) ∙ sym c.is_some.ensures ∙ c.if-is_some.false) in
    trace-observed c.args.tape.now.entries c.args.cpu.now c.args.bus.now c.trace_running.new.bus c.trace_running.new.cpu c.trace_running.result running
    c.trace_running.ensures.turned c.trace_running.ensures.trace
