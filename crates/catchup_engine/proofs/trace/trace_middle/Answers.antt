use Rattle.std.proofs.Common.{◌≡◌, length, slice_index, Some, ap, sym, ◌∙◌}
use Rattle.board_base.specs.Cpu.{CpuValue}
use Rattle.board_base.specs.Mid.{MidValue}
use Rattle.catchup_engine.specs.Runs.{over_bus}
use Rattle.catchup_engine.specs.Trace.{TraceValue, opcode_by, traced}
use Rattle.catchup_engine.proofs.Traces.{middle-byte, middle-sequence, middle-observed, trace-named}
use Rattle.catchup_engine.proofs.trace.trace_middle.Goals as goal

pub returns-clause-turned : goal.returns-clause-turned
returns-clause-turned g c =
    let state = c.behind-cpu.view_is ∙ c.state.ensures.value in
    let inside : c.args.cpu.now.mid ≡ Some c.in-Some.mid = ap (λ (k : CpuValue). k.mid) (sym state) ∙ c.in-Some.is in
    let six : length c.in-Some.mid.bytes ≡ 6 = ap (λ (m : MidValue). length m.bytes) (sym c.mid.view_is) ∙ c.mid.invariant.bytes in
    let rest = middle-observed c.args.tape.now.entries c.args.cpu.now c.in-Some.mid c.args.bus.now (traced c.trace_rest-trace.new.bus c.trace_rest-trace.result) c.trace_rest-trace.new.cpu
    inside (rw c.state.ensures.value at c.state.ensures.place) six c.requires.ready.between (rw c.new.ensures at c.trace_rest-trace.ensures.advances) in
    rest.turned

pub returns-clause-trace : goal.returns-clause-trace
returns-clause-trace g c =
    let state = c.behind-cpu.view_is ∙ c.state.ensures.value in
    let inside : c.args.cpu.now.mid ≡ Some c.in-Some.mid = ap (λ (k : CpuValue). k.mid) (sym state) ∙ c.in-Some.is in
    let six : length c.in-Some.mid.bytes ≡ 6 = ap (λ (m : MidValue). length m.bytes) (sym c.mid.view_is) ∙ c.mid.invariant.bytes in
    let rest = middle-observed c.args.tape.now.entries c.args.cpu.now c.in-Some.mid c.args.bus.now (traced c.trace_rest-trace.new.bus c.trace_rest-trace.result) c.trace_rest-trace.new.cpu
    inside (rw c.state.ensures.value at c.state.ensures.place) six c.requires.ready.between (rw c.new.ensures at c.trace_rest-trace.ensures.advances) in
    let entries = c.args.tape.now.entries in
    let q = c.in-Some.mid.sequence in
    c.named.ensures
    ∙ ap (λ (m : MidValue). let t : TraceValue = record c.trace_rest-trace.result { sequence = m.sequence; opcode = opcode_by m.sequence (slice_index m.bytes 0) } in t) c.mid.view_is
    ∙ trace-named entries (over_bus c.args.cpu.now c.args.bus.now) (traced c.trace_rest-trace.new.bus c.trace_rest-trace.result) q (opcode_by q (slice_index c.in-Some.mid.bytes 0)) rest.traced
    (middle-sequence entries c.args.cpu.now c.in-Some.mid c.args.bus.now inside)
    (ap (opcode_by q) (middle-byte entries c.args.cpu.now c.in-Some.mid c.args.bus.now inside))
