use Rattle.std.proofs.Common.{ap, sym, ◌∙◌, arith}
use Rattle.cpu_core.specs.Sequences.{start_of}
use Rattle.catchup_engine.specs.Runs.{over_bus}
use Rattle.catchup_engine.specs.Trace.{first_byte, opcode_by, no_trace, traced}
use Rattle.lockstep_board.specs.Lockstep.{access_in}
use Rattle.catchup_engine.proofs.Traces.{bus-runs, fetch-byte, fetch-sequence, reset-opcode, reset-observed, trace-named, whole-observed}
use Rattle.catchup_engine.proofs.Turns.{begins-by, fetch-turn, runs-advance}
use Rattle.catchup_engine.proofs.trace.trace_fetch.Goals as goal

pub returns-in-Reset-clause-turned : goal.returns-in-Reset-clause-turned
returns-in-Reset-clause-turned g c =
    let begins = begins-by c.args.tape.now.entries c.args.bus.now c.begin.new.self c.begin.ensures.value c.begin.ensures.until c.begin.ensures.calls c.begin.ensures.more in
    (reset-observed c.args.tape.now.entries c.args.cpu.now c.args.bus.now c.begin.new.self (traced c.trace_reset-trace.new.bus c.trace_reset-trace.result) c.trace_reset-trace.new.cpu
    c.requires.boundary begins (sym c.in-Reset.is ∙ c.due-sequence.ensures) c.trace_reset-trace.ensures.resets).turned

pub returns-in-Reset-clause-trace : goal.returns-in-Reset-clause-trace
returns-in-Reset-clause-trace g c =
    let begins = begins-by c.args.tape.now.entries c.args.bus.now c.begin.new.self c.begin.ensures.value c.begin.ensures.until c.begin.ensures.calls c.begin.ensures.more in
    let entries = c.args.tape.now.entries in
    let b = over_bus c.args.cpu.now c.args.bus.now in
    let q = c.due-sequence.result in
    let observed =
    (reset-observed entries c.args.cpu.now c.args.bus.now c.begin.new.self (traced c.trace_reset-trace.new.bus c.trace_reset-trace.result) c.trace_reset-trace.new.cpu
    c.requires.boundary begins (sym c.in-Reset.is ∙ c.due-sequence.ensures) c.trace_reset-trace.ensures.resets).traced in
    c.named.ensures
    ∙ trace-named entries b (traced c.trace_reset-trace.new.bus c.trace_reset-trace.result) q (opcode_by q 0) observed
    (fetch-sequence entries c.args.cpu.now q c.args.bus.now c.begin.new.self c.requires.boundary begins c.due-sequence.ensures)
    (reset-opcode q 0 (first_byte b.cpu.mid (access_in entries b)) c.in-Reset.is)

pub returns-in_default-clause-turned : goal.returns-in_default-clause-turned
returns-in_default-clause-turned g c =
    let begins = begins-by c.args.tape.now.entries c.args.bus.now c.begin.new.self c.begin.ensures.value c.begin.ensures.until c.begin.ensures.calls c.begin.ensures.more in
    let entries = c.args.tape.now.entries in
    let q = c.due-sequence.result in
    let t = traced c.trace_whole-trace.new.bus c.trace_whole-trace.result in
    let a = runs-advance entries (start_of q c.args.cpu.now) q c.begin.new.self c.trace_whole-trace.new.bus c.trace_whole-trace.new.cpu
    (bus-runs entries (start_of q c.args.cpu.now) q (traced c.begin.new.self no_trace) t c.trace_whole-trace.new.cpu c.trace_whole-trace.ensures.runs)
    c.trace_whole-trace.ensures.boundary in
    fetch-turn entries c.args.cpu.now q 7 a.0 c.args.bus.now c.begin.new.self c.trace_whole-trace.new.bus c.trace_whole-trace.new.cpu c.requires.boundary begins
    c.due-sequence.ensures c.in_default.not-Reset (omega arith) a.1

pub returns-in_default-clause-trace : goal.returns-in_default-clause-trace
returns-in_default-clause-trace g c =
    let begins = begins-by c.args.tape.now.entries c.args.bus.now c.begin.new.self c.begin.ensures.value c.begin.ensures.until c.begin.ensures.calls c.begin.ensures.more in
    let entries = c.args.tape.now.entries in
    let q = c.due-sequence.result in
    let t = traced c.trace_whole-trace.new.bus c.trace_whole-trace.result in
    let observed = whole-observed entries c.args.cpu.now q c.args.bus.now c.begin.new.self t c.trace_whole-trace.new.cpu c.requires.boundary begins
    c.due-sequence.ensures c.in_default.not-Reset c.trace_whole-trace.ensures.runs in
    c.named-in_default.ensures
    ∙ trace-named entries (over_bus c.args.cpu.now c.args.bus.now) t q (opcode_by q c.first_byte-first.result) observed
    (fetch-sequence entries c.args.cpu.now q c.args.bus.now c.begin.new.self c.requires.boundary begins c.due-sequence.ensures)
    (ap (opcode_by q) (c.first_byte-first.ensures ∙ fetch-byte entries c.args.cpu.now c.args.bus.now t c.requires.boundary observed))
