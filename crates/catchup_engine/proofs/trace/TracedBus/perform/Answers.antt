use Rattle.cpu_core.specs.Sequences.{start_of}
use Rattle.catchup_engine.specs.Trace.{TracedStep, traced}
use Rattle.catchup_engine.proofs.Seen.{runs-seen}
use Rattle.catchup_engine.proofs.trace.TracedBus.perform.Goals as goal

pub returns-clause-same_reference : goal.returns-clause-same_reference
returns-clause-same_reference g c =
    (runs-seen (TracedStep c.args.tape.now.entries) (λ s. traced s.bus.now s.trace) (λ s. s.bus.ghost_name) (λ x a b h. (h.0, h.1))
    (start_of c.args.sequence c.args.cpu.now) c.args.sequence c.args.self.now c.perform.new.bus c.perform.new.cpu c.perform.ensures.runs).0

pub returns-clause-runs : goal.returns-clause-runs
returns-clause-runs g c =
    (runs-seen (TracedStep c.args.tape.now.entries) (λ s. traced s.bus.now s.trace) (λ s. s.bus.ghost_name) (λ x a b h. (h.0, h.1))
    (start_of c.args.sequence c.args.cpu.now) c.args.sequence c.args.self.now c.perform.new.bus c.perform.new.cpu c.perform.ensures.runs).1
