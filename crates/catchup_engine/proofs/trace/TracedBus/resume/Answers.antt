use Rattle.catchup_engine.specs.Trace.{TracedStep, traced}
use Rattle.catchup_engine.proofs.Seen.{rest-seen}
use Rattle.catchup_engine.proofs.trace.TracedBus.resume.Goals as goal

pub returns-clause-same_reference : goal.returns-clause-same_reference
returns-clause-same_reference g c =
    (rest-seen (TracedStep c.args.tape.now.entries) (λ s. traced s.bus.now s.trace) (λ s. s.bus.ghost_name) (λ x a b h. (h.0, h.1))
    c.args.cpu.now c.args.clocks c.resume-made.result c.args.self.now c.resume-made.new.bus c.resume-made.new.self c.requires.middle
    c.resume-made.ensures.advances).0

pub returns-clause-advances : goal.returns-clause-advances
returns-clause-advances g c =
    (rest-seen (TracedStep c.args.tape.now.entries) (λ s. traced s.bus.now s.trace) (λ s. s.bus.ghost_name) (λ x a b h. (h.0, h.1))
    c.args.cpu.now c.args.clocks c.resume-made.result c.args.self.now c.resume-made.new.bus c.resume-made.new.self c.requires.middle
    c.resume-made.ensures.advances).1
