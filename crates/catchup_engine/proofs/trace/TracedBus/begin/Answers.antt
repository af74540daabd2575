use Rattle.std.proofs.Common.{[]}
use Rattle.board_base.specs.declared.cpu.Sequence.TheVariants.{Reset}
use Rattle.cpu_core.specs.Sequences.{start_of}
use Rattle.catchup_engine.specs.Trace.{TracedStep, traced}
use Rattle.catchup_engine.proofs.Seen.{advances-seen}
use Rattle.catchup_engine.proofs.Traces.{first-room}
use Rattle.catchup_engine.proofs.trace.TracedBus.begin.Goals as goal

pub returns-clause-same_reference : goal.returns-clause-same_reference
returns-clause-same_reference g c =
    (advances-seen (TracedStep c.args.tape.now.entries) (λ s. traced s.bus.now s.trace) (λ s. s.bus.ghost_name) (λ x a b h. (h.0, h.1))
    (start_of Reset c.args.cpu.now) Reset [] 1 c.begin-fetched.ensures.advances.0 c.args.self.now c.begin-fetched.new.bus c.begin-fetched.new.self
    c.begin-fetched.ensures.advances.1).0

pub returns-clause-advances : goal.returns-clause-advances
returns-clause-advances g c = (
  c.begin-fetched.ensures.advances.0,
  (advances-seen (TracedStep c.args.tape.now.entries) (λ s. traced s.bus.now s.trace) (λ s. s.bus.ghost_name) (λ x a b h. (h.0, h.1))
      (start_of Reset c.args.cpu.now) Reset [] 1 c.begin-fetched.ensures.advances.0 c.args.self.now c.begin-fetched.new.bus c.begin-fetched.new.self
      c.begin-fetched.ensures.advances.1).1,
)

pub returns-clause-room : goal.returns-clause-room
returns-clause-room g c =
    first-room c.args.tape.now.entries c.args.cpu.now c.begin-fetched.new.self c.args.self.now.bus.now c.args.self.now.trace
    (traced c.begin-fetched.new.bus.bus.now c.begin-fetched.new.bus.trace) c.requires.clock_open (
      c.begin-fetched.ensures.advances.0,
      (advances-seen (TracedStep c.args.tape.now.entries) (λ s. traced s.bus.now s.trace) (λ s. s.bus.ghost_name) (λ x a b h. (h.0, h.1))
          (start_of Reset c.args.cpu.now) Reset [] 1 c.begin-fetched.ensures.advances.0 c.args.self.now c.begin-fetched.new.bus c.begin-fetched.new.self
          c.begin-fetched.ensures.advances.1).1,
    )
