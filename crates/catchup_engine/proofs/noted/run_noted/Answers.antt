use Rattle.std.proofs.Common.{rules, ◌≡◌, ◌-◌, ◌<◌, true, length, ap, ◌∙◌, refl, arith}
use Rattle.catchup_engine.specs.StopConditions.{no_conditions}
use Rattle.catchup_engine.specs.Notes.{noting}
use Rattle.catchup_engine.specs.Quiet.{passed}
use Rattle.lockstep_board.specs.Peripherals.{devices_ticked}
use Rattle.catchup_engine.proofs.HorizonLaws.{none-pending}
use Rattle.catchup_engine.proofs.HorizonRuns.{horizon-room}
use Rattle.catchup_engine.proofs.NotedRuns.{IsNotedBy, noted-by, noted-ends, noted-goes, noted-smaller, noted-starts}
use Rattle.catchup_engine.proofs.OpcodeLaws.{reads-opcode}
use Rattle.catchup_engine.proofs.noted.run_noted.Given
use Rattle.catchup_engine.proofs.noted.run_noted.Goals as goal
use Rattle.catchup_engine.proofs.noted.run_noted.Goals.{After-instruction-fetched}

pub horizon_from-horizon-requires-clause-no_event : goal.horizon_from-horizon-requires-clause-no_event
horizon_from-horizon-requires-clause-no_event g c = (reads-opcode c.args.cpu c.args.bus.now c.requires.goes_on.reads).reads.no_event

pub horizon_from-horizon-requires-clause-pending : goal.horizon_from-horizon-requires-clause-pending
horizon_from-horizon-requires-clause-pending g c =
    none-pending c.args.cpu (devices_ticked c.args.bus.now.peripherals) (reads-opcode c.args.cpu c.args.bus.now c.requires.goes_on.reads).reads.due

pub loop-goes_on-init : goal.loop-goes_on-init
loop-goes_on-init g c = record {
  at =
      rw (c.new-lent.ensures.none, c.new-lent.ensures.bus) (noted-starts g.T.Tracer.next g.T.Tracer.has_enough g.T.Tracer.plain g.T.Tracer.after_plain c.args.tape.now c.args.limit
      c.horizon_from-horizon.result c.args.together c.args.cpu c.args.bus.now c.none-noting.result c.requires.ready.within c.requires.ready.range c.requires.ready.between
      c.requires.ready.room c.requires.ready.accepts c.requires.goes_on c.horizon_from-horizon.ensures.horizon c.horizon_from-horizon.ensures.until c.none-noting.ensures);
  bus = refl;
  reached = refl;
}

pub instruction-fetched-requires-clause-room : goal.instruction-fetched-requires-clause-room
instruction-fetched-requires-clause-room g c =
    let room = horizon-room c.args.tape.now c.args.limit no_conditions c.horizon_from-horizon.result c.args.cpu c.loop-goes_on.cpu c.args.bus.now c.loop-goes_on.noted.quiet.bus.now
    c.loop-goes_on.noted.quiet.elapsed c.loop-goes_on.goes_on c.loop-goes_on-test.true c.requires.ready.within c.requires.ready.room c.loop-goes_on.invariant.at.at in
    let none = ap length (c.loop-goes_on.invariant.at.starts c.loop-goes_on-test.true) in
    omega (arith, room, none)

-- what the instruction did
did : (g : Given.Over) (c : After-instruction-fetched g) → IsNotedBy c.args.tape.now.entries (λ k. noting (passed k.quiet.elapsed k.quiet.bus.now) k.reached.now)
    (λ k. k.quiet.bus.now) (λ k. k.quiet.bus.ghost_name) (λ k. k.reached.ghost_name) c.loop-goes_on.cpu c.instruction-fetched.new.cpu c.loop-goes_on.noted c.instruction-fetched.new.self
did g c =
    noted-by c.args.tape.now.entries (λ k. noting (passed k.quiet.elapsed k.quiet.bus.now) k.reached.now) (λ k. k.quiet.bus.now) (λ k. k.quiet.bus.ghost_name)
    (λ k. k.reached.ghost_name) (λ x a b h. h) c.loop-goes_on.cpu c.instruction-fetched.new.cpu c.loop-goes_on.noted c.instruction-fetched.new.self c.instruction-fetched.ensures.runs

smaller : (g : Given.Over) (c : After-instruction-fetched g)
    → c.args.limit - (passed c.instruction-fetched.new.self.quiet.elapsed c.instruction-fetched.new.self.quiet.bus.now).peripherals.clock
    < c.args.limit - (passed c.loop-goes_on.noted.quiet.elapsed c.loop-goes_on.noted.quiet.bus.now).peripherals.clock
smaller g c =
    noted-smaller g.T.Tracer.next g.T.Tracer.has_enough g.T.Tracer.plain g.T.Tracer.after_plain c.args.tape.now c.args.limit c.horizon_from-horizon.result c.args.together
    c.args.cpu c.loop-goes_on.cpu c.instruction-fetched.new.cpu c.args.bus.now c.loop-goes_on.noted.quiet.bus.now c.instruction-fetched.new.self.quiet.bus.now
    c.loop-goes_on.noted.quiet.elapsed c.instruction-fetched.new.self.quiet.elapsed c.loop-goes_on.noted.reached.now c.instruction-fetched.new.self.reached.now
    c.loop-goes_on.goes_on c.loop-goes_on-test.true c.loop-goes_on.invariant.at (did g c).runs c.instruction-fetched.ensures.boundary

pub loop-goes_on-smaller-then-together : goal.loop-goes_on-smaller-then-together
loop-goes_on-smaller-then-together g c = smaller g (goal.at.loop-goes_on-smaller-then-together g c).After-instruction-fetched

pub loop-goes_on-smaller : goal.loop-goes_on-smaller
loop-goes_on-smaller g c = smaller g (goal.at.loop-goes_on-smaller g c).After-instruction-fetched

pub goes_on-goes_on-requires-clause-event : goal.goes_on-goes_on-requires-clause-event
goes_on-goes_on-requires-clause-event g c =
    let went = did g (goal.at.goes_on-goes_on-requires-clause-event g c).After-instruction-fetched in
    let event = went.lines.event in
    let no_event = c.loop-goes_on.invariant.at.at.are.no_event in
    omega arith

pub loop-goes_on-preserved-then-together : goal.loop-goes_on-preserved-then-together
loop-goes_on-preserved-then-together g c =
    let went = did g (goal.at.loop-goes_on-preserved-then-together g c).After-instruction-fetched in
    record {
      at =
          noted-goes g.T.Tracer.next g.T.Tracer.has_enough g.T.Tracer.plain g.T.Tracer.after_plain c.args.tape.now c.args.limit c.horizon_from-horizon.result c.args.together
          c.args.cpu c.loop-goes_on.cpu c.instruction-fetched.new.cpu c.args.bus.now c.loop-goes_on.noted.quiet.bus.now c.instruction-fetched.new.self.quiet.bus.now
          c.loop-goes_on.noted.quiet.elapsed c.instruction-fetched.new.self.quiet.elapsed c.loop-goes_on.noted.reached.now c.instruction-fetched.new.self.reached.now
          c.loop-goes_on.goes_on c.loop-goes_on-test.true c.loop-goes_on.invariant.at went.runs c.instruction-fetched.ensures.boundary
          _ c.goes_on-goes_on.result c.requires.ready.within g.T.Tracer.together c.requires.plain c.instruction-fetched.ensures.accepts.0 went.lines c.instruction-fetched.ensures.accepts.1
          c.goes_on-goes_on.ensures.wrap c.goes_on-goes_on.ensures.before c.goes_on-goes_on.ensures.starts (λ _. c.if-together.true) c.goes_on-goes_on.ensures.plain;
      bus = went.same ∙ c.loop-goes_on.invariant.bus;
      reached = went.same_then ∙ c.loop-goes_on.invariant.reached;
    }

pub loop-goes_on-preserved : goal.loop-goes_on-preserved
loop-goes_on-preserved g c =
    let went = did g (goal.at.loop-goes_on-preserved g c).After-instruction-fetched in
    let never : c.args.together ≡ true → ⊥ = λ on. (let off = c.if-together.false in cc) in
    record {
      at =
          noted-goes g.T.Tracer.next g.T.Tracer.has_enough g.T.Tracer.plain g.T.Tracer.after_plain c.args.tape.now c.args.limit c.horizon_from-horizon.result c.args.together
          c.args.cpu c.loop-goes_on.cpu c.instruction-fetched.new.cpu c.args.bus.now c.loop-goes_on.noted.quiet.bus.now c.instruction-fetched.new.self.quiet.bus.now
          c.loop-goes_on.noted.quiet.elapsed c.instruction-fetched.new.self.quiet.elapsed c.loop-goes_on.noted.reached.now c.instruction-fetched.new.self.reached.now
          c.loop-goes_on.goes_on c.loop-goes_on-test.true c.loop-goes_on.invariant.at went.runs c.instruction-fetched.ensures.boundary
          true c.args.together c.requires.ready.within g.T.Tracer.together c.requires.plain c.instruction-fetched.ensures.accepts.0 went.lines c.instruction-fetched.ensures.accepts.1
          (λ on. absurd (never on)) (λ on. absurd (never on)) (λ on. absurd (never on)) (λ on. on) (λ on. absurd (never on));
      bus = went.same ∙ c.loop-goes_on.invariant.bus;
      reached = went.same_then ∙ c.loop-goes_on.invariant.reached;
    }

pub returns-clause-turns : goal.returns-clause-turns
returns-clause-turns g c = λ w.
    noted-ends g.T.Tracer.next g.T.Tracer.has_enough g.T.Tracer.plain g.T.Tracer.after_plain c.args.tape.now c.args.limit c.horizon_from-horizon.result c.args.together
    c.args.cpu c.loop-goes_on.cpu c.args.bus.now c.loop-goes_on.noted.quiet.bus.now c.loop-goes_on.noted.quiet.elapsed c.loop-goes_on.noted.reached.now
    c.loop-goes_on.goes_on c.loop-goes_on-test.false c.loop-goes_on.invariant.at w _ _ (search rules) (search rules)
