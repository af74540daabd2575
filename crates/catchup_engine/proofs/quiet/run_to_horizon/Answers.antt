use Rattle.std.proofs.Common.{◌-◌, ◌<◌, sym, ◌∙◌, refl, true, arith}
use Rattle.catchup_engine.specs.StopConditions.{asks_generator, stops_at}
use Rattle.lockstep_board.specs.Peripherals.{devices_ticked}
use Rattle.catchup_engine.specs.Quiet.{passed}
use Rattle.catchup_engine.specs.Runs.{over_bus}
use Rattle.catchup_engine.proofs.HorizonLaws.{none-pending}
use Rattle.catchup_engine.proofs.HorizonRuns.{IsQuietBy, horizon-looked, and-else, and-then, horizon-goes, horizon-room, horizon-smaller, horizon-starts, quiet-by}
use Rattle.catchup_engine.proofs.OpcodeLaws.{reads-opcode}
use Rattle.catchup_engine.proofs.StopLaws.{looked-clock}
use Rattle.catchup_engine.proofs.quiet.run_to_horizon.Given
use Rattle.catchup_engine.proofs.quiet.run_to_horizon.Goals as goal
use Rattle.catchup_engine.proofs.quiet.run_to_horizon.Goals.{After-instruction-fetched}

pub horizon_from-horizon-requires-clause-no_event : goal.horizon_from-horizon-requires-clause-no_event
horizon_from-horizon-requires-clause-no_event g c = (reads-opcode c.args.cpu c.args.bus.now c.requires.goes_on.reads).reads.no_event

pub horizon_from-horizon-requires-clause-pending : goal.horizon_from-horizon-requires-clause-pending
horizon_from-horizon-requires-clause-pending g c =
    none-pending c.args.cpu (devices_ticked c.args.bus.now.peripherals) (reads-opcode c.args.cpu c.args.bus.now c.requires.goes_on.reads).reads.due

pub loop-goes_on-init : goal.loop-goes_on-init
loop-goes_on-init g c = record {
  at =
      rw (c.new-quiet.ensures.none, c.new-quiet.ensures.bus) (horizon-starts c.args.tape.now c.args.limit (g.B.Breaks.conditions c.args.breaks.now) c.horizon_from-horizon.result c.args.cpu
      c.args.bus.now c.requires.ready.within c.requires.ready.range c.requires.ready.between c.requires.ready.room c.requires.ready.accepts c.requires.goes_on c.horizon_from-horizon.ensures.horizon
      c.horizon_from-horizon.ensures.until);
  same = refl;
}

pub instruction-fetched-requires-clause-room : goal.instruction-fetched-requires-clause-room
instruction-fetched-requires-clause-room g c =
    horizon-room c.args.tape.now c.args.limit (g.B.Breaks.conditions c.args.breaks.now) c.horizon_from-horizon.result c.args.cpu c.loop-goes_on.cpu c.args.bus.now
    c.loop-goes_on.quiet.bus.now c.loop-goes_on.quiet.elapsed c.loop-goes_on.goes_on c.loop-goes_on-test.true c.requires.ready.within c.requires.ready.room c.loop-goes_on.invariant.at

-- what the instruction did
did : (g : Given.Over) (c : After-instruction-fetched g) → IsQuietBy c.args.tape.now.entries (λ s. s.bus.now) (λ s. s.elapsed) (λ s. s.bus.ghost_name)
    c.loop-goes_on.cpu c.instruction-fetched.new.cpu c.loop-goes_on.quiet c.instruction-fetched.new.self
did g c =
    quiet-by c.args.tape.now.entries (λ s. s.bus.now) (λ s. s.elapsed) (λ s. s.bus.ghost_name) (λ x a b h. h)
    c.loop-goes_on.cpu c.instruction-fetched.new.cpu c.loop-goes_on.quiet c.instruction-fetched.new.self c.instruction-fetched.ensures.runs

smaller : (g : Given.Over) (c : After-instruction-fetched g) → c.args.limit - (passed c.instruction-fetched.new.self.elapsed c.instruction-fetched.new.self.bus.now).peripherals.clock
    < c.args.limit - (passed c.loop-goes_on.quiet.elapsed c.loop-goes_on.quiet.bus.now).peripherals.clock
smaller g c =
    horizon-smaller c.args.tape.now c.args.limit (g.B.Breaks.conditions c.args.breaks.now) c.horizon_from-horizon.result c.args.cpu c.loop-goes_on.cpu
    c.instruction-fetched.new.cpu c.args.bus.now c.loop-goes_on.quiet.bus.now c.instruction-fetched.new.self.bus.now c.loop-goes_on.quiet.elapsed
    c.instruction-fetched.new.self.elapsed c.loop-goes_on.goes_on c.loop-goes_on-test.true c.loop-goes_on.invariant.at (did g c).runs c.instruction-fetched.ensures.boundary

pub loop-goes_on-smaller-then-is_before : goal.loop-goes_on-smaller-then-is_before
loop-goes_on-smaller-then-is_before g c =
    let same =
    looked-clock (asks_generator (g.B.Breaks.conditions c.args.breaks.now)) (passed c.instruction-fetched.new.self.elapsed c.instruction-fetched.new.self.bus.now)
    (passed c.is_stop.new.self.elapsed c.is_stop.new.self.bus.now) c.is_stop.ensures.looked in
    rw same (smaller g (goal.at.loop-goes_on-smaller-then-is_before g c).After-instruction-fetched)

pub loop-goes_on-smaller : goal.loop-goes_on-smaller
loop-goes_on-smaller g c = smaller g (goal.at.loop-goes_on-smaller g c).After-instruction-fetched

pub is_before-requires-clause-event : goal.is_before-requires-clause-event
is_before-requires-clause-event g c =
    let event = (did g (goal.at.is_before-requires-clause-event g c).After-instruction-fetched).lines.event in
    let no_event = c.loop-goes_on.invariant.at.are.no_event in
    omega arith

pub loop-goes_on-preserved-then-is_before : goal.loop-goes_on-preserved-then-is_before
loop-goes_on-preserved-then-is_before g c =
    let went = did g (goal.at.loop-goes_on-preserved-then-is_before g c).After-instruction-fetched in
    let stops = g.B.Breaks.conditions c.args.breaks.now in
    let t = c.instruction-fetched.new.self.bus.now in
    let n = c.instruction-fetched.new.self.elapsed in
    let f = c.instruction-fetched.new.cpu in
    let horizon = c.horizon_from-horizon.result in
    record {
      at =
          horizon-looked c.args.tape.now c.args.limit stops horizon c.args.cpu f c.args.bus.now t c.is_stop.new.self.bus.now n c.is_stop.new.self.elapsed _
          (horizon-goes c.args.tape.now c.args.limit stops _ horizon c.args.cpu c.loop-goes_on.cpu f c.args.bus.now c.loop-goes_on.quiet.bus.now t c.loop-goes_on.quiet.elapsed n
          c.loop-goes_on.goes_on _ c.loop-goes_on-test.true c.requires.ready.within c.loop-goes_on.invariant.at went.runs c.instruction-fetched.ensures.boundary
          c.instruction-fetched.ensures.accepts went.lines (λ _. c.is_before.ensures.wrap)
          (and-then _ (stops_at stops (over_bus f (passed n t))) c.is_stop.result (sym c.is_before.ensures.value ∙ c.if-is_before.true) (sym c.is_stop.ensures.value)))
          c.is_stop.ensures.looked c.is_stop.ensures.lines (c.is_stop.ensures.counted c.args.tape.now c.instruction-fetched.ensures.accepts);
      same = c.is_stop.ensures.same_reference ∙ went.same ∙ c.loop-goes_on.invariant.same;
    }

pub loop-goes_on-preserved : goal.loop-goes_on-preserved
loop-goes_on-preserved g c =
    let went = did g (goal.at.loop-goes_on-preserved g c).After-instruction-fetched in
    let stops = g.B.Breaks.conditions c.args.breaks.now in
    let t = c.instruction-fetched.new.self.bus.now in
    let n = c.instruction-fetched.new.self.elapsed in
    let f = c.instruction-fetched.new.cpu in
    record {
      at =
          horizon-goes c.args.tape.now c.args.limit stops true c.horizon_from-horizon.result c.args.cpu c.loop-goes_on.cpu f c.args.bus.now c.loop-goes_on.quiet.bus.now t
          c.loop-goes_on.quiet.elapsed n c.loop-goes_on.goes_on _ c.loop-goes_on-test.true c.requires.ready.within c.loop-goes_on.invariant.at went.runs c.instruction-fetched.ensures.boundary
          c.instruction-fetched.ensures.accepts went.lines (λ _. c.is_before.ensures.wrap)
          (and-else _ c.is_before.result (stops_at stops (over_bus f (passed n t))) c.if-is_before.false);
      same = went.same ∙ c.loop-goes_on.invariant.same;
    }
