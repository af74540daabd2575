use Rattle.std.proofs.Common.{ap, refl, sym, ◌∙◌}
use Rattle.outside_io.proofs.GatherLaws.{takes-cut}
use Rattle.lockstep_board.specs.Order.{cleared}
use Rattle.lockstep_board.proofs.Ended.{over-stop}
use Rattle.run_windows.proofs.FollowLaws.{cut-part, followed-over, followed-part, followed-start, part-smaller, window-open}
use Rattle.run_windows.proofs.synced.SyncedMachine.follow.Goals as goal

pub parts-init : goal.parts-init
parts-init g c = record {
  same = refl;
  followed = followed-start _ _ _ c.args.tape.now.entries c.args.limit _ _ _ _ c.requires.room;
}

pub returns-in_err-stop-clause-taken : goal.returns-in_err-stop-clause-taken
returns-in_err-stop-clause-taken g c =
    let p = c.in_err-stop.ensures.part in
    takes-cut _ _ _ c.from_residual.result c.from_residual.ensures.0
    (cut-part _ _ _ _ _ _ _ _ g.met.F.TurnObserver.in_parts c.args.tape.now.entries c.args.limit _ (g.M.Machine.value c.parts.self.machine.now).board p.0 _ _ p.1 _ _ _ _ _
    c.parts.invariant.followed c.parts.self.is_synced.placed c.parts.self.is_synced.empty p.2 p.3)

pub parts-smaller : goal.parts-smaller
parts-smaller g c =
    let p = c.in_ok-stop.ensures.part in
    part-smaller _ _ c.args.tape.now.entries c.args.limit (g.M.Machine.value c.parts.self.machine.now).board p.0
    (g.M.Machine.value c.part.new.self.machine.now).board c.parts.observer p.1 c.parts.self.is_synced.phase
    p.2 p.5 c.part.ensures.boundary (window-open c.args.limit (g.M.Machine.value c.part.new.self.machine.now).board (sym c.in_ok-stop.ensures.stop ∙ c.in-Window.is))

pub parts-preserved : goal.parts-preserved
parts-preserved g c =
    let p = c.in_ok-stop.ensures.part in
    record {
      same = c.part.ensures.same ∙ c.parts.invariant.same;
      followed =
          followed-part _ _ _ _ _ _ _ _ g.met.F.TurnObserver.in_parts c.args.tape.now.entries c.args.limit _
          (g.M.Machine.value c.parts.self.machine.now).board p.0 (g.M.Machine.value c.part.new.self.machine.now).board
          _ _ p.1 c.part.new.observer _ _ _ _ _ _ c.parts.invariant.followed c.parts.self.is_synced.placed c.parts.self.is_synced.empty p.2 p.5 p.4 p.3 c.in_ok-stop.ensures.cause;
    }

pub returns-in_default : goal.returns-in_default
returns-in_default g c =
    let p = c.in_ok-stop.ensures.part in
    let there = (g.M.Machine.value c.part.new.self.machine.now).board in
    let followed =
    followed-part _ _ _ _ _ _ _ _ g.met.F.TurnObserver.in_parts c.args.tape.now.entries c.args.limit _ (g.M.Machine.value c.parts.self.machine.now).board p.0 there
    _ _ p.1 c.part.new.observer _ _ _ _ _ _ c.parts.invariant.followed c.parts.self.is_synced.placed c.parts.self.is_synced.empty p.2 p.5 p.4 p.3 c.in_ok-stop.ensures.cause in
    let over = over-stop c.args.limit there c.part.ensures.boundary (λ w. c.in_default.not-Window (c.in_ok-stop.ensures.stop ∙ w)) in
    let all = followed-over _ _ _ g.met.F.TurnObserver.stands_still c.args.tape.now.entries c.args.limit _ there _ c.part.new.observer _ _ _ _ followed over in
    record {
      same = c.part.ensures.same ∙ c.parts.invariant.same;
      taken = all.0;
      cause = c.in_ok-stop.ensures.cause ∙ c.parts.invariant.followed.sound;
      next = all.1;
      board = p.5 ∙ sym (ap cleared p.5) ∙ all.2;
      stop = c.in_ok-stop.ensures.stop;
    }
