use Rattle.std.proofs.Common.{ap}
use Rattle.catchup_engine.specs.EngineValue.{EngineValue}
use Rattle.run_windows.proofs.FollowLaws.{part-room}
use Rattle.run_windows.proofs.synced.SyncedMachine.part.Goals as goal

pub take_part-handed-requires : goal.take_part-handed-requires
take_part-handed-requires g c = record {
  room =
      let settled = ap (λ (e : EngineValue). e.lagging) c.settle.ensures.settles.value in
      rw (c.trails.ensures.vector settled, c.trails.ensures.sound1 settled, c.trails.ensures.sound2 settled, c.trails.ensures.board, c.settle.ensures.settles.value)
      (part-room _ _ _ _ _ _ _ _ g.met.F.TurnObserver.in_parts c.args.tape.now.entries c.args.limit
      (g.M.Machine.value c.args.self.now.machine.now).board (g.M.Machine.value c.run_traced-stop.new.self).board
      c.args.observer.now c.run_traced-stop.new.tracer c.args.self.now.is_synced.placed c.args.self.now.is_synced.empty c.requires.room c.run_traced-stop.ensures.runs.run);
}
