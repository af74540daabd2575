use Rattle.std.proofs.Common.{◌≡◌, ◌-◌}
use Rattle.board_debug.specs.Session.{step_from}
use Rattle.board_debug.proofs.turns.step.Given as goal

abbrev pub invariant-loop : goal.invariant-loop
invariant-loop g l = record {
  loan : l.synced.machine.ghost_name ≡ l.fn.synced.machine.ghost_name;
  same : step_from l.tape l.count (g.M.Machine.value l.fn.synced.machine.now).board ≡ step_from l.tape (l.count - l.counter) (g.M.Machine.value l.synced.machine.now).board;
}
