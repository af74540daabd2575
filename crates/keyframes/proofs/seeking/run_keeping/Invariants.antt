use Rattle.std.proofs.Common.{◌≡◌, ◌+◌, ◌-◌, ◌≤◌}
use Rattle.lockstep_board.specs.Order.{cleared}
use Rattle.lockstep_board.specs.Run.{to_clock}
use Rattle.keyframes.specs.Seeking.{Along, IsOnRun, run_start}
use Rattle.keyframes.proofs.SeekLaws.{clock_kept}
use Rattle.keyframes.proofs.seeking.run_keeping.Given as goal

-- the engine has come to a board of the run, from which the run goes on to the same board
abbrev pub invariant-strides : goal.invariant-strides
invariant-strides g l = record {
  loan : l.synced.machine.ghost_name ≡ l.fn.synced.machine.ghost_name;
  along : Along l.keys.kept l.tape.entries (run_start l.fn.keys.kept (g.M.Machine.value l.fn.synced.machine.now).board);
  on_run : IsOnRun l.tape.entries (run_start l.fn.keys.kept (g.M.Machine.value l.fn.synced.machine.now).board) (g.M.Machine.value l.synced.machine.now).board;
  same : run_start l.keys.kept (g.M.Machine.value l.synced.machine.now).board ≡ run_start l.fn.keys.kept (g.M.Machine.value l.fn.synced.machine.now).board;
  rest : cleared (to_clock l.tape.entries l.clock (g.M.Machine.value l.synced.machine.now).board) ≡ cleared (to_clock l.tape.entries l.clock (g.M.Machine.value l.fn.synced.machine.now).board);
  done : (g.M.Machine.value l.synced.machine.now).done + (g.M.Machine.value l.fn.synced.machine.now).board.peripherals.clock ≤
      (g.M.Machine.value l.fn.synced.machine.now).done + (g.M.Machine.value l.synced.machine.now).board.peripherals.clock;
}

-- each stride but the last keeps a later board, and none is past the asked clock
abbrev pub decreases-strides : goal.decreases-strides
decreases-strides g l = l.clock - clock_kept l.keys.kept
