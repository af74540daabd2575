use Rattle.std.proofs.Common.{◌≡◌, ◌-◌, length}
use Rattle.board_base.specs.declared.board.TheConstants.{CLOCK_LIMIT}
use Rattle.keyframes.specs.Seeking.{Along, run_start}
use Rattle.board_debug.specs.OneRun.{HasRoom}
use Rattle.board_debug.proofs.OneRunLaws.{Way}
use Rattle.board_debug.proofs.boards.keep_each.Given as goal

-- the engine can go on along the same run, and where there is room it is on the way to all clocks
abbrev pub invariant-loop-next : goal.invariant-loop-next
invariant-loop-next g l = record {
  loan : l.synced.machine.ghost_name ≡ l.fn.synced.machine.ghost_name;
  same : run_start l.keys.kept (g.M.Machine.value l.synced.machine.now).board ≡ run_start l.fn.keys.kept (g.M.Machine.value l.fn.synced.machine.now).board;
  along : Along l.keys.kept l.fn.tape.entries (run_start l.keys.kept (g.M.Machine.value l.synced.machine.now).board);
  way : HasRoom l.fn.keys (length l.fn.clocks) → Way l.fn.tape.entries l.fn.clocks
      (run_start l.fn.keys.kept (g.M.Machine.value l.fn.synced.machine.now).board) (g.M.Machine.value l.fn.synced.machine.now).done l.keys
      (g.M.Machine.value l.synced.machine.now).done l.last;
}

abbrev pub decreases-loop-next : goal.decreases-loop-next
decreases-loop-next g l = CLOCK_LIMIT - l.last
