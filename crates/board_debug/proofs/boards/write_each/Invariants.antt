use Rattle.std.proofs.Common.{◌≡◌, ℕ, ◌+◌, ◌-◌, ◌≤◌, All, drop, length}
use Rattle.keyframes.specs.Seeking.{Along, run_start}
use Rattle.board_debug.specs.BoardsText.{boards_text}
use Rattle.board_debug.specs.OneRun.{HasRoom, IsReached}
use Rattle.board_debug.proofs.ListingLaws.{TakenUpTo}
use Rattle.board_debug.proofs.boards.write_each.Given as goal

-- the texts so far were taken, and the engine can seek along the same run
abbrev pub invariant-loop-clock : goal.invariant-loop-clock
invariant-loop-clock g l = record {
  text : TakenUpTo (boards_text l.fn.tape.entries l.fn.clocks (run_start l.fn.keys.kept (g.M.Machine.value l.fn.synced.machine.now).board))
      (boards_text l.fn.tape.entries (drop l.clock-index l.fn.clocks) (run_start l.fn.keys.kept (g.M.Machine.value l.fn.synced.machine.now).board)) (g.O.Sink.taken l.fn.out) (g.O.Sink.taken l.out);
  faults : g.O.Sink.faults l.out ≡ g.O.Sink.faults l.fn.out;
  loan : l.synced.machine.ghost_name ≡ l.fn.synced.machine.ghost_name;
  same : run_start l.keys.kept (g.M.Machine.value l.synced.machine.now).board ≡ run_start l.fn.keys.kept (g.M.Machine.value l.fn.synced.machine.now).board;
  along : Along l.keys.kept l.fn.tape.entries (run_start l.keys.kept (g.M.Machine.value l.synced.machine.now).board);
  reached : HasRoom l.fn.keys (length l.fn.clocks) → All (λ clock. (run_start l.fn.keys.kept (g.M.Machine.value l.fn.synced.machine.now).board).peripherals.clock ≤ clock
      → IsReached l.fn.tape.entries (run_start l.fn.keys.kept (g.M.Machine.value l.fn.synced.machine.now).board) l.keys.kept clock) l.fn.clocks;
  done : HasRoom l.fn.keys (length l.fn.clocks) → (most : ℕ) → All (λ clock. clock ≤ most) l.fn.clocks
      → (g.M.Machine.value l.synced.machine.now).done ≤ (g.M.Machine.value l.fn.synced.machine.now).done +
      (most - (run_start l.fn.keys.kept (g.M.Machine.value l.fn.synced.machine.now).board).peripherals.clock);
}
