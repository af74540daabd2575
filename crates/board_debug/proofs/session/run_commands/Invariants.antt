use Rattle.std.proofs.Common.{◌≡◌, drop}
use Rattle.debug_script.specs.Breakpoints.{Fit, no_stops}
use Rattle.board_debug.specs.Session.{session_board, session_text}
use Rattle.board_debug.proofs.ListingLaws.{TakenUpTo}
use Rattle.board_debug.proofs.session.run_commands.Given as goal

abbrev pub invariant-loop-command : goal.invariant-loop-command
invariant-loop-command g l = record {
  text : TakenUpTo (session_text l.fn.tape no_stops l.fn.commands (g.M.Machine.value l.fn.synced.machine.now).board)
      (session_text l.fn.tape l.stops (drop l.command-index l.fn.commands) (g.M.Machine.value l.synced.machine.now).board) (g.O.Sink.taken l.fn.out) (g.O.Sink.taken l.out);
  board : session_board l.fn.tape no_stops l.fn.commands (g.M.Machine.value l.fn.synced.machine.now).board
      ≡ session_board l.fn.tape l.stops (drop l.command-index l.fn.commands) (g.M.Machine.value l.synced.machine.now).board;
  faults : g.O.Sink.faults l.out ≡ g.O.Sink.faults l.fn.out;
  fit : Fit l.stops (drop l.command-index l.fn.commands);
  loan : l.synced.machine.ghost_name ≡ l.fn.synced.machine.ghost_name;
}
