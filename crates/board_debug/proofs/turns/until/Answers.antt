use Rattle.std.proofs.Common.{refl, sym, ◌∙◌, arith}
use Rattle.lockstep_board.specs.Run.{window_limit}
use Rattle.board_debug.proofs.Turning.{left-less, until-found, until-waits, until-window}
use Rattle.board_debug.proofs.turns.until.Goals as goal

pub windows-init : goal.windows-init
windows-init g c = record { loan = refl; same = refl }

pub returns-in-Some-clause-reached : goal.returns-in-Some-clause-reached
returns-in-Some-clause-reached g c =
    until-found c.args.tape.now c.end.result c.args.clock (g.M.Machine.value c.windows.synced.machine.now).board c.in-Some.found c.end.ensures.end
    (sym c.in-Some.is ∙ c.look_until.ensures)
    ∙ sym c.windows.invariant.same

pub turns-requires-clause-before : goal.turns-requires-clause-before
turns-requires-clause-before g c =
    let waits = until-waits c.end.result c.args.clock (g.M.Machine.value c.windows.synced.machine.now).board (sym c.in_default.is ∙ c.look_until.ensures) in
    let early = waits.early in
    let before = waits.before in
    let first = c.end.ensures.end in
    let again = c.end-in-windows.ensures.end in
    let least = c.min.ensures in
    omega arith

pub windows-smaller : goal.windows-smaller
windows-smaller g c =
    left-less c.end.result c.args.clock (g.M.Machine.value c.windows.synced.machine.now).board (g.M.Machine.value c.turns.new.self.machine.now).board
    (until-waits c.end.result c.args.clock (g.M.Machine.value c.windows.synced.machine.now).board (sym c.in_default.is ∙ c.look_until.ensures)) c.turns.ensures.later

pub windows-preserved : goal.windows-preserved
windows-preserved g c =
    let ready = c.windows.synced.is_synced in
    let first = c.end.ensures.end in
    let again = c.end-in-windows.ensures.end in
    let least = c.min.ensures in
    record {
      loan = c.turns.ensures.same ∙ c.windows.invariant.loan;
      same =
          c.windows.invariant.same
          ∙ until-window c.args.tape.now.entries (g.M.Machine.value c.windows.synced.machine.now).board (record { placed = ready.placed; empty = ready.empty }) c.args.tape.now
          c.end.result c.args.clock (window_limit c.min.result (g.M.Machine.value c.windows.synced.machine.now).board)
          (g.M.Machine.value c.turns.new.self.machine.now).board refl first (omega arith) (omega arith)
          (sym c.in_default.is ∙ c.look_until.ensures) c.turns.ensures.board;
    }
