use Rattle.std.proofs.Common.{refl, sym, ◌∙◌, arith}
use Rattle.board_debug.specs.Looks.{look_after}
use Rattle.board_debug.proofs.Turning.{after-opens, before-opens, go-found, go-turns, goes-on, stops-at}
use Rattle.board_debug.proofs.turns.go.Goals as goal

pub returns-in-Some-clause-reached : goal.returns-in-Some-clause-reached
returns-in-Some-clause-reached g c =
    go-found c.args.tape.now c.args.stops.now c.end-end.result (g.M.Machine.value c.args.synced.now.machine.now).board c.in-Some.found c.end-end.ensures.end
    (sym c.in-Some.is ∙ c.look_before.ensures)

pub windows-init : goal.windows-init
windows-init g c = record { loan = refl; open_yet = sym c.in_default.is ∙ c.look_before.ensures; same = refl }

pub turns_to_stop-requires-clause-before : goal.turns_to_stop-requires-clause-before
turns_to_stop-requires-clause-before g c = (before-opens c.end-end.result (g.M.Machine.value c.windows.synced.machine.now).board (sym c.windows.invariant.open_yet)).clock

pub returns-in-Some-look_after-clause-reached : goal.returns-in-Some-look_after-clause-reached
returns-in-Some-look_after-clause-reached g c =
    let b = (g.M.Machine.value c.windows.synced.machine.now).board in
    let d = (g.M.Machine.value c.turns_to_stop.new.self.machine.now).board in
    let ready = c.windows.synced.is_synced in
    stops-at (look_after c.end-end.result c.args.stops.now b d) d c.in-Some-look_after.found _ _
    (go-turns c.args.tape.now c.args.stops.now c.conditions.result c.end-end.result b d (record { placed = ready.placed; empty = ready.empty }) c.end-end.ensures.end
    c.windows.invariant.open_yet (c.conditions.ensures b c.of-before.ensures) c.turns_to_stop.ensures.board)
    (sym (c.look_after.ensures b c.of-before.ensures) ∙ c.in-Some-look_after.is)
    ∙ sym c.windows.invariant.same

pub windows-smaller : goal.windows-smaller
windows-smaller g c =
    let opens = before-opens c.end-end.result (g.M.Machine.value c.windows.synced.machine.now).board (sym c.windows.invariant.open_yet) in
    let early = opens.clock in
    let later = c.turns_to_stop.ensures.later opens.running in
    omega arith

pub windows-preserved : goal.windows-preserved
windows-preserved g c =
    let b = (g.M.Machine.value c.windows.synced.machine.now).board in
    let d = (g.M.Machine.value c.turns_to_stop.new.self.machine.now).board in
    let ready = c.windows.synced.is_synced in
    let none = sym c.in_default-look_after.is ∙ c.look_after.ensures b c.of-before.ensures in
    let turns =
    go-turns c.args.tape.now c.args.stops.now c.conditions.result c.end-end.result b d (record { placed = ready.placed; empty = ready.empty }) c.end-end.ensures.end
    c.windows.invariant.open_yet (c.conditions.ensures b c.of-before.ensures) c.turns_to_stop.ensures.board in
    record {
      loan = c.turns_to_stop.ensures.same ∙ c.windows.invariant.loan;
      open_yet = after-opens c.end-end.result c.args.stops.now b d none;
      same = c.windows.invariant.same ∙ goes-on (look_after c.end-end.result c.args.stops.now b d) d _ _ turns (sym none);
    }
