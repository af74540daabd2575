use Rattle.std.proofs.Common.{ℕ, List, subst}
use Rattle.outside_io.specs.Sink.{Takes}
use Rattle.board_debug.proofs.SessionLaws.{shown-text, turned-text}
use Rattle.board_debug.proofs.session.perform.Goals as goal

pub returns-in-Some-clause-taken : goal.returns-in-Some-clause-taken
returns-in-Some-clause-taken g c =
    subst (λ (text : List ℕ). Takes (g.O.Sink.taken c.args.out.now) (g.O.Sink.taken c.write_stop.new.out) text c.write_stop.result)
    (turned-text c.args.tape.now c.args.stops.now c.args.command (g.M.Machine.value c.args.synced.now.machine.now).board
    (g.M.Machine.value c.make_turns.new.synced.machine.now).board c.in-Some.found c.make_turns.result
    c.in-Some.is c.make_turns.ensures.reached)
    (rw c.machine.ensures.value at c.write_stop.ensures.taken)

pub returns-in-None-clause-taken : goal.returns-in-None-clause-taken
returns-in-None-clause-taken g c =
    subst (λ (text : List ℕ). Takes (g.O.Sink.taken c.args.out.now) (g.O.Sink.taken c.show.new.out) text c.show.result)
    (shown-text c.args.tape.now c.args.stops.now c.args.command (g.M.Machine.value c.args.synced.now.machine.now).board
    (g.M.Machine.value c.make_turns.new.synced.machine.now).board c.make_turns.result c.in-None.is
    c.make_turns.ensures.reached c.make_turns.ensures.board)
    c.show.ensures.taken
