use Rattle.std.proofs.Common.{◌+◌, ◌-◌, sym, ap, ◌∙◌, arith, refl}
use Rattle.board_debug.specs.Session.{step_from}
use Rattle.board_debug.proofs.Turning.{done-turn, step-found, step-last, step-next}
use Rattle.board_debug.proofs.turns.step.Goals as goal

pub loop-init : goal.loop-init
loop-init g c = record {
  loan = refl;
  same = ap (λ n. step_from c.args.tape.now n (g.M.Machine.value c.args.synced.now.machine.now).board) (omega arith);
}

pub returns-in-Some-clause-reached : goal.returns-in-Some-clause-reached
returns-in-Some-clause-reached g c =
    step-found c.args.tape.now (c.args.count - c.loop.counter) c.end.result (g.M.Machine.value c.loop.synced.machine.now).board c.in-Some.found
    (omega arith) c.end.ensures.end (sym c.in-Some.is ∙ c.look_before.ensures)
    ∙ sym c.loop.invariant.same

pub loop-preserved : goal.loop-preserved
loop-preserved g c = record {
  loan = c.turn.ensures.same ∙ c.loop.invariant.loan;
  same =
      c.loop.invariant.same
      ∙ step-next c.args.tape.now (c.args.count - c.loop.counter) (c.args.count - (c.loop.counter + 1)) c.end.result (g.M.Machine.value c.loop.synced.machine.now).board (omega arith) c.end.ensures.end
      (sym c.in_default.is ∙ c.look_before.ensures)
      ∙ ap (step_from c.args.tape.now (c.args.count - (c.loop.counter + 1))) (sym (done-turn _ _ _ c.turn.ensures.board));
}

pub returns-clause-reached : goal.returns-clause-reached
returns-clause-reached g c =
    ap (λ found. record { found = found; board = (g.M.Machine.value c.loop.synced.machine.now).board }) c.look_at_last.ensures
    ∙ step-last c.args.tape.now (c.args.count - c.loop.counter) (g.M.Machine.value c.loop.synced.machine.now).board (omega arith)
    ∙ sym c.loop.invariant.same
