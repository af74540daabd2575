use Rattle.std.proofs.lemmas.Result.{err_from_is_err_and}
use Rattle.gravitar_commands.proofs.StageLaws.{made-for, run-cut, run-done, run-unstarted}
use Rattle.gravitar_commands.proofs.program.run_parts.Goals as goal

pub returns-in_err-engine-clause-outcome : goal.returns-in_err-engine-clause-outcome
returns-in_err-engine-clause-outcome g c =
    let p = err_from_is_err_and c.from_residual.result c.from_residual.ensures.1 in
    rw (p.1, p.2) (run-unstarted c.args.settings.now c.args.parts.now _ _)

pub returns-in-Ok-clause-outcome : goal.returns-in-Ok-clause-outcome
returns-in-Ok-clause-outcome g c =
    let made =
    made-for _ _ c.args.parts.now _ _ _ _ _ _ c.settings.view_is c.end.ensures.end c.run_limit-limit.ensures.limit c.as_slice.ensures.value c.fast.ensures
    c.in_ok-engine.ensures.calls c.in_ok-engine.ensures.board in
    run-done _ _ _ _ _ _ _ made _ _ c.run_slices.new.engine.calls c.ending.result c.cpu.result.now c.run_slices.new.engine.board
    c.in-Ok.ensures.done c.in-Ok.ensures.calls c.ending.ensures c.cpu.ensures c.in-Ok.ensures.board

pub returns-clause-outcome : goal.returns-clause-outcome
returns-clause-outcome g c =
    let made =
    made-for _ _ c.args.parts.now _ _ _ _ _ _ c.settings.view_is c.end.ensures.end c.run_limit-limit.ensures.limit c.as_slice.ensures.value c.fast.ensures
    c.in_ok-engine.ensures.calls c.in_ok-engine.ensures.board in
    run-cut _ _ _ _ _ _ _ made _ _ c.in-Err.ensures.stopped
