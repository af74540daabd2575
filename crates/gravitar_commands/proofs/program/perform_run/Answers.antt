use Rattle.std.proofs.Common.{refl, ap}
use Rattle.std.proofs.lemmas.Result.{err_from_is_err_and}
use Rattle.command_line.specs.CommandValue.{RunValue}
use Rattle.gravitar_commands.proofs.StageLaws.{keeps-after, run-comes, run-stopped}
use Rattle.gravitar_commands.proofs.program.perform_run.Goals as goal

pub returns-in_err-parts-clause-outcome : goal.returns-in_err-parts-clause-outcome
returns-in_err-parts-clause-outcome g c =
    let p = err_from_is_err_and c.from_residual.result c.from_residual.ensures.1 in
    rw (p.1, p.2) (run-stopped c.args.words.now _ _ _ (refl, c.load_run.ensures.stores) c.in_err-parts.ensures.content)

pub returns-clause-outcome : goal.returns-clause-outcome
returns-clause-outcome g c =
    run-comes c.args.words.now c.words.inside.settings c.in_ok-parts.parts _ _ _ c.run_parts.result (ap (λ (w : RunValue). w.settings) c.words.view_is)
    (refl, c.load_run.ensures.stores) c.in_ok-parts.ensures.content c.run_parts.ensures.outcome

pub returns-clause-keeps : goal.returns-clause-keeps
returns-clause-keeps g c =
    keeps-after _ _ _ c.run_parts.result (record {
      loans = record { shelf = refl; out = refl };
      nothing = (refl, c.load_run.ensures.stores);
      faults = (c.in_ok-parts.ensures.faults, refl);
      absences = c.in_ok-parts.ensures.absences;
    }) c.run_parts.ensures.keeps
