use Rattle.std.proofs.Common.{refl, ap, ◌∙◌, arith}
use Rattle.std.proofs.lemmas.Result.{err_from_is_err_and}
use Rattle.command_line.specs.CommandValue.{RunValue}
use Rattle.gravitar_commands.proofs.StageLaws.{debug-comes, debug-stopped, debug-unread, ends-after, keeps-after}
use Rattle.gravitar_commands.proofs.debugging.debug_run.Goals as goal

pub returns-in_err-parts-clause-outcome : goal.returns-in_err-parts-clause-outcome
returns-in_err-parts-clause-outcome g c =
    let p = err_from_is_err_and c.from_residual.result c.from_residual.ensures.1 in
    rw (p.1, p.2) (debug-stopped (g.S.Shelf.files c.args.host.now.shelf.now) (record { run = c.args.run.now; script = c.args.name.now }) c.args.run.now _ _ _ refl
    (refl, c.load_run.ensures.stores) c.in_err-parts.ensures.content)

pub returns-in_err-script-clause-outcome : goal.returns-in_err-script-clause-outcome
returns-in_err-script-clause-outcome g c =
    let p = err_from_is_err_and c.from_residual-in_err-script.result c.from_residual-in_err-script.ensures.1 in
    rw (p.1, p.2) (debug-unread (g.S.Shelf.files c.args.host.now.shelf.now) (g.S.Shelf.files c.load_run.new.shelf) (record { run = c.args.run.now; script = c.args.name.now })
    c.args.run.now c.args.name.now c.in_ok-parts.parts _ _ _ refl refl c.load_run.ensures.files (refl, c.load_script.ensures.stores ∙ c.load_run.ensures.stores)
    c.in_ok-parts.ensures.content c.in_err-script.ensures.content)

pub returns-clause-outcome : goal.returns-clause-outcome
returns-clause-outcome g c =
    let asked = c.has_timers-wired.ensures ∙ ap (λ (r : RunValue). r.settings.timers) c.run.view_is in
    debug-comes (g.S.Shelf.files c.args.host.now.shelf.now) (g.S.Shelf.files c.load_run.new.shelf) (record { run = c.args.run.now; script = c.args.name.now })
    c.has_timers-wired.result c.args.run.now c.args.name.now c.deref.result.now c.in_ok-parts.parts _ asked refl refl c.load_run.ensures.files c.in_ok-parts.ensures.content
    (rw c.deref.ensures.value c.in_ok-script.ensures.content)
    (ends-after _ _ _ _ c.run_session.result (refl, c.load_script.ensures.stores ∙ c.load_run.ensures.stores) c.run_session.ensures.outcome)

pub returns-clause-keeps : goal.returns-clause-keeps
returns-clause-keeps g c =
    let first = c.in_ok-parts.ensures.absences in
    let then_ = c.in_ok-script.ensures.absences in
    keeps-after _ _ _ c.run_session.result (record {
      loans = record { shelf = refl; out = refl };
      nothing = (refl, c.load_script.ensures.stores ∙ c.load_run.ensures.stores);
      faults = (c.in_ok-script.ensures.faults ∙ c.in_ok-parts.ensures.faults, refl);
      absences = omega (arith, first, then_);
    }) c.run_session.ensures.keeps
