use Rattle.std.proofs.Common.{ap, refl, sym, ◌∙◌}
use Rattle.std.proofs.lemmas.Result.{err_from_is_err_and}
use Rattle.command_line.specs.CommandValue.{RunValue}
use Rattle.gravitar_commands.specs.Outcome.{limit_of}
use Rattle.gravitar_commands.proofs.ReportLaws.{report-asked, report-comes, report-done, report-ends, report-keeps, report-stopped}
use Rattle.gravitar_commands.proofs.reporting.perform_report.Goals as goal

pub returns-in_err-parts-clause-outcome : goal.returns-in_err-parts-clause-outcome
returns-in_err-parts-clause-outcome g c =
    let p = err_from_is_err_and c.from_residual.result c.from_residual.ensures.1 in
    rw (p.1, p.2) (report-stopped c.args.run.now (g.R.Report.text c.args.report.now) _ _ _ (refl, c.load_run.ensures.stores) c.in_err-parts.ensures.content)

pub returns-clause-outcome : goal.returns-clause-outcome
returns-clause-outcome g c =
    let asked = c.has_timers-wired.ensures ∙ ap (λ (r : RunValue). r.settings.timers) c.run.view_is in
    let lowered = c.limit_by-limit.ensures.limit ∙ ap (λ (r : RunValue). limit_of r.settings.until c.end.result) c.run.view_is in
    let same = report-asked c.args.run.now.settings c.has_timers-wired.result c.limit_by-limit.result c.end.result
    (g.R.Report.text c.args.report.now) c.in_ok-parts.parts asked lowered c.end.ensures.end in
    report-comes c.args.run.now (g.R.Report.text c.args.report.now) c.in_ok-parts.parts _ _ _ c.in_ok-parts.ensures.content
    (rw (sym same) (report-ends _ _ c.load_run.ensures.stores c.has_timers-wired.result c.limit_by-limit.result (g.R.Report.text c.args.report.now) c.in_ok-parts.parts _
    c.report.ensures.taken))

pub returns-clause-done : goal.returns-clause-done
returns-clause-done g c = report-done _ _ _ c.report.result c.report.ensures.taken

pub returns-clause-keeps : goal.returns-clause-keeps
returns-clause-keeps g c =
    report-keeps _ _ c.load_run.ensures.stores _ c.report.result (record { shelf = refl; out = refl }) c.in_ok-parts.ensures.faults
    c.in_ok-parts.ensures.absences c.report.ensures.taken c.report.ensures.faults
