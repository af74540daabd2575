use Rattle.std.proofs.Common.{ap, ◌∙◌}
use Rattle.catchup_engine.specs.EngineValue.{EngineValue}
use Rattle.gravitar_commands.proofs.reporting.RunReportReport.report.Goals as goal

pub returns-clause-taken : goal.returns-clause-taken
returns-clause-taken g c = rw (ap (λ (e : EngineValue). e.board) c.of-synced.ensures.value ∙ c.in_ok-engine.ensures.board) at c.write_report.ensures.taken
