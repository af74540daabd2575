use Rattle.gravitar_commands.proofs.StageLaws.{debug-same}
use Rattle.gravitar_commands.proofs.debugging.perform_debug.Goals as goal

pub returns-clause-outcome : goal.returns-clause-outcome
returns-clause-outcome g c = debug-same c.args.words.now _ _ _ c.debug_run.result c.words.view_is c.debug_run.ensures.outcome
