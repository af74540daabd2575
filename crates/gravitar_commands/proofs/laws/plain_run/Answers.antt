-- `laws::plain_run`, an item in src/laws.rt
use Rattle.gravitar_commands.proofs.laws.plain_run.Goals as goal
use Rattle.gravitar_commands.proofs.PlainLaws.{plain-outcome, plain-words}

pub returns-clause-words : goal.returns-clause-words
returns-clause-words c = plain-words

pub returns-clause-outcome : goal.returns-clause-outcome
returns-clause-outcome c = plain-outcome
