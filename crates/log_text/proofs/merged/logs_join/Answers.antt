use Rattle.log_text.proofs.PartLaws.{log_in_parts}
use Rattle.log_text.proofs.merged.logs_join.Goals as goal

pub returns : goal.returns
returns c = log_in_parts
