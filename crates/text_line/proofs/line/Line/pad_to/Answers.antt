use Rattle.std.proofs.Common.{arith}
use Rattle.text_line.proofs.LineLaws.{padded}
use Rattle.text_line.proofs.line.Line.pad_to.Goals as goal

pub returns-clause-text : goal.returns-clause-text
returns-clause-text c = padded c.args.self c.text.result c.saturating_sub-missing.result c.args.place (cc) (cc) (omega arith)
