use Rattle.command_calls.proofs.TextLaws.{no_text, some_text}
use Rattle.command_calls.proofs.reading.split_text.Goals as goal

pub returns-in_default : goal.returns-in_default
returns-in_default c = no_text c.args.bytes.now _ c.in_ok-piece.ensures c.in_default.ensures.cases.0

pub returns : goal.returns
returns c = some_text c.args.bytes.now _ _ c.in_ok-piece.ensures c.in-Ok.ensures.cases.0 c.in-Ok.ensures.cases.1
