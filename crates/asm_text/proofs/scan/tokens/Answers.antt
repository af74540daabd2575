-- Each line takes the reading one line on.
use Rattle.std.proofs.lemmas.Result.{err_from_is_err_and}
use Rattle.asm_text.proofs.TextLines.{line_on, line_refused}
use Rattle.asm_text.proofs.scan.tokens.Goals as goal

pub lines-preserved : goal.lines-preserved
lines-preserved c = line_on _ _ _ _ _ _ _ c.lines.invariant c.split_line.ensures.lines c.split_line.ensures.whole c.split_line.ensures.some _ c.in_ok-push_line.ensures.tokens

pub returns-in_err-push_line-clause-refused : goal.returns-in_err-push_line-clause-refused
returns-in_err-push_line-clause-refused c =
    let p = err_from_is_err_and c.from_residual.result c.from_residual.ensures.1 in
    rw (p.1, p.2) (line_refused _ _ _ _ _ _ _ c.lines.invariant c.split_line.ensures.lines c.split_line.ensures.whole c.split_line.ensures.some _ c.in_err-push_line.ensures.tokens).1
