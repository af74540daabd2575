use Rattle.std.proofs.Common.{rules, FitsSigned, w32}
use Rattle.log_text.proofs.LineLaws.{stroke_line}
use Rattle.log_text.proofs.record_line.set_words.Goals as goal

pub returns-in-Stroke-clause-text : goal.returns-in-Stroke-clause-text
returns-in-Stroke-clause-text c =
    let x0 : FitsSigned w32 c.in-Stroke.x0 = search rules in
    let y0 : FitsSigned w32 c.in-Stroke.y0 = search rules in
    let x1 : FitsSigned w32 c.in-Stroke.x1 = search rules in
    let y1 : FitsSigned w32 c.in-Stroke.y1 = search rules in
    stroke_line _ _ _ _ _ _ _ _ _ _ _ _ _ c.in-Stroke.is x0 y0 x1 y1 c.begin.ensures.text c.put_point.ensures.text
    c.put_point-in-Stroke.ensures.text c.put_pair.ensures.text
