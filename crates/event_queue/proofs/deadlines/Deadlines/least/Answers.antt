use Rattle.std.proofs.Common.{◌≡◌, sym, ◌∙◌, ap, arith}
use Rattle.event_queue.specs.Least.{earlier_of}
use Rattle.event_queue.proofs.Leasts.{least_from-is_least, least_from-end, least_from-before}
use Rattle.event_queue.proofs.deadlines.Deadlines.least.Goals as goal

pub loop-name-init : goal.loop-name-init
loop-name-init c = least_from-end 16 c.self.inside.times (omega arith)

pub loop-name-preserved : goal.loop-name-preserved
loop-name-preserved c =
    c.earlier-best.ensures
    ∙ ap (earlier_of _ _) c.loop-name.invariant
    ∙ sym (least_from-before c.loop-name.name c.self.inside.times _ c.loop-name-test.true (omega arith))

pub returns : goal.returns
returns c =
    let first : c.loop-name.name ≡ 0 = omega arith in
    let best = rw first at c.loop-name.invariant in
    rw (best, ← c.self.view_is) (least_from-is_least c.self.inside.times)
