-- The replay's end is what comes next.
use Rattle.std.proofs.Common.{sym, subst}
use Rattle.cpu_core.specs.Sequences.{IsEnd}
use Rattle.cpu_core.proofs.ReplayLemmas.{next_is_due, next_is_access, next_is_end, if_no_end}
use Rattle.cpu_core.proofs.LengthLemmas.{six_before_end}
use Rattle.cpu_core.proofs.pause.next_access.Goals as goal

pub returns-in-Some-clause-next : goal.returns-in-Some-clause-next
returns-in-Some-clause-next c =
    next_is_due c.args.start c.args.sequence c.args.given.now c.new-replay.result c.perform-end.new.bus c.perform-end.result c.in-Some.next
    c.new-replay.ensures c.perform-end.ensures.performs (sym c.in-Some.ensures)

pub returns-in-Some-clause-end : goal.returns-in-Some-clause-end
returns-in-Some-clause-end c =
    if_no_end c.in-Some.next _
    (next_is_access c.args.start c.args.sequence c.args.given.now c.new-replay.result c.perform-end.new.bus c.perform-end.result c.in-Some.next
    c.new-replay.ensures c.perform-end.ensures.performs (sym c.in-Some.ensures))

pub returns-in-Some-clause-short : goal.returns-in-Some-clause-short
returns-in-Some-clause-short c =
    λ due. six_before_end c.args.start c.args.sequence c.args.given.now
    (λ over. due (subst IsEnd
    (sym (next_is_due c.args.start c.args.sequence c.args.given.now c.new-replay.result c.perform-end.new.bus c.perform-end.result c.in-Some.next
    c.new-replay.ensures c.perform-end.ensures.performs (sym c.in-Some.ensures))) over))

pub returns-in-None-clause-next : goal.returns-in-None-clause-next
returns-in-None-clause-next c =
    next_is_end c.args.start c.args.sequence c.args.given.now c.new-replay.result c.perform-end.new.bus c.perform-end.result
    c.new-replay.ensures c.perform-end.ensures.performs (sym c.in-None.ensures)
