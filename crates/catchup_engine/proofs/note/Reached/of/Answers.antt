use Rattle.std.proofs.Common.{length, take, ap, arith, length-take}
use Rattle.catchup_engine.specs.Notes.{ReachedValue}
use Rattle.catchup_engine.specs.Starts.{marks_of}
use Rattle.catchup_engine.proofs.Notes.{reached-next, starts-few}
use Rattle.catchup_engine.proofs.note.Reached.of.Goals as goal

pub loop-access-init : goal.loop-access-init
unfolding marks_of
loop-access-init c = c.none-reached.ensures

pub add-requires-clause-starts : goal.add-requires-clause-starts
add-requires-clause-starts c =
    let items = take c.from.result c.trace.inside.accesses in
    let few = starts-few (take c.loop-access.access-index items) in
    let front = length-take c.loop-access.access-index items in
    let all = length-take c.from.result c.trace.inside.accesses in
    let most = c.trace.invariant.count in
    let from = c.from.ensures in
    let before = c.loop-access-test.true in
    let same = ap (λ (r : ReachedValue). length r.starts) c.loop-access.invariant in
    omega (arith, few, front, all, most, from, before, same)

pub loop-access-preserved : goal.loop-access-preserved
loop-access-preserved c =
    reached-next _ _ _ _ _ _ _ c.loop-access-test.true c.loop-access.invariant c.reaches_device.ensures c.starts_generator.ensures c.add.ensures
