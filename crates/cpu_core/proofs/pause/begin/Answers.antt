-- The first access determines whether the processor jams.
use Rattle.cpu_core.proofs.JamLemmas.{begins_by}
use Rattle.cpu_core.proofs.pause.begin.Goals as goal

pub returns-clause-begins : goal.returns-clause-begins
returns-clause-begins g c =
    begins_by (g.B.Bus.step c.args.feed.now) c.args.sequence c.args.start c.new-seen.result c.go_on.new.seen c.bytes.result.now c.go_on.result
    c.args.bus.now c.go_on.new.bus c.stand.result
    c.go_on.ensures.gone c.stand.ensures.stands c.new-seen.ensures c.bytes.ensures (c.go_on.ensures.started c.requires.some)
