use Rattle.std.proofs.Common.{sym, ◌∙◌}
use Rattle.keyframes.proofs.HolderLaws.{shared-bytes}
use Rattle.keyframes.proofs.pages.hold.Goals as goal

pub returns-in-Some-clause-bytes : goal.returns-in-Some-clause-bytes
returns-in-Some-clause-bytes c =
    let before = rw c.in-Some.is at c.requires.before in
    shared-bytes c.args.pool.now c.share.new.self c.in-Some.page.now c.share.result c.bytes.result.now c.args.bytes.now
    c.share.ensures.shared c.share.ensures.same before.0 c.bytes.ensures.bytes (sym c.eq.ensures ∙ c.if-eq.true)
