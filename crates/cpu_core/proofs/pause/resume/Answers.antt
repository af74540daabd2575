-- A place is after a documented opcode.
use Rattle.std.proofs.Common.{◌∙◌, sym, ap, subst}
use Rattle.board_base.specs.Mid.{MidValue}
use Rattle.cpu_core.specs.Places.{IsPlace, given_by}
use Rattle.cpu_core.proofs.JamLemmas.{resumes_by}
use Rattle.cpu_core.proofs.pause.resume.Goals as goal

pub returns-clause-running : goal.returns-clause-running
returns-clause-running g c =
    let m : MidValue = record { sequence = c.mid.inside.sequence; count = c.mid.inside.count; bytes = c.mid.inside.bytes } in
    resumes_by (g.B.Bus.step c.args.feed.now) m c.args.start c.of-seen.result c.go_on-made.new.seen c.bytes.result.now c.go_on-made.result
    c.args.bus.now c.go_on-made.new.bus c.stand.result
    c.go_on-made.ensures.gone c.stand.ensures.stands (c.of-seen.ensures ∙ ap given_by (sym c.mid.view_is)) c.bytes.ensures
    (subst (λ (n : MidValue). IsPlace c.args.start n) (sym c.mid.view_is) c.requires.place) c.mid.invariant.bytes
