use Rattle.pokey_chip.proofs.RequestLaws.{next-of-three}
use Rattle.pokey_chip.proofs.quiet.next_request.Goals as goal

pub returns : goal.returns
returns c =
    rw (c.sooner.ensures, c.sooner-upper.ensures)
    (next-of-three c.args.state.now _ _ _ c.request_in-3.ensures c.request_in.ensures c.request_in-2.ensures)
