use Rattle.outside_io.proofs.PieceLaws.{wrote_more}
use Rattle.outside_io.proofs.pieces.write_whole.Goals as goal

pub loop-rest-preserved : goal.loop-rest-preserved
loop-rest-preserved g c =
    let (done, split, took) = c.loop-rest.invariant in
    wrote_more _ _ _ _ done _ _ split took c.in-Ok.ensures.bytes
