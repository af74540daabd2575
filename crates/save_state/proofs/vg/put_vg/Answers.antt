use Rattle.std.proofs.Common.{◌^◌, arith}
use Rattle.save_state.specs.StateBytes.{vg_rows}
use Rattle.save_state.proofs.Tables.{signed_back, written}
use Rattle.save_state.proofs.vg.put_vg.Goals as goal

pub returns-clause-bytes : goal.returns-clause-bytes
returns-clause-bytes c =
    let v = c.vg.inside in
    let x = signed_back (2 ^ 30) v.x (omega arith) c.vg.invariant.x in
    let y = signed_back (2 ^ 30) v.y (omega arith) c.vg.invariant.y in
    let dx = signed_back (2 ^ 27) v.dx (omega arith) c.vg.invariant.dx in
    let dy = signed_back (2 ^ 27) v.dy (omega arith) c.vg.invariant.dy in
    written vg_rows v c.args.vg.now _ _ c.vg.view_is cc
