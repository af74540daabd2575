use Rattle.std.proofs.Common.{◌++◌, take, refl}
use Rattle.save_state.specs.Fields.{rows_of}
use Rattle.save_state.specs.StateBytes.{front_rows, port_rows, divider_rows}
use Rattle.save_state.proofs.Tables.{Rows, both}
use Rattle.save_state.proofs.check.check_front.Goals as goal

pub returns : goal.returns
returns c =
    let v = c.args.version in
    let file = c.args.file.now in
    let processor : Rows = take 11 (front_rows v) in
    let divider : Rows = rows_of (λ b. b.divider) divider_rows in
    rw (c.and-2.ensures, c.and.ensures)
    (both v file (processor ++ port_rows) divider _ _ (both v file processor port_rows _ _ (c.check.ensures processor refl) (c.check-2.ensures port_rows refl)) (c.check-3.ensures divider refl))
