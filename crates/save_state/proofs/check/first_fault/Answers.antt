use Rattle.std.proofs.Common.{◌==◌, ◌++◌, Ok}
use Rattle.save_state.specs.Reading.{BreaksFirst}
use Rattle.save_state.specs.StateBytes.{front_rows, middle_rows, back_rows}
use Rattle.save_state.proofs.Tables.{Rows, early, sooner, both}
use Rattle.save_state.proofs.check.first_fault.Goals as goal

pub returns-in_err-check_front : goal.returns-in_err-check_front
unfolding BreaksFirst
returns-in_err-check_front c =
    let v = c.args.version in
    early c.from_residual.result _ _ _ c.from_residual.ensures.1
    (sooner v c.args.file.now (front_rows v) (middle_rows (v == 1) ++ back_rows) _ c.in_err-check_front.ensures)

pub returns : goal.returns
unfolding BreaksFirst
returns c =
    let v = c.args.version in
    let middle : Rows = middle_rows (v == 1) in
    rw c.and.ensures (both v c.args.file.now (front_rows v) (middle ++ back_rows) (Ok c.in_ok-check_front.field-0) _ c.in_ok-check_front.ensures
    (both v c.args.file.now middle back_rows _ _ c.check_middle.ensures c.check_back.ensures))
