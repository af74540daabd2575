use Rattle.std.proofs.Common.{◌++◌, refl}
use Rattle.save_state.specs.Fields.{rows_of, rows_at}
use Rattle.save_state.specs.StateBytes.{zero_rows, vg_rows, pokey_rows, earom_rows, memory_rows}
use Rattle.save_state.proofs.Tables.{Rows, both}
use Rattle.save_state.proofs.check.check_back.Goals as goal

pub returns : goal.returns
returns c =
    let v = c.args.version in
    let file = c.args.file.now in
    let zeros : Rows = rows_of (λ b. tt) zero_rows in
    let vg : Rows = rows_of (λ b. b.vg) vg_rows in
    let first : Rows = rows_at 84 (rows_of (λ b. b.sound1) pokey_rows) in
    let second : Rows = rows_at 137 (rows_of (λ b. b.sound2) pokey_rows) in
    let earom : Rows = rows_of (λ b. b.earom) earom_rows in
    rw (c.and-5.ensures, c.and-4.ensures, c.and-3.ensures, c.and-2.ensures, c.and.ensures)
    (both v file ((((zeros ++ vg) ++ first) ++ second) ++ earom) memory_rows _ _ (both v file (((zeros ++ vg) ++ first) ++ second) earom _ _
    (both v file ((zeros ++ vg) ++ first) second _ _ (both v file (zeros ++ vg) first _ _
    (both v file zeros vg _ _ (c.check.ensures zeros refl) (c.check-2.ensures vg refl)) (c.check-3.ensures first refl))
    (c.check-4.ensures second refl)) (c.check-5.ensures earom refl)) (c.check-6.ensures memory_rows refl))
