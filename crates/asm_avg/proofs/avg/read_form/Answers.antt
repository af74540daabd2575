use Rattle.std.proofs.Common.{◌≡◌, ◌∙◌, map}
use Rattle.asm_avg.specs.Statements.{places_of}
use Rattle.asm_avg.proofs.CellLaws.{are_cells}
use Rattle.asm_avg.proofs.avg.read_form.Goals as goal

pub returns-clause-cells : goal.returns-clause-cells
returns-clause-cells c =
    let same : map (λ field. field.place) c.in-Some.fields ≡ places_of c.args.mnemonic =
    (rw c.in-Some.is at c.in_ok-fields.ensures.places) ∙ c.places.ensures in
    rw (c.one.ensures, c.size.ensures, c.base.ensures) (are_cells c.args.mnemonic c.in-Some.fields same)
