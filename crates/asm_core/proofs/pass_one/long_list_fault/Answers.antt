use Rattle.std.proofs.Common.{◌≡◌, ◌∙◌, true, sym}
use Rattle.asm_core.specs.Cells.{all_fine}
use Rattle.asm_core.specs.PassOne.{known_of}
use Rattle.asm_core.proofs.LongItems.{room-long}
use Rattle.asm_core.proofs.pass_one.long_list_fault.Goals as goal

pub returns-in-Ok-true : goal.returns-in-Ok-true
returns-in-Ok-true c =
    let fine : all_fine c.args.pass.now.names c.args.list.now ≡ true = sym c.in-Ok-true.ensures ∙ c.in-Ok-true.field-0-test in
    rw c.at_line.ensures (room-long c.args.rom c.args.line (known_of c.args.pass.now) c.args.list.now c.requires fine c.lemma_long.ensures)
