use Rattle.std.proofs.Common.{◌≡◌, ◌∙◌, ap}
use Rattle.asm_core.specs.Cells.{size_of}
use Rattle.asm_core.proofs.Covering.{pass-next}
use Rattle.asm_core.proofs.pass_one.look_at_cells.Goals as goal

pub returns-clause-pass : goal.returns-clause-pass
returns-clause-pass c =
    let size : c.in_ok-size.size ≡ size_of c.args.cells = c.in_ok-size.ensures.some ∙ ap (λ cells. size_of cells) c.items.ensures in
    pass-next c.args.rom c.args.pass.now c.args.line c.args.cells c.give.new.taken c.push.new.self c.in_ok-size.size
    c.requires.rom c.requires.pass c.requires.cells size c.in_ok-size.ensures.low c.in_ok-size.ensures.high c.give.ensures c.in-Ok.ensures.ok
