use Rattle.std.proofs.Common.{◌∙◌, refl, ap}
use Rattle.std.proofs.lemmas.Result.{err_from_is_err_and}
use Rattle.command_line.specs.CommandValue.{AsmValue}
use Rattle.gravitar_commands.proofs.StageLaws.{asm-done, asm-stopped, asm-unstored, asm-unwritten}
use Rattle.gravitar_commands.proofs.assembling.perform_asm.Goals as goal

pub returns-in_err-made-clause-outcome : goal.returns-in_err-made-clause-outcome
returns-in_err-made-clause-outcome g c =
    let p = err_from_is_err_and c.from_residual.result c.from_residual.ensures.1 in
    rw (p.1, p.2) (asm-stopped (g.S.Shelf.files c.args.host.now.shelf.now) c.args.words.now _ _ _ (refl, c.load_asm.ensures.stores) c.in_err-made.ensures.content)

pub returns-in_err-write-clause-outcome : goal.returns-in_err-write-clause-outcome
returns-in_err-write-clause-outcome g c =
    let p = err_from_is_err_and c.from_residual-in_err-write.result c.from_residual-in_err-write.ensures.1 in
    rw (p.1, p.2) (asm-unwritten c.args.words.now c.in_ok-made.made _ _ _ c.in_ok-made.ensures.content (refl, c.load_asm.ensures.stores) c.bytes.result.now
    (c.bytes.ensures ∙ c.in_ok-text.ensures) _ c.in_err-write.ensures)

pub returns-in_err-store-clause-outcome : goal.returns-in_err-store-clause-outcome
returns-in_err-store-clause-outcome g c =
    let p = err_from_is_err_and c.from_residual-in_err-store.result c.from_residual-in_err-store.ensures.1 in
    rw (p.1, p.2) (asm-unstored c.args.words.now c.in_ok-made.made _ _ _ c.in_ok-made.ensures.content (refl, c.load_asm.ensures.stores) c.bytes.result.now
    (c.bytes.ensures ∙ c.in_ok-text.ensures) _ c.in_ok-write.ensures _ _ _ _ c.in_err-store.ensures)

pub returns-clause-outcome : goal.returns-clause-outcome
returns-clause-outcome g c =
    asm-done c.args.words.now c.in_ok-made.made _ _ _ c.in_ok-made.ensures.content (refl, c.load_asm.ensures.stores) c.bytes.result.now
    (c.bytes.ensures ∙ c.in_ok-text.ensures) _ c.in_ok-write.ensures _ _ _ _ (ap (λ (w : AsmValue). w.image) c.words.view_is)
    c.bytes-2.ensures.bytes c.in_ok-store.ensures
