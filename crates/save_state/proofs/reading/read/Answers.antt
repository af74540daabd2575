use Rattle.std.proofs.Common.{◌≡◌, ℕ, List, length, refl, Ok, Err, ap, sym, subst, ◌∙◌, slice_index}
use Rattle.board_base.specs.Board.{BoardValue}
use Rattle.save_state.specs.declared.fault.StateFault.TheVariants.{Field as Broken}
use Rattle.save_state.specs.Reading.{ReadsState, Spells}
use Rattle.save_state.proofs.OneBoard.{spelled_has, one_board, decoded_has, decoded_place, one_of_two}
use Rattle.save_state.proofs.OneReading.{not_broken, versioned}
use Rattle.save_state.proofs.reading.read.Goals as goal

spells : (file bytes : List ℕ) (b : BoardValue) → file ≡ bytes → Spells bytes b → Spells file b
spells file bytes b e h = subst (λ (x : List ℕ). Spells x b) (sym e) h

pub returns-then-version-ne2-clause-again : goal.returns-then-version-ne2-clause-again
returns-then-version-ne2-clause-again c = λ b whole spelled.
    absurd (versioned c.in-Ok.file.now b _ (spells _ _ b c.in-Ok.ensures.1.same spelled) refl c.if-version-ne1.true c.if-version-ne2.true)

pub lemma_ranges-requires-clause-place : goal.lemma_ranges-requires-clause-place
lemma_ranges-requires-clause-place c = decoded_place c.in-Ok.file.now c.decode-state.result c.decode-state.result.cpu.mid refl
    (one_of_two _ c.else-version-ne1.either) c.in-Ok-first_fault.ensures c.decode-state.ensures.decoded

pub returns-in-Ok-first_fault-clause-reads : goal.returns-in-Ok-first_fault-clause-reads
returns-in-Ok-first_fault-clause-reads c =
    let both = decoded_has c.in-Ok.file.now c.decode-state.result (ap length c.in-Ok.ensures.1.same
    ∙ c.in-Ok.ensures.1.long) (one_of_two _ c.else-version-ne1.either) c.in-Ok-first_fault.ensures c.decode-state.ensures.decoded in
    subst (λ (x : List ℕ). ReadsState x (Ok c.decode-state.result)) c.in-Ok.ensures.1.same (ap length c.in-Ok.ensures.1.same ∙ c.in-Ok.ensures.1.long, both.1, c.lemma_ranges.ensures, both.0)

pub returns-in-Ok-first_fault-clause-again : goal.returns-in-Ok-first_fault-clause-again
returns-in-Ok-first_fault-clause-again c = λ b whole spelled.
    let both = decoded_has c.in-Ok.file.now c.decode-state.result (ap length c.in-Ok.ensures.1.same
    ∙ c.in-Ok.ensures.1.long) (one_of_two _ c.else-version-ne1.either) c.in-Ok-first_fault.ensures c.decode-state.ensures.decoded in
    ap Ok (one_board c.in-Ok.file.now c.decode-state.result b c.lemma_ranges.ensures whole both.1 (spells _ _ b c.in-Ok.ensures.1.same spelled))

pub returns-in-Err-clause-reads : goal.returns-in-Err-clause-reads
returns-in-Err-clause-reads c = subst (λ (x : List ℕ). ReadsState x (Err (Broken c.in-Err.at))) c.in-Ok.ensures.1.same
    (ap length c.in-Ok.ensures.1.same ∙ c.in-Ok.ensures.1.long, one_of_two _ c.else-version-ne1.either, c.in-Err.ensures)

pub returns-in-Err-clause-again : goal.returns-in-Err-clause-again
returns-in-Err-clause-again c = λ b whole spelled.
    absurd (not_broken (slice_index c.in-Ok.file.now 0) c.in-Ok.file.now b c.in-Err.at (spelled_has c.in-Ok.file.now b whole (spells _ _ b c.in-Ok.ensures.1.same spelled)) c.in-Err.ensures)
