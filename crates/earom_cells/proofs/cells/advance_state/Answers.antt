use Rattle.std.proofs.Common.{sym, ◌∙◌, arith}
use Rattle.earom_cells.proofs.Holds.{unheld, rested, holding, completing}
use Rattle.earom_cells.proofs.cells.advance_state.Goals as goal
use Rattle.earom_cells.proofs.cells.advance_state.Goals.{then-not-is_held-via-then-not-is_held, then-not-is_held-via-else-not-is_held+then-state-ge-HOLD_CLOCKS}

pub returns-then-not-is_held : goal.returns-then-not-is_held
returns-then-not-is_held c =
    elim c.then-not-is_held.branch [
      | then-not-is_held-via-then-not-is_held w ↦ rw (← c.state.view_is) (sym (unheld _ _ (sym c.is_held.ensures ∙ w.if-not-is_held.true)))
      | then-not-is_held-via-else-not-is_held+then-state-ge-HOLD_CLOCKS w ↦ rw (← c.state.view_is) (sym (rested _ _ (omega arith)))
    ]

pub returns-then-n-from : goal.returns-then-n-from
returns-then-n-from c = rw (← c.state.view_is) (sym (holding _ _ (sym c.is_held.ensures ∙ c.if-not-is_held.false) (omega arith)))

pub returns-else-n-from : goal.returns-else-n-from
returns-else-n-from c = c.complete.ensures ∙ rw (← c.state.view_is) (sym (completing _ _ (sym c.is_held.ensures ∙ c.if-not-is_held.false) (omega arith) (omega arith)))
