use Rattle.std.proofs.Common.{◌==◌, ℕ, Bool, sym, ap, subst, refl, true}
use Rattle.save_state.specs.Check.{IsAnswer}
use Rattle.save_state.specs.StateBytes.{middle_rows}
use Rattle.save_state.proofs.Tables.{not_equal}
use Rattle.save_state.proofs.check.check_middle.Goals as goal

pub returns-then-version-eq1 : goal.returns-then-version-eq1
returns-then-version-eq1 c =
    subst (λ (one : Bool). IsAnswer c.args.version c.args.file.now (middle_rows one) c.check.result) (sym (ap (λ (v : ℕ). v == 1) c.if-version-eq1.true))
    (c.check.ensures (middle_rows true) refl)

pub returns-else-version-eq1 : goal.returns-else-version-eq1
returns-else-version-eq1 c =
    subst (λ (one : Bool). IsAnswer c.args.version c.args.file.now (middle_rows one) c.check_place.result) (sym (not_equal c.args.version 1 c.if-version-eq1.false)) c.check_place.ensures
