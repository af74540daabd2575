use Rattle.std.proofs.Common.{ap, ◌∙◌, refl}
use Rattle.catchup_engine.specs.EngineValue.{EngineValue}
use Rattle.gravitar_commands.proofs.StageLaws.{soak-cut, soak-done}
use Rattle.gravitar_commands.proofs.soaking.perform_soak.Goals as goal

pub returns-in-Ok-clause-outcome : goal.returns-in-Ok-clause-outcome
returns-in-Ok-clause-outcome g c =
    soak-done c.args.seed _ _ _ _ c.of.result.machine.now.board c.in_ok-image.ensures.image c.in_ok-image.ensures.tape c.end.ensures.end c.power_on-board.ensures
    (ap (λ (e : EngineValue). e.board) c.of.ensures.value ∙ c.in_ok-engine.ensures.board) _ _ refl c.in-Ok.ensures.taken

pub returns-clause-outcome : goal.returns-clause-outcome
returns-clause-outcome g c =
    soak-cut c.args.seed _ _ _ _ c.of.result.machine.now.board c.in_ok-image.ensures.image c.in_ok-image.ensures.tape c.end.ensures.end c.power_on-board.ensures
    (ap (λ (e : EngineValue). e.board) c.of.ensures.value ∙ c.in_ok-engine.ensures.board) _ _ refl c.in-Err.ensures.taken
