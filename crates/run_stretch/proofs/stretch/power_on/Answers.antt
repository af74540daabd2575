use Rattle.std.proofs.Common.{ap, ◌∙◌}
use Rattle.save_state.specs.StateBytes.{state_bytes}
use Rattle.run_stretch.proofs.stretch.power_on.Goals as goal

pub returns : goal.returns
returns c = c.write.ensures.bytes ∙ ap state_bytes c.power_on.ensures
