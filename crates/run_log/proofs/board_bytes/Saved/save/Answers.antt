use Rattle.std.proofs.Common.{ap, ◌∙◌}
use Rattle.save_state.specs.StateBytes.{state_bytes}
use Rattle.run_log.specs.Slices.{saved_bytes}
use Rattle.run_log.proofs.board_bytes.Saved.save.Goals as goal

pub returns-clause-bytes : goal.returns-clause-bytes
unfolding saved_bytes
returns-clause-bytes g c = rw (← c.machine.ensures.value) (c.write.ensures.bytes ∙ ap state_bytes c.state.ensures.board)
