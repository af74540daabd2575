use Rattle.std.proofs.Common.{refl, ◌∙◌, append-nil}
use Rattle.outside_io.proofs.GatherLaws.{none-gathered, gathered-piece, gathered-piece-cut, gathered-end, takes-cut}
use Rattle.log_text.specs.LogText.{log_text, merged_text}
use Rattle.log_text.proofs.merged.write_merged.Goals as goal

pub loop-part-init : goal.loop-part-init
loop-part-init g c = record { gathered = rw c.new-block.ensures (none-gathered _ _ _ cc); faults = refl }

pub loop-part-preserved : goal.loop-part-preserved
unfolding merged_text log_text
loop-part-preserved g c = record {
  gathered = gathered-piece _ _ _ _ c.loop-part.block _ _ _
      (rw (c.in-Some.ensures.steps, ← c.set_line.ensures.text, ← c.bytes.ensures) at c.loop-part.invariant.gathered) c.in_ok-push.ensures.taken;
  faults = c.in_ok-push.ensures.cause ∙ c.loop-part.invariant.faults;
}

pub returns-in_err-push-clause-taken : goal.returns-in_err-push-clause-taken
unfolding merged_text log_text
returns-in_err-push-clause-taken g c =
    takes-cut _ _ _ _ c.from_residual.ensures.0 (gathered-piece-cut _ _ _ _ c.loop-part.block _ _
    (rw (c.in-Some.ensures.steps, ← c.set_line.ensures.text, ← c.bytes.ensures) at c.loop-part.invariant.gathered) c.in_err-push.ensures.taken)

pub returns-clause-taken : goal.returns-clause-taken
unfolding merged_text log_text
returns-clause-taken g c =
    gathered-end _ _ _ _ c.loop-part.block _ (rw (c.in-None.ensures.steps.0, append-nil) at c.loop-part.invariant.gathered) c.flush.ensures.taken
