use Rattle.std.proofs.Common.{◌∙◌}
use Rattle.cycle_profile.proofs.TextLaws.{routines-first, routines-none, wrote-piece, wrote-cut, wrote-end, wrote-last_cut}
use Rattle.cycle_profile.proofs.write.write_table.Goals as goal

pub returns-in_err-put_routine-clause-taken : goal.returns-in_err-put_routine-clause-taken
returns-in_err-put_routine-clause-taken g c =
    wrote-cut _ _ _ _ _ _ _ _ _ _ (routines-first _ _ _ c.loop-address-test.true) c.loop-address.invariant.wrote c.from_residual.ensures.0
    c.in_err-put_routine.ensures.taken

pub loop-address-preserved : goal.loop-address-preserved
loop-address-preserved g c = record {
  wrote = wrote-piece _ _ _ _ _ _ _ _ _ (routines-first _ _ _ c.loop-address-test.true) c.loop-address.invariant.wrote c.in_ok-put_routine.ensures.taken;
  faults = c.in_ok-put_routine.ensures.cause ∙ c.loop-address.invariant.faults;
}

pub returns-in_err-push-clause-taken : goal.returns-in_err-push-clause-taken
returns-in_err-push-clause-taken g c =
    wrote-last_cut _ _ _ _ _ _ _ _ _ (c.bytes.ensures ∙ c.make_total.ensures.text) (routines-none _ _ c.loop-address-test.false)
    c.loop-address.invariant.wrote c.from_residual-in_err-push.ensures.0 c.in_err-push.ensures.taken

pub returns-clause-taken : goal.returns-clause-taken
returns-clause-taken g c =
    wrote-end _ _ _ _ _ _ _ _ _ _ _ (c.bytes.ensures ∙ c.make_total.ensures.text) (routines-none _ _ c.loop-address-test.false)
    c.loop-address.invariant.wrote c.in_ok-push.ensures.taken c.flush.ensures.taken
