use Rattle.std.proofs.Common.{◌-◌, refl, sym, ◌∙◌, arith, append-nil}
use Rattle.sound_pcm.proofs.GroupLaws.{steady-whole, steady-short}
use Rattle.sound_pcm.proofs.GatherLaws.{next-gathered, next-cut}
use Rattle.outside_io.proofs.GatherLaws.{none-gathered, gathers-err}
use Rattle.sound_pcm.proofs.group.Group.add.Goals as goal

pub loop-left-init : goal.loop-left-init
loop-left-init g c = record { gathered = none-gathered _ _ _ refl; group = c.requires.group; per = refl; parts = refl; faults = refl }

pub returns-in_err-push-clause-taken : goal.returns-in_err-push-clause-taken
returns-in_err-push-clause-taken g c =
    let now = c.loop-left in
    let so_far = now.invariant in
    let whole = steady-whole c.args.self.now.per now.self.sum now.self.count (now.self.per - now.self.count) now.left c.args.weight (omega arith) (omega arith) (omega arith) in
    gathers-err _ _ _ _ _ c.from_residual.ensures.0
    (next-cut _ _ _ _ _ _ _ _ whole.0 so_far.gathered (rw c.to_le_bytes.ensures at c.in_err-push.ensures.taken))

pub loop-left-preserved : goal.loop-left-preserved
loop-left-preserved g c =
    let now = c.loop-left in
    let so_far = now.invariant in
    let whole = steady-whole c.args.self.now.per now.self.sum now.self.count (now.self.per - now.self.count) now.left c.args.weight (omega arith) (omega arith) (omega arith) in
    rw c.from-left.ensures
    record {
      gathered = next-gathered _ _ _ _ _ _ _ _ whole.0 so_far.gathered _ (rw c.to_le_bytes.ensures at c.in_ok-push.ensures.taken);
      group = record { longest = so_far.group.longest; unfinished = omega arith; sum = omega arith };
      per = so_far.per;
      parts = so_far.parts ∙ whole.1;
      faults = c.in_ok-push.ensures.cause ∙ so_far.faults;
    }

pub returns : goal.returns
returns g c =
    let so_far = c.loop-left.invariant in
    let short = steady-short c.args.self.now.per c.loop-left.self.sum c.loop-left.self.count c.loop-left.left c.args.weight (omega arith) in
    record {
      taken = rw append-nil at (rw short.0 at so_far.gathered);
      cause = so_far.faults;
      group = record { longest = so_far.group.longest; unfinished = omega arith; sum = grind (arith, so_far.group.sum, c.requires.weight) };
      next = record { per = so_far.per; parts = sym (so_far.parts ∙ short.1) };
    }
