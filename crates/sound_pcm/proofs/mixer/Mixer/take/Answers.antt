use Rattle.std.proofs.Common.{◌≡◌, ◌++◌, refl, ap, sym, ◌∙◌}
use Rattle.outside_io.proofs.EventLaws.{always_on_ok}
use Rattle.board_base.specs.declared.record.Record.TheVariants.{Levels}
use Rattle.sound_pcm.specs.Mixing.{held, changed}
use Rattle.sound_pcm.specs.Samples.{bytes_of}
use Rattle.outside_io.proofs.GatherLaws.{none-gathered, gathered-as, gathered-cut, gathered-end, gathered-then, takes-cut}
use Rattle.sound_pcm.proofs.GatherLaws.{next-gathered, next-cut}
use Rattle.sound_pcm.proofs.LevelLaws.{other-of}
use Rattle.sound_pcm.proofs.MixLaws.{taken, passed, last}
use Rattle.sound_pcm.proofs.mixer.Mixer.take.Goals as goal

pub loop-part-init : goal.loop-part-init
loop-part-init g c =
    rw (c.records-sound1.ensures.records, c.records-sound2.ensures.records, c.new-block.ensures)
    record {
      may = record { from = c.requires.from; made1 = c.requires.made1; made2 = c.requires.made2 };
      gathered = none-gathered _ _ _ refl;
      state = refl;
      faults = refl;
    }

pub returns-in_err-hold-clause-taken : goal.returns-in_err-hold-clause-taken
returns-in_err-hold-clause-taken g c =
    let so_far = c.loop-part.invariant in
    let now = c.in-Levels in
    let step = taken c.loop-part.self _ _ _ _ c.in-Some.part c.in-Some.made now.clock now.l1 now.l2 now.l3 now.l4 c.args.upto now.is so_far.may c.in-Some.ensures in
    takes-cut _ _ _ _ c.from_residual.ensures.0 (next-cut _ _ _ _ _ _ _ _ step.bytes so_far.gathered c.in_err-hold.ensures.taken)

pub loop-part-preserved : goal.loop-part-preserved
loop-part-preserved g c =
    let so_far = c.loop-part.invariant in
    let now = c.in-Levels in
    let step = taken c.loop-part.self _ _ _ _ c.in-Some.part c.in-Some.made now.clock now.l1 now.l2 now.l3 now.l4 c.args.upto now.is so_far.may c.in-Some.ensures in
    let next : c.change.new.self ≡ changed (held c.loop-part.self now.clock) c.in-Some.part (Levels now.clock now.l1 now.l2 now.l3 now.l4) =
    c.change.ensures ∙ ap (λ m. changed m c.in-Some.part (Levels now.clock now.l1 now.l2 now.l3 now.l4)) c.in_ok-hold.ensures.next in
    rw next
    record {
      may = step.may;
      gathered = next-gathered _ _ _ _ _ _ _ _ step.bytes so_far.gathered _ c.in_ok-hold.ensures.taken;
      state = so_far.state ∙ step.state;
      faults = c.in_ok-hold.ensures.cause ∙ so_far.faults;
    }

pub loop-part-preserved-in_default-made : goal.loop-part-preserved-in_default-made
unfolding bytes_of
loop-part-preserved-in_default-made g c =
    let so_far = c.loop-part.invariant in
    let over = passed c.loop-part.self c.loop-part.sound1.now c.loop-part.sound2.now c.take_sooner.new.sound1.now c.take_sooner.new.sound2.now
    c.in-Some.part c.in-Some.made c.args.upto so_far.may c.in-Some.ensures (other-of c.in-Some.made c.in_default-made.not-Levels) in
    record {
      may = over.may;
      gathered = gathered-as _ _ _ _ _ so_far.gathered (ap (λ l. c.loop-part.block ++ l) over.bytes);
      state = so_far.state ∙ over.state;
      faults = so_far.faults;
    }

pub returns-in_err-hold-2-clause-taken : goal.returns-in_err-hold-2-clause-taken
returns-in_err-hold-2-clause-taken g c =
    let end = last c.loop-part.self _ _ c.args.upto c.in_default.ensures.0 c.in_default.ensures.1 in
    takes-cut _ _ _ _ c.from_residual-in_err-hold-2.ensures.0
    (gathered-cut _ _ _ _ _ (rw end.samples at c.loop-part.invariant.gathered) c.in_err-hold-2.ensures.taken)

pub returns-clause-taken : goal.returns-clause-taken
returns-clause-taken g c =
    let end = last c.loop-part.self _ _ c.args.upto c.in_default.ensures.0 c.in_default.ensures.1 in
    gathered-end _ _ _ _ _ c.flush.result
    (gathered-then _ _ _ _ _ _ (rw end.samples at c.loop-part.invariant.gathered) c.in_ok-hold-2.ensures.taken) c.flush.ensures.taken

pub returns-clause-next : goal.returns-clause-next
returns-clause-next g c =
    let end = last c.loop-part.self _ _ c.args.upto c.in_default.ensures.0 c.in_default.ensures.1 in
    always_on_ok c.flush.result (c.in_ok-hold-2.ensures.next ∙ sym (c.loop-part.invariant.state ∙ end.state))
