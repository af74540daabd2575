use Rattle.std.proofs.Common.{◌≡◌, ℕ, [], Ok, refl, sym, ◌∙◌, ap, arith}
use Rattle.std.proofs.Math.ListN.{drop_of_length-le}
use Rattle.std.proofs.lemmas.List.Sums.{prefix_len-le-length}
use Rattle.outside_io.proofs.KnownLaws.{grown-nothing}
use Rattle.outside_io.proofs.GatherLaws.{none-gathered, gathered-then, gathered-piece-cut, gathered-end, takes-cut}
use Rattle.frame_list.specs.Events.{by_clock}
use Rattle.frame_list.specs.Frames.{frames_text}
use Rattle.frame_list.proofs.FrameLaws.{strokes-number, ended-strokes}
use Rattle.frame_list.proofs.TakeLaws.{marks-left, marked}
use Rattle.frame_list.proofs.frames.Frames.take_marks.Goals as goal

pub split_at-requires : goal.split_at-requires
split_at-requires g c = rw c.count_through.ensures (prefix_len-le-length _ _)

pub begin-requires : goal.begin-requires
begin-requires g c = let same : c.count_all.new.self.number ≡ c.loop-mark.self.number = rw c.count_all.ensures (strokes-number _ _) in omega arith

pub loop-mark-init : goal.loop-mark-init
loop-mark-init g c = record { gathered = none-gathered _ _ _ refl; frame = refl; faults = refl; number = omega arith; strokes = omega arith }

pub loop-mark-preserved : goal.loop-mark-preserved
loop-mark-preserved g c =
    let frame = c.in_ok-begin.ensures.frame in
    let step = marked c.loop-mark.self _ _ _ _ _ _ _ _ (marks-left _ _ _ c.loop-mark-test.true) c.count_through.ensures c.split_at.ensures.front c.split_at.ensures.back c.count_all.ensures in
    record {
      gathered = rw frame (gathered-then _ _ _ _ _ _ (rw step.0 at c.loop-mark.invariant.gathered)
          record { sent = _; taken = c.in_ok-begin.ensures.taken; parts = refl });
      frame = rw frame (c.loop-mark.invariant.frame ∙ step.1);
      faults = c.in_ok-begin.ensures.cause ∙ c.loop-mark.invariant.faults;
      number = (let same : c.count_all.new.self.number ≡ c.loop-mark.self.number = rw c.count_all.ensures (strokes-number _ _) in
          omega (arith, ap (λ f. f.number) frame));
      strokes = omega (arith, ap (λ f. f.strokes) frame);
    }

pub returns-in_err-begin-clause-taken : goal.returns-in_err-begin-clause-taken
returns-in_err-begin-clause-taken g c =
    let step = marked c.loop-mark.self _ _ _ _ _ _ _ _ (marks-left _ _ _ c.loop-mark-test.true) c.count_through.ensures c.split_at.ensures.front c.split_at.ensures.back c.count_all.ensures in
    rw (← c.records-strokes.ensures.records)
    (takes-cut _ _ _ _ c.from_residual.ensures.0 (gathered-piece-cut _ _ _ _ [] _ _ (rw step.0 at c.loop-mark.invariant.gathered) c.in_err-begin.ensures.taken))

pub returns-clause-taken : goal.returns-clause-taken
unfolding by_clock frames_text
returns-clause-taken g c =
    rw (← c.records-strokes.ensures.records)
    (gathered-end {T = ℕ} {E = ℕ} _ _ _ _ [] (Ok 0) (rw (drop_of_length-le _ c.loop-mark-test.false, ended-strokes) at c.loop-mark.invariant.gathered) (sym (grown-nothing _)))

pub returns-clause-frame : goal.returns-clause-frame
unfolding by_clock
returns-clause-frame g c =
    rw (← c.records-strokes.ensures.records)
    (c.count_all-2.ensures ∙ sym (rw (drop_of_length-le _ c.loop-mark-test.false) at c.loop-mark.invariant.frame))
