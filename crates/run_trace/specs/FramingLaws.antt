-- Frames of a run, part by part.
use Rattle.std.proofs.Common.{◌≡◌, ℕ, ◌+◌, ◌-◌, ◌≤◌, ◌<◌, true, false, not, ◌==◌, List, [], ◌∷◌, ◌++◌, length, map, take, drop, zero, suc, refl, sym, ap, subst, ◌∙◌, arith}
use Rattle.std.proofs.Common.{add-zero, length-drop}
use Rattle.std.specs.Prelude.{All}
use Rattle.std.proofs.lemmas.Bool.{ne_eqb}
use Rattle.std.proofs.lemmas.List.Elements.{All-weaker}
use Rattle.board_base.specs.declared.record.Record.{Record}
use Rattle.board_base.specs.Records.{clock_of}
use Rattle.tape_ports.specs.declared.entry.TapeEntry.{TapeEntry}
use Rattle.lockstep_board.specs.Breaks.{turn, turned}
use Rattle.lockstep_board.specs.Order.{HasNoRecords, cleared}
use Rattle.lockstep_board.specs.Lockstep.{Board}
use Rattle.lockstep_board.specs.Run.{boundary_steps, is_over, stepped, to_boundary, IsPlaced}
use Rattle.catchup_engine.specs.Trace.{accesses_of, step_trace}
use Rattle.catchup_engine.specs.Traced.{observed, observed_once}
use Rattle.lockstep_board.proofs.Clocks.{stepped-clock}
use Rattle.lockstep_board.proofs.Ended.{cleared-empty}
use Rattle.lockstep_board.proofs.Ends.{to_boundary-clock}
use Rattle.lockstep_board.proofs.InOrder.{stepped-made, to_boundary-made}
use Rattle.lockstep_board.proofs.Runs.{steps-none}
use Rattle.lockstep_board.proofs.TurnLaws.{to_boundary-none}
use Rattle.run_windows.specs.TurnObserver.{FollowsInParts, IsFollowedInParts, StandsStill}
use Rattle.catchup_engine.specs.Starts.{marks_in, marks_of}
use Rattle.frame_list.specs.Events.{by_clock, mark_at, stroke_of, through}
use Rattle.frame_list.specs.Frames.{FrameValue, IsBefore, started, ended, frames_text, under_way}
use Rattle.frame_list.proofs.FrameLaws.{strokes-most, strokes-number, under_way-append}
use Rattle.frame_list.proofs.WholeLaws.{parts_make_the_whole}
use Rattle.run_trace.specs.BoardFrames.{run_events, run_marks}
use Rattle.run_trace.specs.Framing.{FramerValue, after_part, after_run, framer_after_turn, keeps_marks, part_framed, run_framed_text, CanFrame, HasNumbers}
use Rattle.run_trace.specs.MarkLaws.{marks-append, marks-few, marks-within, run_marks-cleared, turn-marks}
use Rattle.run_trace.specs.PartLaws.{accesses-add, cleared-none, end-behind, made-none, open-later, strokes-before, strokes-few, strokes-from, turned-low, turned-steps, turns-go, turns_steps}

-- what a framer is when it got n turns: its frames stayed, and it kept the marks of all of them
record Kept (entries : List TapeEntry) (n : ℕ) (w v : FramerValue) (b : Board) : Type 0 where
  frames : v.frames ≡ w.frames
  marks : marks_of (accesses_of entries (turns_steps entries n b) b) ≡ v.marks

-- one turn
record KeptOne (entries : List TapeEntry) (w v : FramerValue) (b : Board) : Type 0 where
  frames : v.frames ≡ w.frames
  marks : marks_in (step_trace entries b) ≡ v.marks

kept-one : (entries : List TapeEntry) (w : FramerValue) (b : Board) → KeptOne entries w (observed_once framer_after_turn entries w b) b
kept-one entries w b = record { frames = refl; marks = refl }

-- a list that isn't said to have an element has none
empty-marks : (marks : List ℕ) → not (length marks == 0) ≡ false → marks ≡ []
empty-marks [] is = refl
empty-marks (mark ∷ marks) is = absurd (some-mark (length marks) is)
  where
    some-mark : (n : ℕ) → not (suc n == 0) ≡ false → ⊥
    some-mark n is = let off = ne_eqb (suc n) 0 (λ e. absurd (omega (arith, e))) in let on : true ≡ false = sym (ap not off) ∙ is in cc

-- no turn but the last gave it a mark
kept-turns : (entries : List TapeEntry) (limit n : ℕ) (w : FramerValue) (b : Board) → w.marks ≡ []
    → ((k : ℕ) → k < n → is_over limit (turned entries k b) ≡ false)
    → ((k : ℕ) → 1 ≤ k → k < n → keeps_marks (observed framer_after_turn entries k w b) ≡ false)
    → Kept entries n w (observed framer_after_turn entries n w b) b
unfolding observed turned accesses_of turns_steps marks_of stepped to_boundary
kept-turns entries limit zero w b none open_yet goes = record { frames = refl; marks = sym none }
kept-turns entries limit (suc zero) w b none open_yet goes =
    let one = kept-one entries w b in
    let n = boundary_steps entries (b.peripherals.clock + 1) b in
    record {
      frames = one.frames;
      marks =
          ap (λ k. marks_of (accesses_of entries k b)) (add-zero n)
          ∙ turn-marks entries limit b (open_yet 0 (omega arith))
          ∙ one.marks;
    }
kept-turns entries limit (suc (suc m)) w b none open_yet goes =
    let one = kept-one entries w b in
    let v = observed_once framer_after_turn entries w b in
    let n = boundary_steps entries (b.peripherals.clock + 1) b in
    let next = turn entries b in
    let still : v.marks ≡ [] = empty-marks v.marks (goes 1 (omega arith) (omega arith)) in
    let rest : Kept entries (suc m) v (observed framer_after_turn entries (suc m) v next) next =
    kept-turns entries limit (suc m) v next still (λ k few. open_yet (suc k) (omega (arith, few)))
    (λ k some few. goes (suc k) (omega (arith, some)) (omega (arith, few))) in
    let first : marks_of (accesses_of entries n b) ≡ [] =
    turn-marks entries limit b (open_yet 0 (omega arith)) ∙ one.marks ∙ still in
    record {
      frames = rest.frames ∙ one.frames;
      marks =
          ap marks_of (accesses-add entries n (turns_steps entries (suc m) next) b)
          ∙ marks-append (accesses_of entries n b) (accesses_of entries (turns_steps entries (suc m) next) (stepped entries n b))
          ∙ ap (λ l. l ++ marks_of (accesses_of entries (turns_steps entries (suc m) next) (stepped entries n b))) first
          ∙ rest.marks;
    }

-- each event adds one at most to the number of the frame or to that of its strokes
record AreFew (frame last : FrameValue) (drawn : List Record) (marks : List ℕ) : Type 0 where
  number : last.number ≤ frame.number + length marks
  strokes : last.strokes ≤ frame.strokes + length drawn

events-few : (frame : FrameValue) (strokes : List Record) (marks : List ℕ) → AreFew frame (under_way frame (by_clock strokes marks)) strokes marks
unfolding by_clock under_way
events-few frame strokes [] = record {
  number = (let same = strokes-number frame strokes in omega arith);
  strokes = strokes-most frame strokes;
}
events-few frame strokes (mark ∷ marks) =
    let n = through mark strokes in
    let first = take n strokes in
    let later = drop n strokes in
    let last = under_way frame (map stroke_of first) in
    let same = strokes-number frame first in
    let rest = events-few (started (last.number + 1) mark) later marks in
    let fewer = length-drop n strokes in
    let number = rest.number in
    let few = rest.strokes in
    rw (under_way-append frame (map stroke_of first) (mark_at mark ∷ by_clock later marks)) (record { number = omega arith; strokes = omega arith })

-- a run of which a first part led to a board: its strokes and marks, and those of the rest
module _ (entries : List TapeEntry) (limit n : ℕ) (b : Board) (placed : IsPlaced b) (none : HasNoRecords b)
    (open_yet : (k : ℕ) → k < n → is_over limit (turned entries k b) ≡ false) where
  abbrev there : Board
  there = turned entries n b

  abbrev rest : Board
  rest = to_boundary entries limit (cleared there)

  abbrev made : List ℕ
  made = marks_of (accesses_of entries (turns_steps entries n b) b)

  there-clock : there.peripherals.clock ≡ b.peripherals.clock + turns_steps entries n b
  there-clock = ap (λ (c : Board). c.peripherals.clock) (turned-steps entries n b) ∙ stepped-clock entries (turns_steps entries n b) b

  whole : to_boundary entries limit b ≡ to_boundary entries limit there
  whole = turns-go entries limit n b placed open_yet

  -- the strokes
  whole-strokes : (to_boundary entries limit b).peripherals.strokes ≡ there.peripherals.strokes ++ rest.peripherals.strokes
  whole-strokes = ap (λ (c : Board). c.peripherals.strokes) (whole ∙ end-behind entries limit there)

  -- the marks
  whole-steps : boundary_steps entries limit b ≡ turns_steps entries n b + boundary_steps entries limit there
  whole-steps =
      let here = to_boundary-clock entries limit b in
      let later = to_boundary-clock entries limit there in
      let same : (to_boundary entries limit b).peripherals.clock ≡ (to_boundary entries limit there).peripherals.clock = ap (λ (c : Board). c.peripherals.clock) whole in
      let clock = there-clock in
      omega arith

  whole-marks : run_marks entries limit b ≡ made ++ run_marks entries limit (cleared there)
  unfolding run_marks
  whole-marks =
      let k = turns_steps entries n b in
      let m = boundary_steps entries limit there in
      ap (λ j. marks_of (accesses_of entries j b)) whole-steps
      ∙ ap marks_of (accesses-add entries k m b)
      ∙ marks-append (accesses_of entries k b) (accesses_of entries m (stepped entries k b))
      ∙ ap (λ (c : Board). made ++ marks_of (accesses_of entries m c)) (sym (turned-steps entries n b))
      ∙ ap (λ l. made ++ l) (sym (run_marks-cleared entries limit there))

  whole-events : run_events entries limit b ≡ by_clock (there.peripherals.strokes ++ rest.peripherals.strokes) (made ++ run_marks entries limit (cleared there))
  unfolding run_events
  whole-events =
      ap (λ l. by_clock l (run_marks entries limit b)) whole-strokes
      ∙ ap (by_clock (there.peripherals.strokes ++ rest.peripherals.strokes)) whole-marks

  -- what comes up to the board, and what comes from it on
  strokes-sooner : All (λ s. clock_of s < there.peripherals.clock) there.peripherals.strokes
  strokes-sooner =
      let k = turns_steps entries n b in
      let order = stepped-made entries b.peripherals.clock k b (made-none b none) in
      subst (λ (c : Board). All (λ s. clock_of s < c.peripherals.clock) c.peripherals.strokes) (sym (turned-steps entries n b))
      (strokes-before b.peripherals.clock (stepped entries k b).peripherals.clock (stepped entries k b).peripherals.strokes order.strokes)

  strokes-later : All (λ s. there.peripherals.clock ≤ clock_of s) rest.peripherals.strokes
  strokes-later =
      let order = to_boundary-made entries there.peripherals.clock limit (cleared there) (made-none (cleared there) (cleared-none there)) in
      strokes-from there.peripherals.clock rest.peripherals.clock rest.peripherals.strokes order.strokes

  marks-sooner : All (λ mark. mark < there.peripherals.clock) made
  marks-sooner =
      let clock = there-clock in
      All-weaker (λ mark. (b.peripherals.clock ≤ mark) × (mark < b.peripherals.clock + turns_steps entries n b)) (λ mark. mark < there.peripherals.clock)
      (λ mark both. (let high = both.1 in omega arith)) made (marks-within entries (turns_steps entries n b) b)

  marks-later : All (λ mark. there.peripherals.clock ≤ mark) (run_marks entries limit (cleared there))
  unfolding run_marks
  marks-later =
      let m = boundary_steps entries limit (cleared there) in
      All-weaker (λ mark. (there.peripherals.clock ≤ mark) × (mark < there.peripherals.clock + m)) (λ mark. there.peripherals.clock ≤ mark) (λ mark both. both.0)
      (marks_of (accesses_of entries m (cleared there))) (marks-within entries m (cleared there))

  pub part-before : IsBefore there.peripherals.strokes made rest.peripherals.strokes (run_marks entries limit (cleared there))
  part-before = record {
    marks =
        All-weaker (λ mark. mark < there.peripherals.clock) (λ mark. All (λ stroke. mark < clock_of stroke) rest.peripherals.strokes)
        (λ mark sooner. All-weaker (λ s. there.peripherals.clock ≤ clock_of s) (λ s. mark < clock_of s) (λ s later. omega (arith, sooner, later)) rest.peripherals.strokes strokes-later)
        made marks-sooner;
    strokes =
        All-weaker (λ s. clock_of s < there.peripherals.clock) (λ s. All (λ mark. clock_of s ≤ mark) (run_marks entries limit (cleared there)))
        (λ s sooner. All-weaker (λ mark. there.peripherals.clock ≤ mark) (λ mark. clock_of s ≤ mark) (λ mark later. omega (arith, sooner, later))
        (run_marks entries limit (cleared there)) marks-later)
        there.peripherals.strokes strokes-sooner;
  }

  strokes-there : length there.peripherals.strokes ≤ turns_steps entries n b
  strokes-there =
      let k = turns_steps entries n b in
      let few = strokes-few entries k b in
      let same : length there.peripherals.strokes ≡ length (stepped entries k b).peripherals.strokes = ap (λ (c : Board). length c.peripherals.strokes) (turned-steps entries n b) in
      let nothing : length b.peripherals.strokes ≡ 0 = ap (λ (l : List Record). length l) none.strokes in
      omega arith

-- a frame in numbers that the clocks bound
numbers-small : (w : FramerValue) (limit : ℕ) (b : Board) → CanFrame w limit b → HasNumbers w
numbers-small w limit b may =
    let clock = may.clock in let number = may.number in let strokes = may.strokes in record { number = omega arith; strokes = omega arith }

-- to frame a first part of a run, and then the rest, is to frame the whole
part-framed-so : (w : FramerValue) (entries : List TapeEntry) (limit part n : ℕ) (b : Board) → part ≤ limit → IsPlaced b → HasNoRecords b
    → CanFrame w limit b → ((k : ℕ) → k < n → is_over part (turned entries k b) ≡ false)
    → ((k : ℕ) → 1 ≤ k → k < n → keeps_marks (observed framer_after_turn entries k w b) ≡ false)
    → IsFollowedInParts framer_after_turn keeps_marks (λ f _ limit b. CanFrame f limit b) run_framed_text after_run (λ f _. HasNumbers f) part_framed after_part
    w (observed framer_after_turn entries n w b) entries limit b (turned entries n b)
unfolding run_events
part-framed-so w entries limit part n b low placed none may open_part goes =
    let v = observed framer_after_turn entries n w b in
    let c = turned entries n b in
    let last = to_boundary entries limit (cleared c) in
    let made = marks_of (accesses_of entries (turns_steps entries n b) b) in
    let open_yet : (k : ℕ) → k < n → is_over limit (turned entries k b) ≡ false = λ k few. open-later part limit (turned entries k b) low (open_part k few) in
    let kept = kept-turns entries part n w b may.marks open_part goes in
    let clock = there-clock entries limit n b placed none open_yet in
    let stands = turned-low entries limit n b may.low placed open_yet (record { clock = may.clock; inside = may.inside }) in
    let few = events-few w.frames c.peripherals.strokes made in
    let fewer = marks-few entries (turns_steps entries n b) b in
    let strokes = strokes-there entries limit n b placed none open_yet in
    let numbers = numbers-small w limit b may in
    let number = may.number in
    let counted = may.strokes in
    let more = few.number in
    let drawn = few.strokes in
    let events : by_clock c.peripherals.strokes v.marks ≡ by_clock c.peripherals.strokes made = ap (by_clock c.peripherals.strokes) (sym kept.marks) in
    let behind : under_way v.frames (by_clock c.peripherals.strokes v.marks) ≡ under_way w.frames (by_clock c.peripherals.strokes made) =
    ap (λ (f : FrameValue). under_way f (by_clock c.peripherals.strokes v.marks)) kept.frames ∙ ap (under_way w.frames) events in
    let lines : ended v.frames (by_clock c.peripherals.strokes v.marks) ≡ ended w.frames (by_clock c.peripherals.strokes made) =
    ap (λ (f : FrameValue). ended f (by_clock c.peripherals.strokes v.marks)) kept.frames ∙ ap (ended w.frames) events in
    let all : run_events entries limit (cleared b)
    ≡ by_clock (c.peripherals.strokes ++ last.peripherals.strokes) (made ++ run_marks entries limit (cleared c)) =
    ap (run_events entries limit) (cleared-empty b none) ∙ whole-events entries limit n b placed none open_yet in
    let parts = parts_make_the_whole w.frames c.peripherals.strokes made last.peripherals.strokes (run_marks entries limit (cleared c))
    (part-before entries limit n b placed none open_yet) in
    record {
      room = record {
        number = (let same : v.frames.number ≡ w.frames.number = ap (λ (f : FrameValue). f.number) kept.frames in let small = numbers.number in omega arith);
        strokes = (let same : v.frames.strokes ≡ w.frames.strokes = ap (λ (f : FrameValue). f.strokes) kept.frames in let small = numbers.strokes in omega arith);
      };
      rest = record {
        marks = refl;
        low = may.low;
        clock = stands.clock;
        inside = stands.inside;
        number = (let same = ap (λ (f : FrameValue). f.number) behind in omega arith);
        strokes = (let same = ap (λ (f : FrameValue). f.strokes) behind in omega arith);
      };
      text =
          ap (λ l. frames_text (ended w.frames l)) all
          ∙ parts.text
          ∙ ap (λ l. frames_text l ++ frames_text (ended (under_way w.frames (by_clock c.peripherals.strokes made)) (run_events entries limit (cleared c)))) (sym lines)
          ∙ ap (λ (f : FrameValue). frames_text (ended v.frames (by_clock c.peripherals.strokes v.marks)) ++ frames_text (ended f (run_events entries limit (cleared c)))) (sym behind);
      state =
          ap (λ l. let f : FramerValue = record w { frames = under_way w.frames l } in f) all
          ∙ ap (λ (g : FrameValue). let f : FramerValue = record w { frames = g } in f) parts.frame
          ∙ ap (λ (g : FrameValue). let f : FramerValue = record w { frames = under_way g (run_events entries limit (cleared c)) } in f) (sym behind)
          ∙ ap (λ (l : List ℕ). let f : FramerValue = record {
            frames = under_way (under_way v.frames (by_clock c.peripherals.strokes v.marks)) (run_events entries limit (cleared c));
            marks = l;
          } in f) may.marks;
    }

pub framed_in_parts : FollowsInParts framer_after_turn keeps_marks (λ f _ limit b. CanFrame f limit b) run_framed_text after_run (λ f _. HasNumbers f) part_framed after_part
framed_in_parts w v entries limit part b c low placed none may run =
    subst (λ (f : FramerValue). IsFollowedInParts framer_after_turn keeps_marks (λ f _ limit b. CanFrame f limit b) run_framed_text after_run (λ f _. HasNumbers f) part_framed after_part
    w f entries limit b c) (sym run.tracer)
    (subst (λ (d : Board). IsFollowedInParts framer_after_turn keeps_marks (λ f _ limit b. CanFrame f limit b) run_framed_text after_run (λ f _. HasNumbers f) part_framed after_part
    w (observed framer_after_turn entries run.count w b) entries limit b d) (sym run.board)
    (part-framed-so w entries limit part run.count b low placed none may run.over run.goes_on))

-- a run that is over has no events
over-events : (entries : List TapeEntry) (limit : ℕ) (b : Board) → is_over limit b ≡ true → run_events entries limit (cleared b) ≡ []
unfolding run_events run_marks accesses_of marks_of by_clock
over-events entries limit b over =
    let here : to_boundary entries limit (cleared b) ≡ cleared b = to_boundary-none entries limit (cleared b) over in
    let steps : boundary_steps entries limit (cleared b) ≡ 0 = steps-none entries (is_over limit) ((limit - b.peripherals.clock) + 6) (cleared b) over in
    ap (λ (c : Board). by_clock c.peripherals.strokes (run_marks entries limit (cleared b))) here
    ∙ ap (λ n. by_clock [] (marks_of (accesses_of entries n (cleared b)))) steps

pub framed_still : StandsStill run_framed_text after_run
unfolding ended under_way frames_text
framed_still w entries limit b over =
    let none = over-events entries limit b over in
    record {
      text = ap (λ l. frames_text (ended w.frames l)) none;
      state = ap (λ l. let f : FramerValue = record w { frames = under_way w.frames l } in f) none;
    }
