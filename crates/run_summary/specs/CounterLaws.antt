-- To count a first part of the records of a run and then the rest is to count the whole.
use Rattle.std.specs.Prelude.{◌≡◌, ℕ, ◌+◌, []}
use Rattle.std.proofs.Common.{refl, ap, sym, ◌∙◌, arith, length-append}
use Rattle.std.proofs.Math.Bool.{cond}
use Rattle.std.proofs.lemmas.List.Sums.{sum_by-append}
use Rattle.lockstep_board.specs.Order.{Recorded}
use Rattle.run_windows.specs.RecordObserver.{TakesInParts, joined}
use Rattle.run_summary.specs.declared.summary.Summary.{Summary}
use Rattle.run_summary.specs.Counter.{CounterValue, HasRoom, count_of, counted}
use Rattle.run_summary.specs.Summary.{is_latch, is_levels, is_reset, is_stroke, strength_of, summary_of, together}

-- six numbers of a summary
abbrev pub summary : ℕ → ℕ → ℕ → ℕ → ℕ → ℕ → Summary
summary strokes levels1 levels2 latches resets sum = record {
  strokes = strokes;
  levels1 = levels1;
  levels2 = levels2;
  latches = latches;
  resets = resets;
  sum = sum;
}

pub summary-same : (a b c d e f u v w x y z : ℕ) → a ≡ u → b ≡ v → c ≡ w → d ≡ x → e ≡ y → f ≡ z → summary a b c d e f ≡ summary u v w x y z
summary-same a b c d e f u v w x y z ea eb ec ed ee ef = rw (ea, eb, ec, ed, ee, ef) refl

-- summaries may be put together in any grouping
together-assoc : (a b c : Summary) → together (together a b) c ≡ together a (together b c)
together-assoc a b c =
    summary-same _ _ _ _ _ _ _ _ _ _ _ _ (omega arith) (omega arith) (omega arith) (omega arith) (omega arith) (omega arith)

-- the summary of both
summary-joined : (l m : Recorded) → summary_of (joined l m) ≡ together (summary_of l) (summary_of m)
unfolding summary_of
summary-joined l m =
    let strokes = sum_by-append strength_of l.strokes m.strokes in
    let levels1 = sum_by-append strength_of l.levels1 m.levels1 in
    let levels2 = sum_by-append strength_of l.levels2 m.levels2 in
    summary-same _ _ _ _ _ _ _ _ _ _ _ _
    (sum_by-append (λ x. cond (is_stroke x) 1 0) l.strokes m.strokes)
    (sum_by-append (λ x. cond (is_levels x) 1 0) l.levels1 m.levels1)
    (sum_by-append (λ x. cond (is_levels x) 1 0) l.levels2 m.levels2)
    (sum_by-append (λ x. cond (is_latch x) 1 0) l.written m.written)
    (sum_by-append (λ x. cond (is_reset x) 1 0) l.written m.written)
    (omega (arith, strokes, levels1, levels2))

count-joined : (l m : Recorded) → count_of (joined l m) ≡ count_of l + count_of m
count-joined l m =
    let strokes = length-append l.strokes m.strokes in
    let levels1 = length-append l.levels1 m.levels1 in
    let levels2 = length-append l.levels2 m.levels2 in
    let written = length-append l.written m.written in
    omega arith

counter-same : (s t : Summary) (n m : ℕ) → s ≡ t → n ≡ m
    → (let a : CounterValue = record { total = s; records = n } in a) ≡ (let b : CounterValue = record { total = t; records = m } in b)
counter-same s t n m e f = rw (e, f) refl

-- to count a first part and then the rest is to count the whole
pub counted_in_parts : TakesInParts {W = CounterValue} (λ c _ l _. HasRoom c l) (λ _ _ _. []) (λ c l _. counted c l)
counted_in_parts c from first at rest upto parts room =
    let all = count-joined first rest in
    record {
      room_first = omega arith;
      room_rest = omega arith;
      text = refl;
      state =
          counter-same _ _ _ _
          (ap (together c.total) (summary-joined first rest) ∙ sym (together-assoc c.total (summary_of first) (summary_of rest)))
          (omega arith);
    }
