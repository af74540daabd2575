-- Tallies and summaries add up, and stay as small as the lists that they count.
use Rattle.std.proofs.Common.{◌≡◌, ℕ, ◌+◌, ◌≤◌, ◌<◌, ℤ, Bool, true, false, List, [], ◌∷◌, ◌++◌, length, take, get_or, refl, sym, ap, ◌∙◌, arith, add-zero, add-one}
use Rattle.std.specs.List.{count_by, sum_by}
use Rattle.std.proofs.Math.Bool.{cond}
use Rattle.std.proofs.Math.Seq.{take-suc}
use Rattle.std.proofs.lemmas.List.Sums.{sum_by_push}
use Rattle.board_base.specs.declared.record.Record.{Record}
use Rattle.board_base.specs.declared.record.Record.TheVariants.{Stroke, Levels, Latch, WatchdogReset}
use Rattle.lockstep_board.specs.Order.{Recorded}
use Rattle.run_summary.specs.declared.summary.Summary.{Summary}
use Rattle.run_summary.specs.declared.summary.Tally.{Tally}
use Rattle.run_summary.specs.CounterLaws.{summary, summary-same}
use Rattle.run_summary.specs.Sizes.{IsSmall, IsSmallTally}
use Rattle.run_summary.specs.Summary.{is_latch, is_levels, is_reset, is_stroke, no_records, strength_of, summary_of, tally_of, together}

-- five numbers of a tally
abbrev tally : ℕ → ℕ → ℕ → ℕ → ℕ → Tally
tally strokes levels latches resets sum = record { strokes = strokes; levels = levels; latches = latches; resets = resets; sum = sum }

tally-same : (a b c d e v w x y z : ℕ) → a ≡ v → b ≡ w → c ≡ x → d ≡ y → e ≡ z → tally a b c d e ≡ tally v w x y z
tally-same a b c d e v w x y z ea eb ec ed ee = rw (ea, eb, ec, ed, ee) refl

-- one record more of a kind, and one of another
one-more : (kind : Record → Bool) (before : List Record) (r : Record) (n : ℕ) → n ≡ count_by kind before → kind r ≡ true
    → n + 1 ≡ count_by kind (before ++ r ∷ [])
one-more kind before r n is same =
    ap (λ m. m + 1) is ∙ sym (sum_by_push (λ x. cond (kind x) 1 0) before r ∙ ap (λ b. count_by kind before + cond b 1 0) same)

none-more : (kind : Record → Bool) (before : List Record) (r : Record) (n : ℕ) → n ≡ count_by kind before → kind r ≡ false
    → n ≡ count_by kind (before ++ r ∷ [])
none-more kind before r n is other =
    is
    ∙ sym (add-zero (count_by kind before))
    ∙ sym (sum_by_push (λ x. cond (kind x) 1 0) before r ∙ ap (λ b. count_by kind before + cond b 1 0) other)

strength-more : (before : List Record) (r : Record) (sum more : ℕ) → sum ≡ sum_by strength_of before → strength_of r ≡ more
    → sum + more ≡ sum_by strength_of (before ++ r ∷ [])
strength-more before r sum more is strength =
    ap (λ n. n + more) is ∙ ap (λ n. sum_by strength_of before + n) (sym strength) ∙ sym (sum_by_push strength_of before r)

module _ (before : List Record) (t : Tally) (r : Record) (is : t ≡ tally_of before) where
  -- a tally and a stroke
  pub stroke-tallied : (clock colour intensity : ℕ) (x0 y0 x1 y1 : ℤ) (sum : ℕ) → r ≡ Stroke clock x0 y0 x1 y1 colour intensity
      → sum ≡ t.sum + intensity → tally (t.strokes + 1) t.levels t.latches t.resets sum ≡ tally_of (before ++ r ∷ [])
  unfolding tally_of
  stroke-tallied clock colour intensity x0 y0 x1 y1 sum made total =
      tally-same _ _ _ _ _ _ _ _ _ _
      (one-more is_stroke before r t.strokes (ap (λ (u : Tally). u.strokes) is) (ap is_stroke made))
      (none-more is_levels before r t.levels (ap (λ (u : Tally). u.levels) is) (ap is_levels made))
      (none-more is_latch before r t.latches (ap (λ (u : Tally). u.latches) is) (ap is_latch made))
      (none-more is_reset before r t.resets (ap (λ (u : Tally). u.resets) is) (ap is_reset made))
      (total ∙ strength-more before r t.sum intensity (ap (λ (u : Tally). u.sum) is) (ap strength_of made))

  -- and levels
  pub levels-tallied : (clock l1 l2 l3 l4 sum : ℕ) → r ≡ Levels clock l1 l2 l3 l4 → sum ≡ t.sum + (l1 + l2 + l3 + l4)
      → tally t.strokes (t.levels + 1) t.latches t.resets sum ≡ tally_of (before ++ r ∷ [])
  unfolding tally_of
  levels-tallied clock l1 l2 l3 l4 sum made total =
      tally-same _ _ _ _ _ _ _ _ _ _
      (none-more is_stroke before r t.strokes (ap (λ (u : Tally). u.strokes) is) (ap is_stroke made))
      (one-more is_levels before r t.levels (ap (λ (u : Tally). u.levels) is) (ap is_levels made))
      (none-more is_latch before r t.latches (ap (λ (u : Tally). u.latches) is) (ap is_latch made))
      (none-more is_reset before r t.resets (ap (λ (u : Tally). u.resets) is) (ap is_reset made))
      (total ∙ strength-more before r t.sum (l1 + l2 + l3 + l4) (ap (λ (u : Tally). u.sum) is) (ap strength_of made))

  -- and a latch write
  pub latch-tallied : (clock value : ℕ) → r ≡ Latch clock value
      → tally t.strokes t.levels (t.latches + 1) t.resets t.sum ≡ tally_of (before ++ r ∷ [])
  unfolding tally_of
  latch-tallied clock value made =
      tally-same _ _ _ _ _ _ _ _ _ _
      (none-more is_stroke before r t.strokes (ap (λ (u : Tally). u.strokes) is) (ap is_stroke made))
      (none-more is_levels before r t.levels (ap (λ (u : Tally). u.levels) is) (ap is_levels made))
      (one-more is_latch before r t.latches (ap (λ (u : Tally). u.latches) is) (ap is_latch made))
      (none-more is_reset before r t.resets (ap (λ (u : Tally). u.resets) is) (ap is_reset made))
      (sym (add-zero t.sum) ∙ strength-more before r t.sum 0 (ap (λ (u : Tally). u.sum) is) (ap strength_of made))

  -- and a reset by the watchdog
  pub reset-tallied : (clock : ℕ) → r ≡ WatchdogReset clock
      → tally t.strokes t.levels t.latches (t.resets + 1) t.sum ≡ tally_of (before ++ r ∷ [])
  unfolding tally_of
  reset-tallied clock made =
      tally-same _ _ _ _ _ _ _ _ _ _
      (none-more is_stroke before r t.strokes (ap (λ (u : Tally). u.strokes) is) (ap is_stroke made))
      (none-more is_levels before r t.levels (ap (λ (u : Tally). u.levels) is) (ap is_levels made))
      (none-more is_latch before r t.latches (ap (λ (u : Tally). u.latches) is) (ap is_latch made))
      (one-more is_reset before r t.resets (ap (λ (u : Tally). u.resets) is) (ap is_reset made))
      (sym (add-zero t.sum) ∙ strength-more before r t.sum 0 (ap (λ (u : Tally). u.sum) is) (ap strength_of made))

-- the tally of the first records of a list
pub record Tallied (records : List Record) (i : ℕ) (t : Tally) : Type 0 where
  pub tally : t ≡ tally_of (take i records)
  pub small : IsSmallTally i t

pub tallied-start : (records : List Record) (t : Tally) → t ≡ tally_of [] → Tallied records 0 t
unfolding tally_of
tallied-start records t is = record {
  tally = is;
  small = rw is (record { strokes = omega arith; levels = omega arith; latches = omega arith; resets = omega arith; sum = omega arith });
}

pub tallied-more : (records : List Record) (i : ℕ) (d : Record) (t u : Tally) → i < length records → Tallied records i t
    → ((before : List Record) → t ≡ tally_of before → u ≡ tally_of (before ++ get_or records i d ∷ []))
    → ((n : ℕ) → IsSmallTally n t → IsSmallTally (n + 1) u) → Tallied records (i + 1) u
tallied-more records i d t u inside so_far tallied small = record {
  tally = tallied (take i records) so_far.tally ∙ ap tally_of (sym (ap (λ n. take n records) (add-one i) ∙ take-suc records i d inside));
  small = small i so_far.small;
}

-- the tallies of four lists
pub summary-tallied : (l : Recorded) (strokes levels1 levels2 written : Tally) → strokes ≡ tally_of l.strokes → levels1 ≡ tally_of l.levels1
    → levels2 ≡ tally_of l.levels2 → written ≡ tally_of l.written
    → summary strokes.strokes levels1.levels levels2.levels written.latches written.resets (strokes.sum + levels1.sum + levels2.sum) ≡ summary_of l
unfolding tally_of summary_of
summary-tallied l strokes levels1 levels2 written e f g h = rw (e, f, g, h) refl

-- the summary of no records adds nothing to another
pub together-none : (a : Summary) → together (summary_of no_records) a ≡ a
unfolding summary_of no_records
together-none a = summary-same _ _ _ _ _ _ _ _ _ _ _ _ (omega arith) (omega arith) (omega arith) (omega arith) (omega arith) (omega arith)
