-- The bounds of some strokes, by their ends.
use Rattle.std.proofs.Common.{◌≡◌, ℕ, List, [], ◌∷◌, ◌++◌, Option, Some, None, map, length, refl, sym, subst, ◌∙◌, ap, arith, inl, inr, append-nil, append_assoc, zero-add}
use Rattle.std.specs.Prelude.{ℤ, int_lt, All, ◌≤ℤ◌, Contains, ◌⊎◌}
use Rattle.std.specs.List.{flat_map}
use Rattle.std.specs.Int.{int_min, int_max}
use Rattle.std.specs.Int.Signed.{≤ℤ_refl}
use Rattle.std.proofs.lemmas.Bool.{cases_cond}
use Rattle.std.proofs.lemmas.Int.{ints, clamps}
use Rattle.std.proofs.lemmas.List.{map-append}
use Rattle.std.proofs.lemmas.List.Elements.{All-nil, All-cons, All-append, All-weaker, Contains-push, Contains-append_left, Contains-append_right}
use Rattle.std.proofs.lemmas.List.Concat.{flat_map-cons}
use Rattle.board_base.specs.declared.record.Record.{Record}
use Rattle.board_base.specs.declared.record.Record.TheVariants.{Stroke}
use Rattle.frame_list.specs.declared.frame.Bounds.{Bounds}
use Rattle.frame_list.specs.declared.frame.Point.{Point}
use Rattle.frame_list.specs.Bounds.{joined, of_ends, widened}
use Rattle.frame_list.specs.Events.{stroke_of}
use Rattle.frame_list.specs.Extents.{ends_of, IsLeast, IsGreatest, AreBounds, HasBounds, FramesCountStrokes}
use Rattle.frame_list.specs.Frames.{FrameValue, started, counted, under_way}
use Rattle.frame_list.proofs.WholeLaws.{strokes-exact}

-- one of some numbers that is in a relation with each of them: a number alone, and one chosen of those
-- of two lists
module _ (R : ℤ → ℤ → Type 0) where
  end-one : (a : ℤ) → R a a → All (R a) (a ∷ []) × Contains (a ∷ []) a
  end-one a same = (All-cons (R a) a [] same (All-nil (R a)), Contains-push [] a)

  end-more : (m n s : ℤ) (xs ys : List ℤ) → (m ≡ s) ⊎ (m ≡ n) → ((x : ℤ) → R n x → R m x) → ((x : ℤ) → R s x → R m x)
      → All (R n) xs × Contains xs n → All (R s) ys × Contains ys s → All (R m) (xs ++ ys) × Contains (xs ++ ys) m
  end-more m n s xs ys one on1 on2 first second = (
    All-append (R m) xs ys (All-weaker (R n) (R m) on1 xs first.0) (All-weaker (R s) (R m) on2 ys second.0),
    elim one [
      | inl is ↦ rw is (Contains-append_right xs ys s second.1)
      | inr is ↦ rw is (Contains-append_left xs ys n first.1)
    ],
  )

least-more : (n s : ℤ) (xs ys : List ℤ) → IsLeast n xs → IsLeast s ys → IsLeast (int_min n s) (xs ++ ys)
least-more n s xs ys =
    end-more (λ a x. a ≤ℤ x) _ n s xs ys (cases_cond (int_lt s n) s n _ refl) (λ x above. omega (arith, ints, clamps)) (λ x above. omega (arith, ints, clamps))

greatest-more : (n s : ℤ) (xs ys : List ℤ) → IsGreatest n xs → IsGreatest s ys → IsGreatest (int_max n s) (xs ++ ys)
greatest-more n s xs ys =
    end-more (λ a x. x ≤ℤ a) _ n s xs ys (elim (cases_cond (int_lt s n) n s _ refl) [ inl is ↦ inr is | inr is ↦ inl is ])
    (λ x below. omega (arith, ints, clamps)) (λ x below. omega (arith, ints, clamps))

-- the bounds of two groups of ends together, and those of one stroke
bounds-joined : (b c : Bounds) (xs ys : List Point) → AreBounds b xs → AreBounds c ys → AreBounds (joined b c) (xs ++ ys)
bounds-joined b c xs ys first second = record {
  least_x = subst (IsLeast (int_min b.least.x c.least.x)) (sym (map-append (λ end. end.x) xs ys)) (least-more _ _ _ _ first.least_x second.least_x);
  least_y = subst (IsLeast (int_min b.least.y c.least.y)) (sym (map-append (λ end. end.y) xs ys)) (least-more _ _ _ _ first.least_y second.least_y);
  greatest_x = subst (IsGreatest (int_max b.greatest.x c.greatest.x)) (sym (map-append (λ end. end.x) xs ys)) (greatest-more _ _ _ _ first.greatest_x second.greatest_x);
  greatest_y = subst (IsGreatest (int_max b.greatest.y c.greatest.y)) (sym (map-append (λ end. end.y) xs ys)) (greatest-more _ _ _ _ first.greatest_y second.greatest_y);
}

bounds-ends : (p q : Point) → AreBounds (of_ends p q) (p ∷ q ∷ [])
bounds-ends p q =
    let least = λ (a : ℤ). end-one (λ a x. a ≤ℤ x) a (≤ℤ_refl a) in
    let greatest = λ (a : ℤ). end-one (λ a x. x ≤ℤ a) a (≤ℤ_refl a) in record {
      least_x = least-more p.x q.x (p.x ∷ []) (q.x ∷ []) (least p.x) (least q.x);
      least_y = least-more p.y q.y (p.y ∷ []) (q.y ∷ []) (least p.y) (least q.y);
      greatest_x = greatest-more p.x q.x (p.x ∷ []) (q.x ∷ []) (greatest p.x) (greatest q.x);
      greatest_y = greatest-more p.y q.y (p.y ∷ []) (q.y ∷ []) (greatest p.y) (greatest q.y);
    }

bounds-widened : (o : Option Bounds) (b : Bounds) (xs ys : List Point) → HasBounds o xs → AreBounds b ys → HasBounds (widened o b) (xs ++ ys)
bounds-widened None b xs ys none more = subst (λ l. AreBounds b (l ++ ys)) (sym none) more
bounds-widened (Some bounds) b xs ys first more = bounds-joined bounds b xs ys first more

-- a stroke more, and all of some strokes
bounds-counted : (frame : FrameValue) (made : Record) (xs : List Point) → HasBounds frame.bounds xs → HasBounds (counted frame made).bounds (xs ++ ends_of made)
bounds-counted frame (Stroke clock x0 y0 x1 y1 colour intensity) xs has =
    let from : Point = record { x = x0; y = y0 } in
    let to : Point = record { x = x1; y = y1 } in
    bounds-widened frame.bounds (of_ends from to) xs (from ∷ to ∷ []) has (bounds-ends from to)
bounds-counted frame _ xs has = subst (HasBounds frame.bounds) (sym (append-nil xs)) has

bounds-all : (frame : FrameValue) (strokes : List Record) (xs : List Point) → HasBounds frame.bounds xs
    → HasBounds (under_way frame (map stroke_of strokes)).bounds (xs ++ flat_map ends_of strokes)
unfolding under_way
bounds-all frame [] xs has = subst (HasBounds frame.bounds) (sym (append-nil xs)) has
bounds-all frame (made ∷ strokes) xs has =
    subst (HasBounds (under_way (counted frame made) (map stroke_of strokes)).bounds)
    (append_assoc xs (ends_of made) (flat_map ends_of strokes) ∙ ap (λ l. xs ++ l) (sym (flat_map-cons ends_of made strokes)))
    (bounds-all (counted frame made) strokes (xs ++ ends_of made) (bounds-counted frame made xs has))

pub frames_count_strokes : (number mark : ℕ) (strokes : List Record) → FramesCountStrokes number mark strokes
frames_count_strokes number mark strokes made = record {
  count = strokes-exact (started number mark) strokes made ∙ zero-add (length strokes);
  bounds = bounds-all (started number mark) strokes [] refl;
}
