-- The entries of a clock stand next to one another.
use Rattle.std.proofs.Common.{◌≡◌, ℕ, ◌+◌, ◌-◌, ◌<◌, ◌≤◌, true, false, cond, eqb, ltb, List, [], ◌∷◌, get_or, take, refl, sym, ap, ◌∙◌, arith, inl, inr}
use Rattle.std.specs.List.{All, count_by, filter, slice_range}
use Rattle.std.specs.List.Sorted.{IsNonDecreasingBy}
use Rattle.std.proofs.lemmas.Bool.{cases_lt, eq-eqb, le-ltb, lt-ltb, ne_eqb}
use Rattle.std.proofs.lemmas.List.Elements.{All-cons, All-head, All-tail}
use Rattle.std.proofs.lemmas.List.Sorted.{IsNonDecreasingBy-drop}
use Rattle.std.proofs.lemmas.List.Sums.{sum_by-cons}
use Rattle.tape_ports.proofs.Places.{count_by-none}
use Rattle.tape_ports.specs.declared.entry.TapeEntry.{TapeEntry}
use Rattle.tape_ports.specs.Due.{AreTogether}

-- all later elements are no lower than the first
later : {X : Type 0} (n : X → ℕ) (x : X) (xs : List X) → IsNonDecreasingBy n (x ∷ xs) → All (λ y. n x ≤ n y) xs
later n x xs rising = λ k d inside. rising 0 (Prim.Native.Nat.suc k) d (omega arith) (omega arith)

filter_none : {X : Type 0} (n : X → ℕ) (t : ℕ) (xs : List X) → All (λ y. t < n y) xs → filter (λ y. eqb (n y) t) xs ≡ []
filter_none n t [] above = refl
filter_none n t (x ∷ xs) above =
    let other : eqb (n x) t ≡ false = ne_eqb (n x) t (λ e. let high : t < n x = All-head (λ y. t < n y) x xs above in absurd (omega arith)) in
    let rest : filter (λ y. eqb (n y) t) xs ≡ [] = filter_none n t xs (All-tail (λ y. t < n y) x xs above) in
    rw other rest

module _ {X : Type 0} (n : X → ℕ) where
  below : ℕ → List X → ℕ
  below t xs = count_by (λ x. ltb (n x) t) xs

  below-nil : (t : ℕ) → below t [] ≡ 0
  unfolding below
  below-nil t = refl

  below-yes : (t : ℕ) (x : X) (xs : List X) → n x < t → below t (x ∷ xs) ≡ Prim.Native.Nat.suc (below t xs)
  unfolding below
  below-yes t x xs low =
      let yes : ◌≡◌ {A = ℕ} (cond (ltb (n x) t) 1 0) 1 = rw (lt-ltb (n x) t low) refl in
      omega (arith, sum_by-cons (λ y. cond (ltb (n y) t) 1 0) x xs, yes)

  below-none : (t : ℕ) (xs : List X) → All (λ y. t ≤ n y) xs → below t xs ≡ 0
  unfolding below
  below-none t xs above = count_by-none (λ y. ltb (n y) t) xs (λ k d inside. le-ltb (n (get_or xs k d)) t (above k d inside))

  -- in a list that doesn't fall, the elements at t stand from the place of t to that of t + 1
  filter-rising : (t : ℕ) (xs : List X) → IsNonDecreasingBy n xs → filter (λ x. eqb (n x) t) xs ≡ slice_range xs (below t xs) (below (t + 1) xs)
  filter-rising t [] rising = rw (below-nil t, below-nil (t + 1)) refl
  filter-rising t (x ∷ xs) rising =
      let rest : filter (λ y. eqb (n y) t) xs ≡ slice_range xs (below t xs) (below (t + 1) xs) =
      filter-rising t xs (IsNonDecreasingBy-drop n 1 (x ∷ xs) rising) in
      elim (cases_lt (n x) t) [
        | inl low ↦
            let other : eqb (n x) t ≡ false = ne_eqb (n x) t (λ e. absurd (omega arith)) in
            let gap : Prim.Native.Nat.suc (below (t + 1) xs) - Prim.Native.Nat.suc (below t xs) ≡ below (t + 1) xs - below t xs = omega arith in
            rw (other, below-yes t x xs low, below-yes (t + 1) x xs (omega arith), gap) rest
        | inr high ↦
            let none : below t (x ∷ xs) ≡ 0
            = below-none t (x ∷ xs) (All-cons (λ y. t ≤ n y) x xs high (λ k d inside. let up : n x ≤ n (get_or xs k d) = later n x xs rising k d inside in omega arith)) in
            let none_later : below t xs ≡ 0 = below-none t xs (λ k d inside. let up : n x ≤ n (get_or xs k d) = later n x xs rising k d inside in omega arith) in
            elim (cases_lt t (n x)) [
              | inl above ↦
                  let all_above : All (λ y. t < n y) (x ∷ xs) = All-cons (λ y. t < n y) x xs above (λ k d inside. let up : n x ≤ n (get_or xs k d) = later n x xs rising k d inside in omega arith) in
                  let none_next : below (t + 1) (x ∷ xs) ≡ 0 = below-none (t + 1) (x ∷ xs) (λ k d inside. let up : t < n (get_or (x ∷ xs) k d) = all_above k d inside in omega arith) in
                  let nothing : slice_range (x ∷ xs) (below t (x ∷ xs)) (below (t + 1) (x ∷ xs)) ≡ [] = rw (none, none_next) refl in
                  filter_none n t (x ∷ xs) all_above ∙ sym nothing
              | inr level ↦
                  let same : eqb (n x) t ≡ true = eq-eqb (n x) t (omega arith) in
                  let whole : below (t + 1) xs - 0 ≡ below (t + 1) xs = omega arith in
                  let one_more : Prim.Native.Nat.suc (below (t + 1) xs) - 0 ≡ Prim.Native.Nat.suc (below (t + 1) xs) = omega arith in
                  let here : filter (λ y. eqb (n y) t) xs ≡ take (below (t + 1) xs) xs = rest ∙ rw (none_later, whole) refl in
                  rw (same, none, below-yes (t + 1) x xs (omega arith), one_more) (ap (λ ys. x ∷ ys) here)
            ]
      ]

-- the entries of a clock are those from its place up to the place of the next clock
pub due_at-rising : (clock : ℕ) (entries : List TapeEntry) → AreTogether clock entries
unfolding below
due_at-rising clock entries rising = filter-rising (λ entry. entry.clock) clock entries rising

pub ruleset entries_together = due_at-rising
