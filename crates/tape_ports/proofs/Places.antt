-- Places in a list of entries whose clocks don't fall.
use Rattle.std.proofs.Common.{◌≡◌, ℕ, ◌+◌, ◌<◌, ◌≤◌, Bool, true, false, cond, ltb, List, [], ◌∷◌, length, get_or, take, drop, refl, ap, arith}
use Rattle.std.specs.List.{All, count_by}
use Rattle.std.specs.List.Sorted.{IsPartitionPoint}
use Rattle.std.proofs.lemmas.Bool.{ltb-true, ltb-false}
use Rattle.std.proofs.lemmas.List.{length-take-le, get_or-take, get_or-drop, length-drop}
use Rattle.std.proofs.lemmas.List.Elements.{All-head, All-tail}
use Rattle.std.proofs.lemmas.List.Sums.{sum_by-cons, sum_by-take-drop}

-- where each element passes, the count is the length, and where none does, it is 0
pub count_by-all : {X : Type 0} (p : X → Bool) (xs : List X) → All (λ x. p x ≡ true) xs → count_by p xs ≡ length xs
count_by-all p [] pass = refl
count_by-all p (x ∷ xs) pass =
    let first : p x ≡ true = All-head (λ y. p y ≡ true) x xs pass in
    let rest : count_by p xs ≡ length xs = count_by-all p xs (All-tail (λ y. p y ≡ true) x xs pass) in
    omega (arith, sum_by-cons (λ y. cond (p y) 1 0) x xs, ap {B = ℕ} (λ b. cond b 1 0) first)

pub count_by-none : {X : Type 0} (p : X → Bool) (xs : List X) → All (λ x. p x ≡ false) xs → count_by p xs ≡ 0
count_by-none p [] fail = refl
count_by-none p (x ∷ xs) fail =
    let first : p x ≡ false = All-head (λ y. p y ≡ false) x xs fail in
    let rest : count_by p xs ≡ 0 = count_by-none p xs (All-tail (λ y. p y ≡ false) x xs fail) in
    omega (arith, sum_by-cons (λ y. cond (p y) 1 0) x xs, ap {B = ℕ} (λ b. cond b 1 0) first)

-- a place up to which each element is below t, and from which none is
pub record Parts {X : Type 0} (n : X → ℕ) (t : ℕ) (xs : List X) (i : ℕ) : Type 0 where
  pub within : i ≤ length xs
  pub below : All (λ x. n x < t) (take i xs)
  pub above : All (λ x. t ≤ n x) (drop i xs)
  pub count : count_by (λ x. ltb (n x) t) xs ≡ i

pub parts_from_point : {X : Type 0} (n : X → ℕ) (t : ℕ) (xs : List X) (i : ℕ) → i ≤ length xs
    → IsPartitionPoint (λ x. ltb (n x) t ≡ true) (λ x. ltb (n x) t ≡ false) xs i → Parts n t xs i
parts_from_point {X} n t xs i within point =
    let pass : All (λ x. ltb (n x) t ≡ true) (take i xs) = λ k d inside. let low : k < i = omega (arith, length-take-le i xs within) in rw get_or-take (point.0 k d (omega arith) low) in
    let fail : All (λ x. ltb (n x) t ≡ false) (drop i xs) = λ k d inside. rw get_or-drop (point.1 (i + k) d (omega arith) (omega (arith, length-drop i xs))) in
    record {
      within = within;
      below = λ k d inside. ltb-true (n (get_or (take i xs) k d)) t (pass k d inside);
      above = λ k d inside. ltb-false (n (get_or (drop i xs) k d)) t (fail k d inside);
      count = omega (
        arith,
        sum_by-take-drop (λ x. cond (ltb (n x) t) 1 0) xs i,
        count_by-all (λ x. ltb (n x) t) (take i xs) pass,
        count_by-none (λ x. ltb (n x) t) (drop i xs) fail,
        length-take-le i xs within,
      );
    }

pub ruleset places = (parts_from_point)
