use mathlib.Core.Bool.{true≢false}
use borrow.Author.Tests.{eqb-true}
use Rattle.std.proofs.Common.{◌≡◌, ℕ, ◌<◌, ◌==◌, ◌&&◌, not, min, bit_and, Bool, true, false, List, [], ◌∷◌, get_or, refl, ap, sym, ◌∙◌, arith}
use Rattle.std.proofs.lemmas.List.Folds.{list_all_at}
use Rattle.std.proofs.lemmas.Nat.{and_le_l}
use Rattle.std.proofs.lemmas.Nat.Bits.{bit_at-lt, bit_at-zero, bit_at_and, same_from_bits_below}
use Rattle.std.specs.Int.{bit_at}
use Rattle.std.specs.List.{list_all}
use Rattle.bit_words.proofs.Tables.{same_by_table}
use Rattle.bit_words.specs.Bits.{is_bit}
use Rattle.cpu_alu.specs.Logic.{are_disjoint}

apart : (x y : ℕ) → min x y ≡ 0 → not (x == 1 && y == 1) ≡ true
apart x y e = grind arith

together : (x y : ℕ) → x < 2 → y < 2 → not (x == 1 && y == 1) ≡ true → min x y ≡ 0
together x y hx hy e = grind arith

each : (t : ℕ → Bool) → ((k : ℕ) → t k ≡ true) → (ks : List ℕ) → list_all t ks ≡ true
each t h [] = refl
each t h (k ∷ ks) = rw (h k) (each t h ks)

-- bit k is not set in both
abbrev differs_at : ℕ → ℕ → ℕ → Bool
differs_at a m k = not (is_bit a k && is_bit m k)

abbrev places : List ℕ
places = 0 ∷ 1 ∷ 2 ∷ 3 ∷ 4 ∷ 5 ∷ 6 ∷ 7 ∷ []

place : (k : ℕ) → k < 8 → get_or places k 0 ≡ k
place = same_by_table 8 (λ k. get_or places k 0) (λ k. k) refl

passes : (t : ℕ → Bool) → list_all t places ≡ true → (k : ℕ) → k < 8 → t k ≡ true
passes t all k h =
    elim (t k) as (λ b. t k ≡ b → b ≡ true) [
      | true ↦ λ e. refl
      | false ↦ λ e. absurd (true≢false (sym all ∙ list_all_at t places k 0 h (ap t (place k h) ∙ e)))
    ] refl

disjoint_if_zero : (a m : ℕ) → bit_and a m ≡ 0 → are_disjoint a m ≡ true
unfolding are_disjoint
disjoint_if_zero a m e =
    each (differs_at a m) (λ k. apart (bit_at a k) (bit_at m k) (sym (bit_at_and a m k) ∙ ap (λ n. bit_at n k) e ∙ bit_at-zero k)) places

zero_if_disjoint : (a m : ℕ) → a < 256 → are_disjoint a m ≡ true → bit_and a m ≡ 0
unfolding are_disjoint
zero_if_disjoint a m h all =
    same_from_bits_below 8 (bit_and a m) 0 (omega (arith, and_le_l a m)) (omega arith)
    (λ k below. bit_at_and a m k ∙ together (bit_at a k) (bit_at m k) (bit_at-lt a k) (bit_at-lt m k) (passes (differs_at a m) all k below) ∙ sym (bit_at-zero k))

-- the bitwise and of two bytes is 0 exactly where no bit is set in both
pub no_common_bit : (a m : ℕ) → a < 256 → (bit_and a m == 0) ≡ are_disjoint a m
no_common_bit a m h =
    elim (are_disjoint a m) as (λ d. are_disjoint a m ≡ d → (bit_and a m == 0) ≡ d) [
      | true ↦ λ all. ap (λ n. n == 0) (zero_if_disjoint a m h all)
      | false ↦ λ some.
          elim (bit_and a m == 0) as (λ b. (bit_and a m == 0) ≡ b → b ≡ false) [
            | true ↦ λ same. absurd (true≢false (sym (disjoint_if_zero a m (eqb-true (bit_and a m) 0 same)) ∙ some))
            | false ↦ λ other. refl
          ] refl
    ] refl
