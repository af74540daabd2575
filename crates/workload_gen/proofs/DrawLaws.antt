-- Numbers and draws, one after another.
use Rattle.std.proofs.Common.{◌≡◌, ℕ, ◌+◌, zero, length, drop, refl, ap, ◌∙◌, suc-add, zero-add}
use Rattle.workload_gen.specs.Draws.{draws_of, next_of, number_after}

pub number_after-add : (n m number : ℕ) → number_after number (n + m) ≡ number_after (number_after number n) m
unfolding number_after
number_after-add zero m number = ap (λ count. number_after number count) (zero-add m)
number_after-add (Prim.Native.Nat.suc n) m number = ap (λ count. number_after number count) (suc-add n m) ∙ number_after-add n m (next_of number)

pub length-draws_of : (count number : ℕ) → length (draws_of number count) ≡ count
unfolding draws_of
length-draws_of zero number = refl
length-draws_of (Prim.Native.Nat.suc count) number = ap (λ n. Prim.Native.Nat.suc n) (length-draws_of count (next_of number))

-- the draws behind the first ones are those of the number that they leave
pub drop-draws_of : (n m number : ℕ) → drop n (draws_of number (n + m)) ≡ draws_of (number_after number n) m
unfolding draws_of number_after
drop-draws_of zero m number = ap (λ count. draws_of number count) (zero-add m)
drop-draws_of (Prim.Native.Nat.suc n) m number =
    ap (λ count. drop (Prim.Native.Nat.suc n) (draws_of number count)) (suc-add n m) ∙ drop-draws_of n m (next_of number)
