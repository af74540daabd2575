-- ALLPOT, a pot at a time from the last.
use Rattle.std.proofs.Common.{◌≡◌, ℕ, ◌+◌, ◌-◌, ◌*◌, ◌^◌, ◌<◌, ◌≤◌, Bool, true, false, List, [], ◌∷◌, map, length, get_or, drop, refl, arith, add-one, length-drop}
use Rattle.std.proofs.Math.Nat.{pow-succ'}
use Rattle.std.proofs.Math.Pow.{pow_mono}
use Rattle.std.proofs.Math.Seq.{drop-cons}
use Rattle.std.specs.Int.{from_bool}
use Rattle.bit_words.specs.Bits.{number}

-- the number of the bits that a test gives from a place on
pub number_from : (f : ℕ → Bool) (xs : List ℕ) (n : ℕ) → n < length xs
    → number (map f (drop n xs)) ≡ from_bool (f (get_or xs n 0)) + 2 * number (map f (drop (n + 1) xs))
number_from f xs n h = rw (add-one, drop-cons xs n 0) refl

doubled : (b : Bool) (n m : ℕ) → n < m → from_bool b + 2 * n < 2 * m
doubled true n m h = omega arith
doubled false n m h = omega arith

pub number_fits : (f : ℕ → Bool) (xs : List ℕ) → number (map f xs) < 2 ^ length xs
number_fits f [] = omega arith
number_fits f (x ∷ xs) = rw pow-succ' (doubled (f x) (number (map f xs)) (2 ^ length xs) (number_fits f xs))

-- seven bits
pub seven : (f : ℕ → Bool) (xs : List ℕ) (n : ℕ) → length xs ≡ 8 → n < 8 → number (map f (drop (8 - n) xs)) < 128
seven f xs n e h =
    let few : length (drop (8 - n) xs) ≤ 7 = omega (arith, length-drop (8 - n) xs) in
    let most : 2 ^ length (drop (8 - n) xs) ≤ 2 ^ 7 = pow_mono few in
    omega (arith, number_fits f (drop (8 - n) xs))

-- one place further to the front
pub one_more : (f : ℕ → Bool) (xs : List ℕ) (n : ℕ) → length xs ≡ 8 → n < 8
    → number (map f (drop (8 - (n + 1)) xs)) ≡ 2 * number (map f (drop (8 - n) xs)) + from_bool (f (get_or xs (7 - n) 0))
one_more f xs n e h =
    let at : 8 - (n + 1) ≡ 7 - n = omega arith in
    let next : (7 - n) + 1 ≡ 8 - n = omega arith in
    let here : 7 - n < length xs = omega arith in
    rw at (omega (arith, rw next at (number_from f xs (7 - n) here)))

pub ruleset pots = (seven, one_more)
