-- The vector RAM comes before its ROM.
use Rattle.std.proofs.Common.{◌≡◌, ℕ, List, ◌++◌, length, drop, replicate, ap}
use Rattle.std.proofs.lemmas.List.{length-replicate}
use Rattle.std.proofs.Math.Seq.{drop-append_seam}

drop-front : (n : ℕ) (front back : List ℕ) → length front ≡ n → drop n (front ++ back) ≡ back
drop-front n front back h = rw (← h) (drop-append_seam front back)

-- a RAM that is loaded takes the place of the first one
pub ram-loaded : (ram rom : List ℕ) → ram ++ drop 2048 (replicate 2048 0 ++ rom) ≡ ram ++ rom
ram-loaded ram rom = ap (λ back. ram ++ back) (drop-front 2048 (replicate 2048 0) rom (length-replicate {A = ℕ} 2048 0))

pub ruleset loads = ram-loaded
