-- Ticks one after another, and the records that they make: the words that each device and the board
-- share.
use Rattle.std.specs.Prelude.{ℕ, ◌+◌, List, [], ◌++◌, zero, suc}

-- the state after n ticks at the clocks from, from + 1, and so on
unfoldable pub ticks : {S : Type 0} → (ℕ → S → S) → ℕ → ℕ → S → S
ticks tick from zero s = s
ticks tick from (suc n) s = tick (from + n) (ticks tick from n s)

-- the records that these ticks give, joined in their order
unfoldable pub made : {S R : Type 0} → (ℕ → S → S) → (ℕ → S → List R) → ℕ → ℕ → S → List R
made tick gives from zero s = []
made tick gives from (suc n) s = made tick gives from n s ++ gives (from + n) (ticks tick from n s)

-- the state after n ticks that don't look at the clock
abbrev pub times : {S : Type 0} → (S → S) → ℕ → S → S
times tick n s = ticks (λ _. tick) 0 n s
