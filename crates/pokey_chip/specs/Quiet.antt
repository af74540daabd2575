-- How long a POKEY makes no request.
use Rattle.std.specs.Prelude.{◌≡◌, ◌≢◌, ℕ, ◌<◌, Bool, false, not, ◌==◌, nat_le, Option, Some, None}
use Rattle.board_base.specs.Pokey.{PokeyValue}
use Rattle.board_base.specs.Ticks.{times}
use Rattle.pokey_chip.specs.Tick.{pokey_tick}

-- IRQST after n clocks in which no register is written
abbrev pub requests_after : ℕ → PokeyValue → ℕ
requests_after n p = (times pokey_tick n p).irqst

-- no request ever stands
abbrev pub IsEverQuiet : PokeyValue → Type 0
IsEverQuiet p = (n : ℕ) → requests_after n p ≡ 7

-- after n clocks a request stands, and after fewer none does
pub record IsQuietBefore (p : PokeyValue) (n : ℕ) : Type 0 where
  pub stands : requests_after n p ≢ 7
  pub before : (k : ℕ) → k < n → requests_after k p ≡ 7

-- whether an answer comes within so many clocks
abbrev pub comes_within : ℕ → Option ℕ → Bool
comes_within lag None = false
comes_within lag (Some n) = nat_le n lag

-- after each number of clocks a request stands exactly where the answer isn't above that number
abbrev pub AnswersEachLag : PokeyValue → Option ℕ → Type 0
AnswersEachLag p answer = (lag : ℕ) → (requests_after lag p == 7) ≡ not (comes_within lag answer)
