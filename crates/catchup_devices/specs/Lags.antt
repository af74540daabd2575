-- Devices that lag behind a clock. This project's own.
use Rattle.std.specs.Prelude.{◌≡◌, ℕ, ◌-◌, ◌≤◌, not, ◌==◌, nat_lt, nat_le}
use Rattle.std.specs.Int.{from_bool}
use Rattle.board_base.specs.declared.board.TheConstants.{CLOCK_END}
use Rattle.board_base.specs.Pokey.{PokeyValue}
use Rattle.pokey_chip.specs.Quiet.{requests_after}
use Rattle.std.specs.Fn.{Once}
use Rattle.std.specs.Borrow.{MutBor}

-- one for a device that was moved up to an earlier clock
abbrev pub lags : ℕ → ℕ → ℕ
lags done clock = from_bool (nat_lt done clock)

-- a POKEY that was moved up to the clock done has a request from the clock at on
abbrev pub AsksAt : ℕ → ℕ → PokeyValue → Type 0
AsksAt done at p =
    (clock : ℕ) → done ≤ clock → clock ≤ CLOCK_END → (requests_after (clock - done) p == 7) ≡ not (nat_le at clock)

-- a call at a `&mut` to x and a number of clocks, which leaves x' there
pub record MovedBy {F T : Type 0} (g : Once F (MutBor T × (ℕ × Unit {0})) (Unit {0} × (MutBor T × Unit {0}))) (f : F) (clocks : ℕ) (x x' : T) : Type 0 where
  pub shown : MutBor T
  pub shows : shown.now ≡ x
  pub left : MutBor T
  pub met : g.post f (shown, (clocks, tt)) (tt, (left, tt))
  pub leaves : left.now ≡ x'
