-- Where no device lags, each is at the board's clock.
use Rattle.std.proofs.Common.{◌≡◌, ℕ, ◌≤◌, List, [], ◌∷◌, ◌++◌, length, refl, arith}
use Rattle.std.proofs.lemmas.Bool.Decides.{nat_tests}
use Rattle.board_base.specs.declared.record.Record.{Record}
use Rattle.catchup_devices.specs.Lags.{lags}

-- a device that isn't moved up to the clock lags
pub level-of : (done clock : ℕ) → done ≤ clock → lags done clock ≡ 0 → done ≡ clock
level-of done clock h none = grind (arith, nat_tests)

-- and one that is doesn't
pub lags-level : (done clock : ℕ) → done ≡ clock → lags done clock ≡ 0
lags-level done clock h = grind (arith, nat_tests)

-- a trail is empty where it is with what a lag would add
pub front-empty : (records more : List Record) → records ++ more ≡ [] → length records ≡ 0
front-empty [] more e = refl
front-empty (r ∷ records) more e = cc

pub ruleset settled = (level-of, front-empty)

pub ruleset synced = lags-level
