-- The bus's clock, and the clocks in which no event is due.
use Rattle.std.proofs.Common.{◌≡◌, ◌+◌, ◌-◌, ◌≤◌, refl, arith}
use Rattle.lockstep_board.specs.Peripherals.{Peripherals}
use Rattle.catchup_engine.specs.Bus.{at_clock}

-- a clock that is done and taken back is the clock before
pub clock-back : (w : Peripherals) → at_clock (w.clock + 1 - 1) w ≡ w
clock-back w = let e : w.clock + 1 - 1 ≡ w.clock = omega arith in rw e refl

-- a clock that counts as done and is taken back and done again
pub clock-again : (w : Peripherals) → 1 ≤ w.clock → at_clock (w.clock - 1 + 1) w ≡ w
clock-again w h = let e : w.clock - 1 + 1 ≡ w.clock = omega arith in rw e refl

pub ruleset clocks = (clock-back, clock-again)

pub ruleset accesses = clock-back
