-- The EAROM after any number of clocks, in one step.
use Rattle.std.proofs.Common.{◌≡◌, ℕ, ◌+◌, ◌<◌, ◌≤◌, true, false, ◌&&◌, nat_lt, zero, suc, arith, refl, ap, ◌∙◌, add-zero, sym, if◌then◌else◌}
use Rattle.std.proofs.lemmas.Bool.Decides.{nat_tests}
use Rattle.board_base.specs.declared.earom.TheConstants.{HOLD_CLOCKS}
use Rattle.board_base.specs.Earom.{EaromValue}
use Rattle.board_base.specs.Ticks.{ticks, times}
use Rattle.earom_cells.specs.Tick.{earom_tick, held_on, completed, is_held}

-- a hold that isn't complete after n clocks more goes on, and else it is complete
unfoldable pub held_for : ℕ → EaromValue → EaromValue
held_for n e = if nat_lt (e.hold + n) HOLD_CLOCKS then record e { hold = e.hold + n } else completed e

-- the EAROM after n clocks, computed
unfoldable pub moved_by : ℕ → EaromValue → EaromValue
moved_by n e = if is_held e.control && nat_lt e.hold HOLD_CLOCKS then held_for n e else e

moved_by-zero : (e : EaromValue) → moved_by 0 e ≡ e
unfolding moved_by held_for
moved_by-zero e = grind (arith, nat_tests, add-zero)

moved_by-suc : (n : ℕ) (e : EaromValue) → moved_by (suc n) e ≡ earom_tick (moved_by n e)
unfolding moved_by held_for earom_tick held_on
moved_by-suc n e = grind (arith, nat_tests)

-- n clocks are one step
pub moved_by-times : (n : ℕ) (e : EaromValue) → moved_by n e ≡ times earom_tick n e
unfolding ticks
moved_by-times zero e = moved_by-zero e
moved_by-times (suc n) e = moved_by-suc n e ∙ ap earom_tick (moved_by-times n e)

pub ruleset moves = moved_by-times

-- nothing is held
pub unheld : (n : ℕ) (e : EaromValue) → is_held e.control ≡ false → times earom_tick n e ≡ e
unfolding moved_by
unheld n e h = sym (moved_by-times n e) ∙ rw h refl

-- the hold is complete
pub rested : (n : ℕ) (e : EaromValue) → HOLD_CLOCKS ≤ e.hold → times earom_tick n e ≡ e
unfolding moved_by
rested n e h = sym (moved_by-times n e) ∙ grind (arith, nat_tests)

-- the hold isn't complete after n clocks
pub holding : (n : ℕ) (e : EaromValue) → is_held e.control ≡ true → e.hold + n < HOLD_CLOCKS
    → times earom_tick n e ≡ record e { hold = e.hold + n }
unfolding moved_by held_for
holding n e h less = sym (moved_by-times n e) ∙ grind (arith, nat_tests)

-- the hold is complete within n clocks
pub completing : (n : ℕ) (e : EaromValue) → is_held e.control ≡ true → e.hold < HOLD_CLOCKS → HOLD_CLOCKS ≤ e.hold + n
    → times earom_tick n e ≡ completed e
unfolding moved_by held_for
completing n e h less enough = sym (moved_by-times n e) ∙ grind (arith, nat_tests)
