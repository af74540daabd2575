-- The divider after any number of ticks, in one step.
use Rattle.std.proofs.Common.{◌≡◌, ℕ, ◌+◌, ◌/◌, ◌%◌, ◌<◌, ◌||◌, nat_le, if◌then◌else◌, zero, suc, arith, ap, sym, ◌∙◌}
use Rattle.std.proofs.lemmas.Bool.Decides.{nat_tests}
use Rattle.board_base.specs.declared.divider.TheConstants.{DIVIDER_PERIOD, WATCHDOG_WRAPS}
use Rattle.board_base.specs.declared.divider.Pending.TheVariants.{Watchdog}
use Rattle.board_base.specs.Divider.{DividerValue, IsDivider}
use Rattle.board_base.specs.Ticks.{ticks, times}
use Rattle.irq_watchdog.specs.Tick.{divider_tick, wrapped}

-- the wraps of n ticks
abbrev pub wraps : ℕ → DividerValue → ℕ
wraps n d = (d.phase + n) / DIVIDER_PERIOD

-- the divider after n ticks, computed
unfoldable pub divided : ℕ → DividerValue → DividerValue
divided n d = record {
  phase = (d.phase + n) % DIVIDER_PERIOD;
  irq = d.irq || nat_le 1 (wraps n d);
  dog = (d.dog + wraps n d) % WATCHDOG_WRAPS;
  pending = if nat_le WATCHDOG_WRAPS (d.dog + wraps n d) then Watchdog else d.pending;
}

divided-zero : (d : DividerValue) → IsDivider d → divided 0 d ≡ d
unfolding divided
divided-zero d h = grind (arith, nat_tests)

divided-suc : (n : ℕ) (d : DividerValue) → IsDivider d → divided (suc n) d ≡ divider_tick (divided n d)
unfolding divided divider_tick wrapped
divided-suc n d h = grind (arith, nat_tests)

-- n ticks are one step
pub divided-times : (n : ℕ) (d : DividerValue) → IsDivider d → divided n d ≡ times divider_tick n d
unfolding ticks
divided-times zero d h = divided-zero d h
divided-times (suc n) d h = divided-suc n d h ∙ ap divider_tick (divided-times n d h)

-- whole rounds first
pub wraps-rounds : (phase n : ℕ) → (phase + n) / DIVIDER_PERIOD ≡ n / DIVIDER_PERIOD + (phase + n % DIVIDER_PERIOD) / DIVIDER_PERIOD
wraps-rounds phase n = omega arith

pub phase-rounds : (phase n : ℕ) → (phase + n) % DIVIDER_PERIOD ≡ (phase + n % DIVIDER_PERIOD) % DIVIDER_PERIOD
phase-rounds phase n = omega arith

pub ruleset rounds = (wraps-rounds, phase-rounds)

pub ruleset moves = divided-times

-- n ticks without a wrap count the phase alone
divided-within : (n : ℕ) (d : DividerValue) → IsDivider d → d.phase + n < DIVIDER_PERIOD → divided n d ≡ record d { phase = d.phase + n }
unfolding divided
divided-within n d h within = grind (arith, nat_tests)

pub times-within : (n : ℕ) (d : DividerValue) → IsDivider d → d.phase + n < DIVIDER_PERIOD → record d { phase = d.phase + n } ≡ times divider_tick n d
times-within n d h within = sym (divided-within n d h within) ∙ divided-times n d h

pub ruleset moves_within_a_round = times-within
