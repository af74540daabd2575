-- A divider that lags by less than the clocks to its next wrap: its phase alone moves.
use Rattle.std.proofs.Common.{◌≡◌, ℕ, ◌+◌, ◌<◌, ◌==◌, false, zero, suc, refl, sym, ap, ◌∙◌, arith, add-zero}
use Rattle.std.proofs.lemmas.Bool.{ne_eqb}
use Rattle.board_base.specs.declared.divider.TheConstants.{DIVIDER_PERIOD}
use Rattle.board_base.specs.Divider.{DividerValue}
use Rattle.board_base.specs.Ticks.{ticks, times}
use Rattle.board_base.proofs.TickLaws.{times-add}
use Rattle.irq_watchdog.specs.Tick.{divider_tick, acknowledged, watchdog_cleared, reset_taken}

tick-quiet : (d : DividerValue) → d.phase + 1 < DIVIDER_PERIOD → divider_tick d ≡ record d { phase = d.phase + 1 }
unfolding divider_tick
tick-quiet d h =
    let other : (d.phase + 1 == DIVIDER_PERIOD) ≡ false = ne_eqb (d.phase + 1) DIVIDER_PERIOD (λ e. absurd (omega arith)) in
    rw other refl

pub times-quiet : (n : ℕ) (d : DividerValue) → d.phase + n < DIVIDER_PERIOD → times divider_tick n d ≡ record d { phase = d.phase + n }
unfolding ticks
times-quiet zero d h = rw add-zero refl
times-quiet (suc n) d h =
    let before : times divider_tick n d ≡ record d { phase = d.phase + n } = times-quiet n d (omega arith) in
    let e : d.phase + n + 1 ≡ d.phase + suc n = omega arith in
    ap divider_tick before ∙ tick-quiet (record d { phase = d.phase + n }) (omega arith) ∙ ap (λ p. record d { phase = p }) e

pub phase-quiet : (n : ℕ) (d : DividerValue) → d.phase + n < DIVIDER_PERIOD → (times divider_tick n d).phase ≡ d.phase + n
phase-quiet n d h = ap (λ (e : DividerValue). e.phase) (times-quiet n d h)

pub irq-quiet : (n : ℕ) (d : DividerValue) → d.phase + n < DIVIDER_PERIOD → (times divider_tick n d).irq ≡ d.irq
irq-quiet n d h = ap (λ (e : DividerValue). e.irq) (times-quiet n d h)

pub pending-quiet : (n : ℕ) (d : DividerValue) → d.phase + n < DIVIDER_PERIOD → (times divider_tick n d).pending ≡ d.pending
pending-quiet n d h = ap (λ (e : DividerValue). e.pending) (times-quiet n d h)

pub ruleset lines = (phase-quiet, irq-quiet, pending-quiet)

-- the same after one tick more
times-after : (n : ℕ) (d : DividerValue) → d.phase + n + 1 < DIVIDER_PERIOD → divider_tick (times divider_tick n d) ≡ record d { phase = d.phase + n + 1 }
times-after n d h =
    ap divider_tick (times-quiet n d (omega arith)) ∙ tick-quiet (record d { phase = d.phase + n }) (omega arith)

pub irq-after : (n : ℕ) (d : DividerValue) → d.phase + n + 1 < DIVIDER_PERIOD → (divider_tick (times divider_tick n d)).irq ≡ d.irq
irq-after n d h = ap (λ (e : DividerValue). e.irq) (times-after n d h)

pub pending-after : (n : ℕ) (d : DividerValue) → d.phase + n + 1 < DIVIDER_PERIOD → (divider_tick (times divider_tick n d)).pending ≡ d.pending
pending-after n d h = ap (λ (e : DividerValue). e.pending) (times-after n d h)

pub ruleset next_lines = (irq-after, pending-after)

-- and after more ticks
pub irq-later : (m n : ℕ) (d : DividerValue) → d.phase + (m + n) + 1 < DIVIDER_PERIOD
    → (divider_tick (times divider_tick n (times divider_tick m d))).irq ≡ d.irq
irq-later m n d h = ap (λ e. (divider_tick e).irq) (sym (times-add divider_tick m n d)) ∙ irq-after (m + n) d h

-- what is done to its interrupt, its watchdog and its reset may be done before those ticks
pub acknowledged-before : (n : ℕ) (d : DividerValue) → d.phase + n < DIVIDER_PERIOD → times divider_tick n (acknowledged d) ≡ acknowledged (times divider_tick n d)
acknowledged-before n d h = times-quiet n (acknowledged d) h ∙ ap acknowledged (sym (times-quiet n d h))

pub cleared-before : (n : ℕ) (d : DividerValue) → d.phase + n < DIVIDER_PERIOD → times divider_tick n (watchdog_cleared d) ≡ watchdog_cleared (times divider_tick n d)
cleared-before n d h = times-quiet n (watchdog_cleared d) h ∙ ap watchdog_cleared (sym (times-quiet n d h))

pub taken-before : (n : ℕ) (d : DividerValue) → d.phase + n < DIVIDER_PERIOD → times divider_tick n (reset_taken d) ≡ reset_taken (times divider_tick n d)
taken-before n d h = times-quiet n (reset_taken d) h ∙ ap reset_taken (sym (times-quiet n d h))

pub ruleset latches = (phase-quiet, irq-quiet, pending-quiet, acknowledged-before, cleared-before, taken-before)
