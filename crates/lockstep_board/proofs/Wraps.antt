-- The divider's phase, step by step: a run that comes to a wrap has counted it.
use Rattle.std.proofs.Common.{◌≡◌, ℕ, ◌+◌, ◌-◌, ◌<◌, ◌≤◌, ◌==◌, if◌then◌else◌, Bool, true, false, List, zero, suc, refl, ap, ◌∙◌, arith}
use Rattle.std.specs.Int.{from_bool}
use Rattle.std.proofs.lemmas.Bool.{cond_both, eqb-false}
use Rattle.std.proofs.lemmas.Bool.Decides.{nat_tests}
use Rattle.board_base.specs.declared.divider.TheConstants.{DIVIDER_PERIOD, WATCHDOG_WRAPS}
use Rattle.board_base.specs.Divider.{DividerValue}
use Rattle.irq_watchdog.specs.Tick.{divider_tick, wrapped}
use Rattle.tape_ports.specs.declared.entry.TapeEntry.{TapeEntry}
use Rattle.tape_ports.specs.Due.{due_at}
use Rattle.lockstep_board.specs.Budget.{counted, wraps}
use Rattle.lockstep_board.specs.Peripherals.{Peripherals, applied, ticked, devices_ticked}
use Rattle.lockstep_board.specs.Lockstep.{Board, step}
use Rattle.lockstep_board.specs.Run.{stepped}
use Rattle.lockstep_board.proofs.Clocks.{applied-kept, after_access-is}
use Rattle.lockstep_board.proofs.Runs.{stepped-keeps}

pub applied-divider : (es : List TapeEntry) (w : Peripherals) → (applied es w).divider ≡ w.divider
applied-divider es w = ap (λ k. k.1) (applied-kept es w)

-- the phase one clock later: 0 after a wrap, and else one more
abbrev next_phase : Bool → ℕ → ℕ
next_phase wraps phase = if wraps then 0 else phase + 1

wrapped-phase : (d : DividerValue) → (wrapped d).phase ≡ 0
unfolding wrapped
wrapped-phase d = cond_both (d.dog + 1 == WATCHDOG_WRAPS) _ _ (λ (r : DividerValue). r.phase ≡ 0) (λ _. refl) (λ _. refl)

tick-phase : (d : DividerValue) (wraps : Bool) → (d.phase + 1 == DIVIDER_PERIOD) ≡ wraps → (divider_tick d).phase ≡ next_phase wraps d.phase
unfolding divider_tick
tick-phase d true e = rw e (wrapped-phase d)
tick-phase d false e = rw e refl

-- a step moves the phase by the divider's tick, and by nothing else
step-phase : (entries : List TapeEntry) (b : Board) → (step entries b).peripherals.divider.phase ≡ next_phase (b.peripherals.divider.phase + 1 == DIVIDER_PERIOD) b.peripherals.divider.phase
unfolding step ticked devices_ticked
step-phase entries b =
    ap (λ k. k.1) (after_access-is b.cpu.mid b.cpu (ticked entries b.peripherals)).adds.same
    ∙ ap (λ d. (divider_tick d).phase) (applied-divider (due_at b.peripherals.clock entries) b.peripherals) ∙ tick-phase b.peripherals.divider _ refl

next-below : (phase : ℕ) → phase < DIVIDER_PERIOD → next_phase (phase + 1 == DIVIDER_PERIOD) phase < DIVIDER_PERIOD
next-below phase h = grind (arith, nat_tests)

-- the phase stays below its period
pub phase-in_range : (entries : List TapeEntry) (n : ℕ) (b : Board) → b.peripherals.divider.phase < DIVIDER_PERIOD → (stepped entries n b).peripherals.divider.phase < DIVIDER_PERIOD
phase-in_range entries n b h = stepped-keeps entries (λ c. c.peripherals.divider.phase < DIVIDER_PERIOD) (λ c k. rw (step-phase entries c) (next-below c.peripherals.divider.phase k)) n b h

count-by_wrap : (phase rest next n : ℕ) (wrapped : Bool) → (phase + 1 == DIVIDER_PERIOD) ≡ wrapped → next ≡ next_phase wrapped phase
    → phase < DIVIDER_PERIOD → DIVIDER_PERIOD - phase ≤ suc n → (next < DIVIDER_PERIOD → DIVIDER_PERIOD - next ≤ n → 1 ≤ rest) → 1 ≤ from_bool wrapped + rest
count-by_wrap phase rest next n true e after h far later = omega arith
count-by_wrap phase rest next n false e after h far later = let other = eqb-false (phase + 1) DIVIDER_PERIOD e in let more = later (omega arith) (omega arith) in omega arith

-- so many steps as there are clocks to the next wrap, or more, have a wrap
pub wrap-counted : (entries : List TapeEntry) (n : ℕ) (b : Board) → b.peripherals.divider.phase < DIVIDER_PERIOD
    → DIVIDER_PERIOD - b.peripherals.divider.phase ≤ n → 1 ≤ counted entries (λ c. wraps c.peripherals) n b
unfolding counted
wrap-counted entries zero b h far = absurd (omega arith)
wrap-counted entries (suc n) b h far =
    count-by_wrap b.peripherals.divider.phase (counted entries (λ c. wraps c.peripherals) n (step entries b)) (step entries b).peripherals.divider.phase n _ refl
    (step-phase entries b) h far (wrap-counted entries n (step entries b))

pub ruleset wrap_laws = (phase-in_range, wrap-counted)
