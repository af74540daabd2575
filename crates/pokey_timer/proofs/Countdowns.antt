-- A countdown over any number of pulses, in one step.
use Rattle.std.proofs.Common.{◌≡◌, ℕ, ◌+◌, ◌-◌, ◌*◌, ◌/◌, ◌%◌, ◌<◌, ◌≤◌, ◌==◌, zero, suc, arith, refl, sym, ap, ◌∙◌, false, add-zero, add-suc}
use Rattle.std.proofs.Math.Nat.{add-sub_of_le, sub-zero, zero-mul}
use Rattle.std.proofs.lemmas.Nat.{div-add-mod'}
use Rattle.std.proofs.lemmas.Bool.Decides.{nat_tests}
use Rattle.pokey_timer.specs.Countdown.{pulse_taken, skipped}

-- a pulse that isn't the last one left is no underflow
pulse_taken-more : (period left underflows : ℕ) → 1 < left → pulse_taken period (left, underflows) ≡ (left - 1, underflows)
unfolding pulse_taken
pulse_taken-more period left underflows h =
    let more : (left - 1 == 0) ≡ false = grind (arith, nat_tests) in
    rw more

-- the last one left is
pulse_taken-last : (period underflows : ℕ) → pulse_taken period (1, underflows) ≡ (period, underflows + 1)
unfolding pulse_taken
pulse_taken-last period underflows = refl

-- fewer pulses than are left make no underflow, and each takes one
pub skipped-few : (period n left underflows : ℕ) → n < left → skipped period n (left, underflows) ≡ (left - n, underflows)
unfolding skipped
skipped-few period zero left underflows h = rw sub-zero
skipped-few period (suc n) left underflows h =
    let one_less : left - n - 1 ≡ left - suc n = omega arith in
    ap (pulse_taken period) (skipped-few period n left underflows (omega arith))
    ∙ pulse_taken-more period (left - n) underflows (omega arith)
    ∙ ap (λ (m : ℕ). (m, underflows)) one_less

-- as many as are left make one underflow, and a period begins
pub skipped-left : (period left underflows : ℕ) → 1 ≤ left → skipped period left (left, underflows) ≡ (period, underflows + 1)
unfolding skipped
skipped-left period zero underflows h = absurd (omega arith)
skipped-left period (suc n) underflows h =
    let one : suc n - n ≡ 1 = omega arith in
    ap (pulse_taken period) (skipped-few period n (suc n) underflows (omega arith) ∙ ap (λ (m : ℕ). (m, underflows)) one)
    ∙ pulse_taken-last period underflows

-- a pulses, and then b more
pub skipped-add : (period a b : ℕ) (s : ℕ × ℕ) → skipped period (a + b) s ≡ skipped period b (skipped period a s)
unfolding skipped
skipped-add period a zero s = rw add-zero
skipped-add period a (suc b) s = rw add-suc (ap (pulse_taken period) (skipped-add period a b s))

-- whole periods
pub skipped-periods : (period q underflows : ℕ) → 1 ≤ period → skipped period (q * period) (period, underflows) ≡ (period, underflows + q)
unfolding skipped
skipped-periods period zero underflows h = rw (zero-mul, add-zero)
skipped-periods period (suc q) underflows h =
    let split : suc q * period ≡ q * period + period = omega arith in
    rw split (
    skipped-add period (q * period) period (period, underflows)
    ∙ ap (skipped period period) (skipped-periods period q underflows h)
    ∙ skipped-left period period (underflows + q) h
    ∙ ap (λ (m : ℕ). (period, m)) (omega arith)
    )

pub skipped-beyond : (period left later : ℕ) → 1 ≤ left → 1 ≤ period → skipped period (left + later) (left, 0) ≡ (period - later % period, later / period + 1)
skipped-beyond period left later one some =
    let split : left + later ≡ left + (later / period * period + later % period) = ap (λ (m : ℕ). left + m) (sym (div-add-mod' later period)) in
    rw split (
    skipped-add period left (later / period * period + later % period) (left, 0)
    ∙ ap (skipped period (later / period * period + later % period)) (skipped-left period left 0 one)
    ∙ skipped-add period (later / period * period) (later % period) (period, 0 + 1)
    ∙ ap (skipped period (later % period)) (skipped-periods period (later / period) (0 + 1) some)
    ∙ skipped-few period (later % period) period (0 + 1 + later / period) (omega arith)
    ∙ ap (λ (m : ℕ). (period - later % period, m)) (omega arith)
    )

-- as many pulses as are left, or more
pub skipped-many : (period n left : ℕ) → left ≤ n → 1 ≤ left → 1 ≤ period → skipped period n (left, 0) ≡ (period - (n - left) % period, (n - left) / period + 1)
skipped-many period n left many one some =
    ap (λ (m : ℕ). skipped period m (left, 0)) (sym (add-sub_of_le many)) ∙ skipped-beyond period left (n - left) one some

pub ruleset skips = (skipped-few, skipped-many)
