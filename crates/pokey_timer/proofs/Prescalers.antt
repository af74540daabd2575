-- A prescaler over any number of ticks, in one step.
use Rattle.std.proofs.Common.{◌≡◌, ℕ, ◌+◌, ◌-◌, ◌*◌, ◌/◌, ◌%◌, ◌<◌, ◌≤◌, zero, suc, arith, sym, ap, ◌∙◌, add-zero, add-suc}
use Rattle.std.proofs.Math.Nat.{add-sub_of_le, div-lt_iff_lt-mul, mod-eq_of_lt, mul-add-mod_self_right, mul-div_left, mul-le-mul_right}
use Rattle.std.proofs.lemmas.Bool.Decides.{nat_tests}
use Rattle.std.proofs.lemmas.Nat.{div-mul-add}
use Rattle.std.specs.Int.{from_bool}
use Rattle.pokey_timer.specs.Prescaler.{counted, pulsed, count_after, pulses}

pub counted-lt : (period count : ℕ) → count < period → counted period count < period
unfolding counted
counted-lt period count h = grind (arith, nat_tests)

-- a tick moves the count on by 1, and a pulse takes a period from it
pub counted-sum : (period count : ℕ) → from_bool (pulsed period count) * period + counted period count ≡ count + 1
unfolding counted pulsed
counted-sum period count = grind (arith, nat_tests)

-- n ticks later
pub count_after-lt : (period count n : ℕ) → count < period → count_after period count n < period
unfolding count_after
count_after-lt period count zero h = h
count_after-lt period count (suc n) h = counted-lt period (count_after period count n) (count_after-lt period count n h)

-- n ticks move the count on by n, and each pulse takes a period from it
pub pulses-sum : (period count n : ℕ) → pulses period count n * period + count_after period count n ≡ count + n
unfolding pulses count_after
pulses-sum period count zero = omega arith
pulses-sum period count (suc n) =
    let before = pulses-sum period count n in
    let tick = counted-sum period (count_after period count n) in
    omega arith

-- the pulses and the count, computed
pub pulses-div : (period count n : ℕ) → count < period → pulses period count n ≡ (count + n) / period
pulses-div period count n h =
    sym (div-mul-add (pulses period count n) period (count_after period count n) (count_after-lt period count n h))
    ∙ ap (λ (m : ℕ). m / period) (pulses-sum period count n)

pub count_after-mod : (period count n : ℕ) → count < period → count_after period count n ≡ (count + n) % period
count_after-mod period count n h =
    sym (mul-add-mod_self_right (pulses period count n) period (count_after period count n) ∙ mod-eq_of_lt (count_after-lt period count n h))
    ∙ ap (λ (m : ℕ). m % period) (pulses-sum period count n)

pub ruleset rounds = (pulses-div, count_after-mod, count_after-lt)

-- left periods less the count are the ticks that give this many pulses
pub pulses-reached : (period count left : ℕ) → count < period → 1 ≤ left → pulses period count (left * period - count) ≡ left
pulses-reached period count left h one =
    let enough : 1 * period ≤ left * period = mul-le-mul_right period one in
    let all : count + (left * period - count) ≡ left * period = omega arith in
    pulses-div period count (left * period - count) h ∙ ap (λ (m : ℕ). m / period) all ∙ mul-div_left left (omega arith)

pub pulses-before : (period count left n : ℕ) → count < period → n < left * period - count → pulses period count n < left
pulses-before period count left n h early =
    let few : count + n < left * period = omega arith in
    rw (pulses-div period count n h) ((div-lt_iff_lt-mul {k = period} {x = count + n} {y = left} (omega arith)).1 few)

pub ruleset waits = (pulses-reached, pulses-before)

-- a ticks, and then b more
pub count_after-add : (period count a b : ℕ) → count_after period count (a + b) ≡ count_after period (count_after period count a) b
unfolding count_after
count_after-add period count a zero = rw add-zero
count_after-add period count a (suc b) = rw add-suc (ap (counted period) (count_after-add period count a b))

pub pulses-add : (period count a b : ℕ) → pulses period count (a + b) ≡ pulses period count a + pulses period (count_after period count a) b
unfolding pulses count_after
pulses-add period count a zero = rw (add-zero (pulses period count a), add-zero a)
pulses-add period count a (suc b) =
    let before = pulses-add period count a b in
    rw (add-suc, count_after-add period count a b) (omega arith)

-- more ticks give no fewer pulses
pub pulses-grow : (period count a b : ℕ) → a ≤ b → pulses period count a ≤ pulses period count b
pulses-grow period count a b h =
    let split : pulses period count b ≡ pulses period count (a + (b - a)) = ap (pulses period count) (sym (add-sub_of_le h)) in
    omega (arith, pulses-add period count a (b - a))
