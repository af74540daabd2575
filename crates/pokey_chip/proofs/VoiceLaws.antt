-- A channel in a move: when it is due, and the clocks in which it underflows.
use Rattle.std.proofs.Common.{◌≡◌, ℕ, ◌+◌, ◌-◌, ◌*◌, ◌^◌, ◌<◌, ◌≤◌, ◌==◌, Bool, true, false, nat_le, if◌then◌else◌}
use Rattle.std.proofs.Common.{zero, suc, refl, sym, ap, ◌∙◌, arith, ◌/◌, ◌%◌, add-zero, add-suc, mul_comm}
use Rattle.std.proofs.lemmas.Bool.Decides.{nat_tests}
use Rattle.std.proofs.Math.Nat.{le-div_iff_mul-le, mul-le-mul_right, suc-mul}
use Rattle.std.specs.Int.{from_bool}
use Rattle.board_base.specs.Pokey.{PokeyValue}
use Rattle.board_base.specs.Ticks.{ticks, times}
use Rattle.pokey_timer.specs.Prescaler.{pulsed, pulses}
use Rattle.pokey_timer.proofs.Prescalers.{pulses-before, pulses-grow, pulses-reached}
use Rattle.pokey_chip.specs.declared.channel.Channel.{Channel}
use Rattle.pokey_chip.specs.declared.clock_source.ClockSource.{ClockSource}
use Rattle.pokey_chip.specs.declared.clock_source.ClockSource.TheVariants.{Never, ChipClock, By28, By114}
use Rattle.pokey_chip.specs.declared.voice.Voice.{Voice}
use Rattle.pokey_chip.specs.Moves.{due_at, pulse_at, pulse_of, step_of, IsEarly, IsTimed, IsVoice}
use Rattle.pokey_chip.specs.ClockSources.{IsClockSource, source_pulses}
use Rattle.pokey_chip.specs.Pulses.{has_pulse, pulses_of}
use Rattle.pokey_chip.specs.Tick.{base_pulses, left_of, pokey_tick, underflows}
use Rattle.pokey_chip.proofs.CountLaws.{left-is, underflow-is, left-tick}
use Rattle.pokey_chip.proofs.RegisterLaws.{audctl-kept, audf-kept}

one-more : (b : Bool) (m n : ℕ) → m ≤ n → m + from_bool b ≤ suc n
one-more b m n h = grind arith

-- no more pulses than clocks
pulses-few : (period count n : ℕ) → pulses period count n ≤ n
unfolding pulses
pulses-few period count zero = omega arith
pulses-few period count (suc n) = one-more (pulsed period _) (pulses period count n) n (pulses-few period count n)

pub source_pulses-few : (clock_source : ClockSource) (n : ℕ) → source_pulses clock_source n ≤ n
source_pulses-few clock_source n = grind (arith, pulses-few)

-- before a pulse's clock fewer pulses come, and from then on as many or more
pub early : (clock_source : ClockSource) (pulse j : ℕ) → IsClockSource clock_source → 1 ≤ pulse → j < due_at clock_source pulse → source_pulses clock_source j < pulse
early clock_source pulse j is some h = grind (arith, pulses-before)

pub late : (clock_source : ClockSource) (pulse j : ℕ) → IsClockSource clock_source → 1 ≤ pulse → j ≤ 2 ^ 49 → due_at clock_source pulse ≤ j → pulse ≤ source_pulses clock_source j
late Never pulse j is some small h = absurd (omega arith)
late ChipClock pulse j is some small h = h
late (By28 count) pulse j is some small h = omega (arith, pulses-reached 28 count pulse is some, pulses-grow 28 count (pulse * 28 - count) j h)
late (By114 count) pulse j is some small h = omega (arith, pulses-reached 114 count pulse is some, pulses-grow 114 count (pulse * 114 - count) j h)

-- where a channel is due in a clock, its pulse is no later
pub due-few : (v : Voice) (at : ℕ) → IsTimed v → at ≤ 2 ^ 49 → v.due ≡ at → pulse_of v ≤ at
due-few v at timed small e =
    let h : due_at v.clock_source (pulse_of v) ≤ at = omega (arith, timed.due) in
    omega (arith, late v.clock_source (pulse_of v) at timed.prescaler timed.some small h, source_pulses-few v.clock_source at)

-- a step later it is due with the last pulse of its next period
next-due : (clock_source : ClockSource) (pulse period : ℕ) → IsClockSource clock_source → 1 ≤ pulse → due_at clock_source pulse ≤ 2 ^ 49
    → due_at clock_source pulse + step_of clock_source period ≡ due_at clock_source (pulse + period)
next-due clock_source pulse period is some small = grind arith

pub due-again : (v : Voice) (at : ℕ) → IsTimed v → at ≤ 2 ^ 49 → v.due ≡ at → at + v.step ≡ due_at v.clock_source (pulse_of v + v.period)
due-again v at timed small e =
    let h : due_at v.clock_source (pulse_of v) ≤ 2 ^ 49 = omega (arith, timed.due) in
    omega (arith, timed.due, timed.step, next-due v.clock_source (pulse_of v) v.period timed.prescaler timed.some h)

-- and that pulse comes with the clock a step later
pub pulse-next : (clock_source : ClockSource) (due none period : ℕ) → due ≡ due_at clock_source (pulse_at clock_source due none) → due ≤ 2 ^ 49
    → pulse_at clock_source (due + step_of clock_source period) none ≡ pulse_at clock_source due none + period
pulse-next clock_source due none period e small = grind arith

-- a pulse comes with its clock
pub pulse-due : (clock_source : ClockSource) (pulse : ℕ) → IsClockSource clock_source → 1 ≤ pulse → pulse_at clock_source (due_at clock_source pulse) pulse ≡ pulse
pulse-due clock_source pulse is some = grind arith

-- a test that two numbers are equal
pub equal-by : (a b : ℕ) → (a == b) ≡ true → a ≡ b
equal-by a b e = grind (arith, nat_tests)

-- a channel after the clock `at`, in which it underflows where it is due
passed : (b : Bool) (v : Voice) (at due : ℕ) → (v.due == at) ≡ b → IsTimed v → at ≤ 2 ^ 49 → due ≡ (if b then v.due + v.step else v.due)
    → IsTimed (record v { due = due }) × (pulse_of (record v { due = due }) ≡ (if b then pulse_of v + v.period else pulse_of v))
passed false v at due other timed small e = rw e (timed, refl)
passed true v at due now timed small e =
    let here : v.due ≡ at = equal-by v.due at now in
    let early : v.due ≤ 2 ^ 49 = omega arith in
    let pulse : pulse_at v.clock_source (v.due + v.step) v.first ≡ pulse_of v + v.period
    = ap (λ (s : ℕ). pulse_at v.clock_source (v.due + s) v.first) timed.step ∙ pulse-next v.clock_source v.due v.first v.period timed.due early in
    let few : pulse_of v ≤ at = due-few v at timed small here in
    rw e (
      record {
        prescaler = timed.prescaler;
        some = omega (arith, pulse, timed.some);
        few = omega (arith, pulse, few, timed.high);
        low = timed.low;
        high = timed.high;
        step = timed.step;
        due = ap (λ (d : ℕ). d + v.step) here ∙ due-again v at timed small here ∙ ap (due_at v.clock_source) (sym pulse);
      },
      pulse,
    )

-- where the pulse is near, its clock is
pub near : (clock_source : ClockSource) (due none n : ℕ) → pulse_at clock_source due none ≤ source_pulses clock_source n + 65542 → n ≤ 2 ^ 49 → IsEarly clock_source due
near clock_source due none n few small = grind (arith, source_pulses-few)

pub ruleset passes = (due-few, due-again)

-- a channel at the start of a move
pub started : (c : Channel) (p : PokeyValue) (n : ℕ) → left_of c p ≡ n → left_of c (times pokey_tick 0 p) + pulses_of c 0 p ≡ n
unfolding ticks pulses_of
started c p n e = omega arith

pub started-left : (c : Channel) (p : PokeyValue) → left_of c (times pokey_tick 0 p) ≡ left_of c p
unfolding ticks
started-left c p = refl

pub ruleset begins = (started, started-left, pulse-due)

pub later-test : (due at : ℕ) → at < due → (due == at) ≡ false
later-test due at h = grind (arith, nat_tests)

pub now-test : (due at : ℕ) → due ≡ at → (due == at) ≡ true
now-test due at e = grind (arith, nat_tests)

module _ (c : Channel) (j : ℕ) (p : PokeyValue) (v : Voice) (is : IsVoice c j p v) (soon : suc j ≤ v.due) (small : suc j ≤ 2 ^ 49) where
  -- a channel underflows exactly in the clock in which it is due
  pub due-is : underflows (base_pulses (times pokey_tick j p)) (times pokey_tick j p) c ≡ (v.due == suc j)
  unfolding pulses_of
  due-is =
      grind (
        arith,
        nat_tests,
        early v.clock_source (pulse_of v) (suc j) is.timed.prescaler is.timed.some,
        late v.clock_source (pulse_of v) (suc j) is.timed.prescaler is.timed.some small,
        underflow-is (base_pulses (times pokey_tick j p)) (times pokey_tick j p) c,
        is.pulses_are (suc j),
        is.next,
        is.some,
        is.timed.due,
      )

  left-then : left_of c (times pokey_tick (suc j) p)
      ≡ (if has_pulse c (times pokey_tick j p) then (if nat_le (left_of c (times pokey_tick j p)) 1 then v.period else left_of c (times pokey_tick j p) - 1) else left_of c (times pokey_tick j p))
  unfolding ticks
  left-then =
      left-tick c (times pokey_tick j p)
      ∙ left-is (base_pulses (times pokey_tick j p)) (times pokey_tick j p) c
      ∙ rw (audf-kept j p, audctl-kept j p, ← is.period) refl

  -- and so it goes on after it
  pub passes-on : (due : ℕ) → due ≡ (if v.due == suc j then v.due + v.step else v.due) → IsVoice c (suc j) p (record v { due = due })
  unfolding pulses_of
  passes-on due e =
      let after : IsTimed (record v { due = due }) × (pulse_of (record v { due = due }) ≡ (if v.due == suc j then pulse_of v + v.period else pulse_of v))
      = passed (v.due == suc j) v (suc j) due refl is.timed small e in
      record {
        timed = after.0;
        pulses_are = is.pulses_are;
        period = is.period;
        next = grind (arith, nat_tests, left-then, underflow-is (base_pulses (times pokey_tick j p)) (times pokey_tick j p) c, due-is, after.1, is.next, is.some);
        some = grind (arith, nat_tests, left-then, is.some, is.timed.low);
        most = grind (arith, nat_tests, left-then, is.most, is.timed.high);
      }

-- the next underflow of a channel is later
is-later : (c : Channel) (k : ℕ) (p : PokeyValue) (v : Voice) → IsVoice c k p v → k ≤ 2 ^ 49 → k < v.due
is-later c k p v is small =
    grind (arith, late v.clock_source (pulse_of v) k is.timed.prescaler is.timed.some small, is.timed.due, is.pulses_are k, is.next, is.some)

-- the clock of the next underflow after k clocks
unfoldable pub due_in : Voice → ℕ → ℕ
due_in v zero = v.due
due_in v (suc k) = if due_in v k == suc k then due_in v k + v.step else due_in v k

-- the channel then
abbrev pub voice_in : Voice → ℕ → Voice
voice_in v k = record v { due = due_in v k }

pub due-zero : (v : Voice) → due_in v 0 ≡ v.due
unfolding due_in
due-zero v = refl

-- after a clock in which it is due, and after another one
pub due-now : (v : Voice) (k : ℕ) → due_in v k ≡ suc k → due_in v (suc k) ≡ suc k + v.step
unfolding due_in
due-now v k e = rw (e, now-test (suc k) (suc k) refl) refl

pub due-suc : (v : Voice) (k : ℕ) → due_in v (suc k) ≡ (if due_in v k == suc k then due_in v k + v.step else due_in v k)
unfolding due_in
due-suc v k = refl

-- it stays until that clock
pub due-stays : (v : Voice) (k i : ℕ) → k + i < due_in v k → due_in v (k + i) ≡ due_in v k
unfolding due_in
due-stays v k zero h = ap (due_in v) (add-zero k)
due-stays v k (suc i) h =
    let before : due_in v (k + i) ≡ due_in v k = due-stays v k i (omega arith) in
    ap (due_in v) (add-suc k i) ∙ rw (before, later-test (due_in v k) (suc (k + i)) (omega arith)) refl

pub due-comes : (v : Voice) (k : ℕ) → k < due_in v k → due_in v (due_in v k - 1) ≡ due_in v k
due-comes v k h =
    let whole : due_in v k - 1 ≡ k + (due_in v k - 1 - k) = omega arith in
    ap (due_in v) whole ∙ due-stays v k (due_in v k - 1 - k) (omega arith)

either-grows : (due at step first : ℕ) → first ≤ due → first ≤ (if due == at then due + step else due)
either-grows due at step first h = grind arith

pub due-grows : (v : Voice) (k : ℕ) → v.due ≤ due_in v k
unfolding due_in
due-grows v zero = omega arith
due-grows v (suc k) = either-grows (due_in v k) (suc k) v.step v.due (due-grows v k)

-- a step is some clocks, where a channel is due at all
pub step-some : (v : Voice) → IsTimed v → v.due ≤ 2 ^ 49 → 1 ≤ v.step
step-some v timed small = grind (arith, timed.step, timed.low, timed.due)

times-few : (m step span : ℕ) → 1 ≤ step → m * step ≤ span → m ≤ span / step
times-few m step span some h = (le-div_iff_mul-le some).1 h

-- the last of the clocks so many steps after another, and the one before
pub last-step : (due reach step : ℕ) → 1 ≤ step → due ≤ reach → reach - (reach - due) % step ≡ due + (reach - due) / step * step
last-step due reach step some h =
    let whole : step * ((reach - due) / step) + (reach - due) % step ≡ reach - due = omega arith in
    let turned : (reach - due) / step * step ≡ step * ((reach - due) / step) = mul_comm ((reach - due) / step) step in
    omega (arith, whole, turned)

pub last-most : (due n step m : ℕ) → 1 ≤ step → due ≤ n → due + m * step ≤ n → due + m * step ≤ n - (n - due) % step
last-most due n step m some h inside =
    let few : m ≤ (n - due) / step = times-few m step (n - due) some (omega arith) in
    omega (arith, last-step due n step some h, mul-le-mul_right step few)

pub step-back : (due step more at : ℕ) → at ≡ due + more * step → due < at → (at - step ≡ due + (more - 1) * step) × (step ≤ at)
step-back due step zero at e h = let none : 0 * step ≡ 0 = omega arith in absurd (omega arith)
step-back due step (suc more) at e h =
    let whole : suc more * step ≡ more * step + step = suc-mul more step in
    let less : (suc more - 1) * step ≡ more * step = (let one : suc more - 1 ≡ more = omega arith in ap (λ (m : ℕ). m * step) one) in
    (omega arith, omega arith)

module _ (c : Channel) (p : PokeyValue) (v : Voice) (is : IsVoice c 0 p v) where
  pub voice-in : (k : ℕ) → k ≤ 2 ^ 49 → IsVoice c k p (voice_in v k)
  unfolding due_in
  voice-in zero small = is
  voice-in (suc k) small =
      let here : IsVoice c k p (voice_in v k) = voice-in k (omega arith) in
      let later : k < due_in v k = is-later c k p (voice_in v k) here (omega arith) in
      passes-on c k p (voice_in v k) here (omega arith) small (due_in v (suc k)) refl

  pub due-later : (k : ℕ) → k ≤ 2 ^ 49 → k < due_in v k
  due-later k small = is-later c k p (voice_in v k) (voice-in k small) small

  -- it underflows in a clock exactly where it is due then
  pub underflow-at : (k : ℕ) → suc k ≤ 2 ^ 49 → underflows (base_pulses (times pokey_tick k p)) (times pokey_tick k p) c ≡ (due_in v k == suc k)
  underflow-at k small =
      due-is c k p (voice_in v k) (voice-in k (omega arith)) (omega (arith, due-later k (omega arith))) small

  -- a step later it is due again
  pub due-on : (at : ℕ) → 1 ≤ at → due_in v (at - 1) ≡ at → due_in v at ≡ at + v.step
  due-on at some due =
      let place : suc (at - 1) ≡ at = omega arith in
      rw place at (due-now v (at - 1) (due ∙ sym place))

  pub due-next : (at : ℕ) → 1 ≤ at → at + v.step ≤ 2 ^ 49 → due_in v (at - 1) ≡ at → due_in v (at + v.step - 1) ≡ at + v.step
  due-next at some small due = rw (due-on at some due) at (due-comes v at (due-later at (omega arith)))

  pub due-first : v.due ≤ 2 ^ 49 → due_in v (v.due - 1) ≡ v.due
  due-first small = rw (due-zero v) at (due-comes v 0 (due-later 0 (omega arith)))

  pub due-some : 1 ≤ v.due
  due-some = omega (arith, due-later 0 (omega arith), due-zero v)

  -- so many underflows later
  pub due-add : (m : ℕ) → v.due + m * v.step ≤ 2 ^ 49 → due_in v (v.due + m * v.step - 1) ≡ v.due + m * v.step
  due-add zero small =
      let whole : v.due ≡ v.due + 0 * v.step = omega arith in
      ap (λ (d : ℕ). due_in v (d - 1)) (sym whole) ∙ due-first (omega arith) ∙ whole
  due-add (suc m) small =
      let whole : v.due + m * v.step + v.step ≡ v.due + suc m * v.step = omega (arith, suc-mul m v.step) in
      rw whole at (due-next (v.due + m * v.step) (omega (arith, due-some)) (omega arith) (due-add m (omega arith)))
