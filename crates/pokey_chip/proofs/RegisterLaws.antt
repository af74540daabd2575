-- What clocks leave alone, the polynomial registers and the prescalers over clocks in which they are
-- held or run, and how many pulses a channel gets, by its clock.
use Rattle.std.proofs.Common.{◌≡◌, ℕ, ◌-◌, ◌^◌, ◌≤◌, true, false, zero, suc, refl, ap, ◌∙◌, arith, Bool, ◌+◌, min, not, ◌&&◌, nat_lt, if◌then◌else◌, sym, add-one}
use Rattle.std.proofs.lemmas.Bool.Decides.{nat_tests}
use Rattle.std.specs.Int.{from_bool}
use Rattle.bit_words.specs.Bits.{is_bit}
use Rattle.board_base.specs.Pokey.{PokeyValue}
use Rattle.board_base.specs.Ticks.{ticks, times}
use Rattle.pokey_poly.specs.declared.poly.Poly.{Poly}
use Rattle.pokey_poly.specs.declared.poly.Poly.TheVariants.{Four, Five, Nine, Seventeen}
use Rattle.pokey_poly.specs.Shift.{width_of}
use Rattle.pokey_timer.specs.Prescaler.{counted, count_after, pulses}
use Rattle.pokey_chip.specs.declared.channel.Channel.{Channel}
use Rattle.pokey_chip.specs.Tick.{channel_ticked, channels_ticked, clocked, is_held, pokey_tick, pot_counted, prescaled, rolled, underflow_effect, with_left, pots_rise}
use Rattle.pokey_chip.specs.Channels.{is_on_chip_clock, is_still}
use Rattle.pokey_chip.specs.Pulses.{has_pulse, pulses_of, rises_of}

-- no clock
pub rolled-none : (held : Bool) (poly : Poly) (n r : ℕ) → n ≡ 0 → times (rolled held poly) n r ≡ r
unfolding ticks
rolled-none held poly n r e = rw e refl

-- held for a clock or more, a register is all ones
pub rolled-held : (poly : Poly) (n r : ℕ) → 1 ≤ n → times (rolled true poly) n r ≡ 2 ^ width_of poly - 1
unfolding ticks
rolled-held poly zero r some = absurd (omega arith)
rolled-held poly (suc n) r some = refl

pub ruleset rolls = (rolled-none, rolled-held)

-- held for a clock or more, a prescaler is 0
pub prescaled-held : (period n count : ℕ) → 1 ≤ n → times (prescaled true period) n count ≡ 0
unfolding ticks
prescaled-held period zero count some = absurd (omega arith)
prescaled-held period (suc n) count some = refl

-- and else it counts
pub prescaled-running : (period n count : ℕ) → times (prescaled false period) n count ≡ count_after period count n
unfolding ticks count_after
prescaled-running period zero count = refl
prescaled-running period (suc n) count = ap (counted period) (prescaled-running period n count)

pub ruleset prescales = (prescaled-held, prescaled-running)

-- a POKEY after n clocks: the polynomial registers and the prescalers by their own steps, what the
-- channels and the pots leave as in q, and all else as before
abbrev pub counted_on : ℕ → PokeyValue → PokeyValue → PokeyValue
counted_on n p q = record p {
  poly4 = times (rolled (is_held p.skctl) Four) n p.poly4;
  poly5 = times (rolled (is_held p.skctl) Five) n p.poly5;
  poly9 = times (rolled (is_held p.skctl) Nine) n p.poly9;
  poly17 = times (rolled (is_held p.skctl) Seventeen) n p.poly17;
  pre28 = times (prescaled (is_held p.skctl) 28) n p.pre28;
  pre114 = times (prescaled (is_held p.skctl) 114) n p.pre114;
  left = q.left;
  tone = q.tone;
  pass = q.pass;
  irqst = q.irqst;
  pot = q.pot;
  last = q.last;
}

pub kept : (n : ℕ) (p : PokeyValue) → times pokey_tick n p ≡ counted_on n p (times pokey_tick n p)
unfolding ticks pokey_tick channels_ticked channel_ticked with_left underflow_effect pot_counted clocked
kept zero p = refl
kept (suc n) p = ap (λ (q : PokeyValue). counted_on 1 q (times pokey_tick (suc n) p)) (kept n p)

pub audf-kept : (n : ℕ) (p : PokeyValue) → (times pokey_tick n p).audf ≡ p.audf
audf-kept n p = ap (λ (q : PokeyValue). q.audf) (kept n p)

pub audc-kept : (n : ℕ) (p : PokeyValue) → (times pokey_tick n p).audc ≡ p.audc
audc-kept n p = ap (λ (q : PokeyValue). q.audc) (kept n p)

pub audctl-kept : (n : ℕ) (p : PokeyValue) → (times pokey_tick n p).audctl ≡ p.audctl
audctl-kept n p = ap (λ (q : PokeyValue). q.audctl) (kept n p)

pub skctl-kept : (n : ℕ) (p : PokeyValue) → (times pokey_tick n p).skctl ≡ p.skctl
skctl-kept n p = ap (λ (q : PokeyValue). q.skctl) (kept n p)

pub irqen-kept : (n : ℕ) (p : PokeyValue) → (times pokey_tick n p).irqen ≡ p.irqen
irqen-kept n p = ap (λ (q : PokeyValue). q.irqen) (kept n p)

-- a prescaler that isn't held
pub pre28-runs : (n : ℕ) (p : PokeyValue) → is_held p.skctl ≡ false → (times pokey_tick n p).pre28 ≡ count_after 28 p.pre28 n
pre28-runs n p running = rw running at (ap (λ (q : PokeyValue). q.pre28) (kept n p)) ∙ prescaled-running 28 n p.pre28

pub pre114-runs : (n : ℕ) (p : PokeyValue) → is_held p.skctl ≡ false → (times pokey_tick n p).pre114 ≡ count_after 114 p.pre114 n
pre114-runs n p running = rw running at (ap (λ (q : PokeyValue). q.pre114) (kept n p)) ∙ prescaled-running 114 n p.pre114

-- pulses that come as a number grows
pulses-by : (c : Channel) (p : PokeyValue) (f : ℕ → ℕ) → f 0 ≡ 0 → ((k : ℕ) → f (suc k) ≡ f k + from_bool (has_pulse c (times pokey_tick k p))) → (n : ℕ) → pulses_of c n p ≡ f n
unfolding pulses_of
pulses-by c p f start step zero = sym start
pulses-by c p f start step (suc n) = ap (λ (m : ℕ). m + from_bool (has_pulse c (times pokey_tick n p))) (pulses-by c p f start step n) ∙ sym (step n)

-- the lower channel of a pair gets none
pub pulses-still : (c : Channel) (n : ℕ) (p : PokeyValue) → is_still p.audctl c ≡ true → pulses_of c n p ≡ 0
pulses-still c n p still = pulses-by c p (λ k. 0) refl (λ k. rw (audctl-kept k p, still) refl) n

-- a channel on the chip clock gets one in each clock
pub pulses-fast : (c : Channel) (n : ℕ) (p : PokeyValue) → is_still p.audctl c ≡ false → is_on_chip_clock p.audctl c ≡ true → pulses_of c n p ≡ n
pulses-fast c n p still fast = pulses-by c p (λ k. k) refl (λ k. rw (audctl-kept k p, still, fast) (sym (add-one k))) n

never : (b : Bool) → from_bool (b && false) ≡ 0
never b = grind arith

-- a channel on the base clock gets none while the prescalers are held
pub pulses-held : (c : Channel) (n : ℕ) (p : PokeyValue) → is_on_chip_clock p.audctl c ≡ false → is_held p.skctl ≡ true → pulses_of c n p ≡ 0
pulses-held c n p fast held = pulses-by c p (λ k. 0) refl (λ k. rw (audctl-kept k p, skctl-kept k p, fast, held, never (not (is_still p.audctl c))) refl) n

-- and else those of a prescaler
pub pulses-line : (c : Channel) (n : ℕ) (p : PokeyValue) → is_still p.audctl c ≡ false → is_on_chip_clock p.audctl c ≡ false
    → is_held p.skctl ≡ false → is_bit p.audctl 0 ≡ true → pulses_of c n p ≡ pulses 114 p.pre114 n
unfolding pulses
pulses-line c n p still fast held slow =
    pulses-by c p (pulses 114 p.pre114) refl (λ k. rw (audctl-kept k p, skctl-kept k p, still, fast, held, slow, pre114-runs k p held) refl) n

pub pulses-base : (c : Channel) (n : ℕ) (p : PokeyValue) → is_still p.audctl c ≡ false → is_on_chip_clock p.audctl c ≡ false
    → is_held p.skctl ≡ false → is_bit p.audctl 0 ≡ false → pulses_of c n p ≡ pulses 28 p.pre28 n
unfolding pulses
pulses-base c n p still fast held slow =
    pulses-by c p (pulses 28 p.pre28) refl (λ k. rw (audctl-kept k p, skctl-kept k p, still, fast, held, slow, pre28-runs k p held) refl) n

-- the pots are counted in each clock of a fast scan
pub rises-fast : (n : ℕ) (p : PokeyValue) → is_bit p.skctl 2 ≡ true → rises_of n p ≡ n
unfolding rises_of
rises-fast zero p fast = refl
rises-fast (suc n) p fast = rw (skctl-kept n p, fast, rises-fast n p fast) (add-one n)

pub rises-held : (n : ℕ) (p : PokeyValue) → is_bit p.skctl 2 ≡ false → is_held p.skctl ≡ true → rises_of n p ≡ 0
unfolding rises_of
rises-held zero p fast held = refl
rises-held (suc n) p fast held = rw (skctl-kept n p, fast, held, rises-held n p fast held) refl

pub rises-line : (n : ℕ) (p : PokeyValue) → is_bit p.skctl 2 ≡ false → is_held p.skctl ≡ false → rises_of n p ≡ pulses 114 p.pre114 n
unfolding rises_of pulses
rises-line zero p fast held = refl
rises-line (suc n) p fast held =
    rw (skctl-kept n p, fast, held, pre114-runs n p held, rises-line n p fast held) refl

-- the pot count
risen : (b : Bool) (pot rises : ℕ) → min 228 (pot + (rises + from_bool b)) ≡ (if b && nat_lt (min 228 (pot + rises)) 228 then min 228 (pot + rises) + 1 else min 228 (pot + rises))
risen b pot rises = grind (arith, nat_tests)

pub pot-after : (n : ℕ) (p : PokeyValue) → p.pot ≤ 228 → (times pokey_tick n p).pot ≡ min 228 (p.pot + rises_of n p)
unfolding ticks rises_of pokey_tick channels_ticked channel_ticked with_left underflow_effect pot_counted clocked
pot-after zero p small = omega arith
pot-after (suc n) p small = rw (pot-after n p small) (sym (risen (pots_rise (times pokey_tick n p)) p.pot (rises_of n p)))

few : (b : Bool) (n rises : ℕ) → rises ≤ n → rises + from_bool b ≤ suc n
few b n rises h = grind arith

pub rises-few : (n : ℕ) (p : PokeyValue) → rises_of n p ≤ n
unfolding rises_of
rises-few zero p = omega arith
rises-few (suc n) p = few (pots_rise (times pokey_tick n p)) n (rises_of n p) (rises-few n p)

pub ruleset paces = (pulses-still, pulses-fast, pulses-held, pulses-line, pulses-base)

pub ruleset pots = (rises-fast, rises-held, rises-line)

pub ruleset few_rises = rises-few
