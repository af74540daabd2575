-- What a channel counts in a clock, that all channels may count before the first underflow takes
-- effect, and clocks without an underflow.
use Rattle.std.proofs.Common.{◌≡◌, ℕ, ◌+◌, ◌-◌, Bool, false, ◌&&◌, nat_le, if◌then◌else◌, List, [], ◌∷◌, length, slice_set, refl, arith, ◌<◌, zero, suc, add-zero}
use Rattle.std.proofs.lemmas.Bool.Decides.{nat_tests}
use Rattle.std.specs.Int.{from_bool}
use Rattle.board_base.specs.Pokey.{PokeyValue}
use Rattle.board_base.specs.Ticks.{ticks, times}
use Rattle.pokey_timer.specs.Countdown.{pulse_taken}
use Rattle.pokey_chip.specs.declared.channel.Channel.{Channel}
use Rattle.pokey_chip.specs.declared.channel.Channel.TheVariants.{First, Second, Third, Fourth}
use Rattle.pokey_chip.specs.Channels.{period_of, place}
use Rattle.pokey_chip.specs.Moves.{underflow_effects}
use Rattle.pokey_chip.specs.Tick.{base_pulses, channel_ticked, channels_ticked, clocked, is_pulsed, left_after, left_of, levelled, levels_of}
use Rattle.pokey_chip.specs.Tick.{passed, pokey_tick, pot_counted, pots_rise, requested, toned, underflow_effect, underflows, with_left, signal}
use Rattle.pokey_chip.specs.Pulses.{has_pulse, pulses_of, HasNoUnderflow}

-- a channel's underflow in a clock, and what is left of it, by its pulse
pub underflow-is : (base : Bool) (p : PokeyValue) (c : Channel) → underflows base p c ≡ (is_pulsed base p.audctl c && nat_le (left_of c p) 1)
unfolding pulse_taken
underflow-is base p c = grind (arith, nat_tests)

pub left-is : (base : Bool) (p : PokeyValue) (c : Channel)
    → left_after base p c ≡ (if is_pulsed base p.audctl c then (if nat_le (left_of c p) 1 then period_of p.audf p.audctl c else left_of c p - 1) else left_of c p)
unfolding pulse_taken
left-is base p c = grind (arith, nat_tests)

pub ruleset counts = (underflow-is, left-is)

-- what is left of a channel, put into the list of four
put-left : (c : Channel) (xs : List ℕ) (p : PokeyValue) (n : ℕ) → p.left ≡ xs → length xs ≡ 4 → record p { left = slice_set xs (place c) n } ≡ with_left c n p
unfolding with_left
put-left First (w ∷ x ∷ y ∷ z ∷ []) p n e h = rw e refl
put-left Second (w ∷ x ∷ y ∷ z ∷ []) p n e h = rw e refl
put-left Third (w ∷ x ∷ y ∷ z ∷ []) p n e h = rw e refl
put-left Fourth (w ∷ x ∷ y ∷ z ∷ []) p n e h = rw e refl
put-left c _ p n e h = absurd (omega arith)

pub left-put : (c : Channel) (p : PokeyValue) (n : ℕ) → length p.left ≡ 4 → record p { left = slice_set p.left (place c) n } ≡ with_left c n p
left-put c p n h = put-left c p.left p n refl h

pub ruleset places = left-put

-- steps 1 and 2, and all channels' counts
unfoldable pub counted_on : PokeyValue → PokeyValue
counted_on p = record (pot_counted (pots_rise p) (clocked p)) {
  left = left_after (base_pulses p) p First ∷ left_after (base_pulses p) p Second
      ∷ left_after (base_pulses p) p Third ∷ left_after (base_pulses p) p Fourth ∷ [];
}

-- a clock is the effects of the underflows in it, in order, after all channels have counted, as what
-- a channel counts doesn't depend on another's underflow
pub counts-first : (p : PokeyValue)
    → pokey_tick p ≡ levelled (underflow_effects (underflows (base_pulses p) p First) (underflows (base_pulses p) p Second)
    (underflows (base_pulses p) p Third) (underflows (base_pulses p) p Fourth) (counted_on p))
unfolding pokey_tick channels_ticked channel_ticked with_left underflow_effect underflow_effects counted_on pot_counted clocked requested toned passed levels_of
counts-first p = refl

-- what is left of a channel one clock later
pub left-tick : (c : Channel) (p : PokeyValue) → left_of c (pokey_tick p) ≡ left_after (base_pulses p) p c
unfolding pokey_tick channels_ticked channel_ticked with_left underflow_effect pot_counted clocked
left-tick First p = refl
left-tick Second p = refl
left-tick Third p = refl
left-tick Fourth p = refl

-- a clock in which a channel has no underflow takes its pulse
pub left-step : (c : Channel) (p : PokeyValue) → from_bool (has_pulse c p) < left_of c p
    → left_of c (pokey_tick p) + from_bool (has_pulse c p) ≡ left_of c p
left-step c p resting = grind (arith, nat_tests, left-tick c p, left-is (base_pulses p) p c)

-- what is left of a channel that has no underflow falls by its pulses
pub left-fallen : (c : Channel) (n : ℕ) (p : PokeyValue) → HasNoUnderflow p c n → left_of c (times pokey_tick n p) + pulses_of c n p ≡ left_of c p
unfolding ticks pulses_of
left-fallen c zero p resting = add-zero (left_of c p)
left-fallen c (suc n) p resting =
    let before : left_of c (times pokey_tick n p) + pulses_of c n p ≡ left_of c p = left-fallen c n p (omega arith) in
    omega (arith, before, left-step c (times pokey_tick n p) (omega (arith, before)))

-- a channel with a pulse to spare doesn't underflow
pub no-underflow : (c : Channel) (p : PokeyValue) → from_bool (has_pulse c p) < left_of c p → underflows (base_pulses p) p c ≡ false
no-underflow c p resting = grind (arith, nat_tests, underflow-is (base_pulses p) p c)

-- a channel that doesn't underflow has a pulse to spare
pub has-spare : (c : Channel) (p : PokeyValue) → 0 < left_of c p → underflows (base_pulses p) p c ≡ false → from_bool (has_pulse c p) < left_of c p
has-spare c p more none = grind (arith, nat_tests, underflow-is (base_pulses p) p c)

-- a clock makes the levels those of its outputs
pub tick-settled : (p : PokeyValue) → (pokey_tick p).last ≡ levels_of (pokey_tick p)
unfolding pokey_tick levels_of signal
tick-settled p = refl
