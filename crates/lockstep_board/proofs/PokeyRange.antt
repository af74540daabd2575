-- A POKEY stays in its range.
use Rattle.std.proofs.Common.{◌≤◌, ℕ, ◌+◌, ◌-◌, ◌/◌, ◌%◌, ◌^◌, ◌<◌, ◌&&◌, Bool, true, false, rules, if◌then◌else◌, List, [], ◌∷◌, nat_lt, nat_le, slice_index, slice_set, All, ◌∙◌, arith}
use Rattle.std.proofs.lemmas.Bool.Decides.{nat_tests}
use Rattle.std.proofs.lemmas.List.{length-set}
use Rattle.std.proofs.lemmas.List.Elements.{All-set, All-from_recursion, All-get_or}
use Rattle.bit_words.specs.Bits.{is_bit}
use Rattle.board_base.specs.Pokey.{PokeyValue}
use Rattle.board_base.specs.Ticks.{ticks}
use Rattle.pokey_poly.specs.declared.poly.Poly.{Poly}
use Rattle.pokey_poly.specs.declared.poly.Poly.TheVariants.{Four, Five, Nine, Seventeen}
use Rattle.pokey_poly.specs.Shift.{width_of}
use Rattle.pokey_poly.proofs.LeapLaws.{poly-after-lt}
use Rattle.pokey_timer.proofs.Prescalers.{counted-lt}
use Rattle.pokey_chip.specs.declared.channel.Channel.{Channel}
use Rattle.pokey_chip.specs.declared.channel.Channel.TheVariants.{First, Second, Third, Fourth}
use Rattle.pokey_chip.specs.Channels.{extra_of, frequency_of, period_of, place}
use Rattle.pokey_chip.specs.Registers.{channel_written, pot_set, register_written, requests_enabled, timers_started}
use Rattle.pokey_chip.specs.Tick.{base_pulses, channel_ticked, channels_ticked, clocked, is_held, left_after, left_of, level, levelled, levels_of, passed}
use Rattle.pokey_chip.specs.Tick.{pokey_tick, pot_counted, pots_rise, prescaled, requested, rolled, toned, underflow_effect, underflows, with_bit, with_left}
use Rattle.pokey_chip.proofs.BitLemmas.{with_bit_fits, with_bit_fits_two, with_bit_fits_three, bit_or_fits}
use Rattle.pokey_chip.proofs.CountLaws.{left-is}
use Rattle.pokey_chip.proofs.ToneLaws.{place-few}
use Rattle.cpu_core.specs.Ranges.{IsByte}
use Rattle.lockstep_board.specs.Ranges.{IsPokeyInRange}
use Rattle.lockstep_board.proofs.DeviceRange.{byte_at, either}

rolled_below : (held : Bool) (poly : Poly) (r : ℕ) → r < 2 ^ width_of poly → rolled held poly r < 2 ^ width_of poly
unfolding ticks
rolled_below true poly r h = omega arith
rolled_below false poly r h = poly-after-lt poly 1 r h

prescaled_below : (held : Bool) (period count : ℕ) → count < period → prescaled held period count < period
prescaled_below true period count h = omega arith
prescaled_below false period count h = counted-lt period count h

clocked_in : (p : PokeyValue) → IsPokeyInRange p → IsPokeyInRange (clocked p)
unfolding clocked
clocked_in p h =
    let poly4 = rolled_below (is_held p.skctl) Four p.poly4 h.polys.poly4 in let poly5 = rolled_below (is_held p.skctl) Five p.poly5 h.polys.poly5 in
    let poly9 = rolled_below (is_held p.skctl) Nine p.poly9 h.polys.poly9 in let poly17 = rolled_below (is_held p.skctl) Seventeen p.poly17 h.polys.poly17 in
    let base = prescaled_below (is_held p.skctl) 28 p.pre28 h.prescalers.pre28 in let line = prescaled_below (is_held p.skctl) 114 p.pre114 h.prescalers.pre114 in search rules

pot_counted_in : (rise : Bool) (p : PokeyValue) → IsPokeyInRange p → IsPokeyInRange (pot_counted rise p)
unfolding pot_counted
pot_counted_in rise p h = let few = h.pots.pot in let pot : (if rise && nat_lt p.pot 228 then p.pot + 1 else p.pot) ≤ 228 = grind (arith, nat_tests) in search rules

-- the pulses left of a channel, at any time
abbrev IsLeft : ℕ → Type 0
IsLeft left = (1 ≤ left) × (left ≤ 65542)

frequency_below : (audf : List ℕ) (audctl : ℕ) (c : Channel) → All IsByte audf → frequency_of audf audctl c < 65536
frequency_below audf audctl First h = omega (arith, byte_at audf 0 h)
frequency_below audf audctl Second h = let a = byte_at audf 0 h in let b = byte_at audf 1 h in grind arith
frequency_below audf audctl Third h = omega (arith, byte_at audf 2 h)
frequency_below audf audctl Fourth h = let a = byte_at audf 2 h in let b = byte_at audf 3 h in grind arith

period_in : (audf : List ℕ) (audctl : ℕ) (c : Channel) → All IsByte audf → IsLeft (period_of audf audctl c)
unfolding period_of
period_in audf audctl c h = let low : 1 ≤ extra_of audctl c = grind arith in let high : extra_of audctl c ≤ 7 = grind arith in (omega arith, omega (arith, frequency_below audf audctl c h))

left_of_in : (c : Channel) (p : PokeyValue) → IsPokeyInRange p → IsLeft (left_of c p)
left_of_in c p h = let four = h.channels.left in let few = place-few c in All-get_or IsLeft p.left (place c) 0 (omega arith) h.channels.pulses

counted_in : (pulse : Bool) (left period : ℕ) → IsLeft left → IsLeft period → IsLeft (if pulse then (if nat_le left 1 then period else left - 1) else left)
counted_in pulse left period h k = let a = h.0 in let b = h.1 in let c = k.0 in let d = k.1 in (grind (arith, nat_tests), grind (arith, nat_tests))

left_after_in : (base : Bool) (p : PokeyValue) (c : Channel) → IsPokeyInRange p → IsLeft (left_after base p c)
left_after_in base p c h = rw (left-is base p c) (counted_in _ (left_of c p) (period_of p.audf p.audctl c) (left_of_in c p h) (period_in p.audf p.audctl c h.registers.audf_bytes))

four_left : (a b c d : ℕ) → IsLeft a → IsLeft b → IsLeft c → IsLeft d → All IsLeft (a ∷ b ∷ c ∷ d ∷ [])
four_left a b c d h k l m = All-from_recursion IsLeft (a ∷ b ∷ c ∷ d ∷ []) (h, (k, (l, (m, tt))))

with_left_in : (c : Channel) (n : ℕ) (p : PokeyValue) → IsLeft n → IsPokeyInRange p → IsPokeyInRange (with_left c n p)
unfolding with_left
with_left_in First n p k h = let pulses = four_left n _ _ _ k (left_of_in Second p h) (left_of_in Third p h) (left_of_in Fourth p h) in search rules
with_left_in Second n p k h = let pulses = four_left _ n _ _ (left_of_in First p h) k (left_of_in Third p h) (left_of_in Fourth p h) in search rules
with_left_in Third n p k h = let pulses = four_left _ _ n _ (left_of_in First p h) (left_of_in Second p h) k (left_of_in Fourth p h) in search rules
with_left_in Fourth n p k h = let pulses = four_left _ _ _ n (left_of_in First p h) (left_of_in Second p h) (left_of_in Third p h) k in search rules

requested_below : (c : Channel) (p : PokeyValue) → p.irqst < 8 → requested c p < 8
unfolding requested
requested_below First p h = either (λ n. n < 8) (is_bit p.irqen 0) (with_bit p.irqst 0 false) p.irqst (with_bit_fits_three 0 (omega arith) p.irqst h) h
requested_below Second p h = either (λ n. n < 8) (is_bit p.irqen 1) (with_bit p.irqst 1 false) p.irqst (with_bit_fits_three 1 (omega arith) p.irqst h) h
requested_below Third p h = h
requested_below Fourth p h = either (λ n. n < 8) (is_bit p.irqen 2) (with_bit p.irqst 2 false) p.irqst (with_bit_fits_three 2 (omega arith) p.irqst h) h

passed_below : (c : Channel) (p : PokeyValue) → p.pass < 4 → passed c p < 4
unfolding passed
passed_below Third p h = with_bit_fits_two 0 (omega arith) p.pass h _
passed_below Fourth p h = with_bit_fits_two 1 (omega arith) p.pass h _
passed_below _ p h = h

underflow_effect_in : (underflow : Bool) (c : Channel) (p : PokeyValue) → IsPokeyInRange p → IsPokeyInRange (underflow_effect underflow c p)
unfolding underflow_effect toned
underflow_effect_in underflow c p h =
    let tone = either (λ n. n < 16) underflow (toned c p) p.tone (with_bit_fits (place c) (place-few c) p.tone h.channels.tone _) h.channels.tone in
    let pass = either (λ n. n < 4) underflow (passed c p) p.pass (passed_below c p h.channels.pass) h.channels.pass in
    let irqst = either (λ n. n < 8) underflow (requested c p) p.irqst (requested_below c p h.requests.irqst) h.requests.irqst in search rules

channel_ticked_in : (base : Bool) (c : Channel) (p : PokeyValue) → IsPokeyInRange p → IsPokeyInRange (channel_ticked base c p)
unfolding channel_ticked
channel_ticked_in base c p h = underflow_effect_in (underflows base p c) c _ (with_left_in c (left_after base p c) p (left_after_in base p c h) h)

channels_ticked_in : (base : Bool) (p : PokeyValue) → IsPokeyInRange p → IsPokeyInRange (channels_ticked base p)
unfolding channels_ticked
channels_ticked_in base p h = channel_ticked_in base Fourth _ (channel_ticked_in base Third _ (channel_ticked_in base Second _ (channel_ticked_in base First p h)))

-- a level has four bits
abbrev IsLevel : ℕ → Type 0
IsLevel level = level < 16

levelled_in : (p : PokeyValue) → IsPokeyInRange p → IsPokeyInRange (levelled p)
unfolding levels_of
levelled_in p h = let levels = All-from_recursion IsLevel (levels_of p) (level_in First, (level_in Second, (level_in Third, (level_in Fourth, tt)))) in search rules
  where
    level_in : (c : Channel) → IsLevel (level p c)
    level_in c = either IsLevel _ (slice_index p.audc (place c) % 16) 0 (omega arith) (omega arith)

pub pokey_tick-in_range : (p : PokeyValue) → IsPokeyInRange p → IsPokeyInRange (pokey_tick p)
unfolding pokey_tick
pokey_tick-in_range p h = levelled_in _ (channels_ticked_in (base_pulses p) _ (pot_counted_in (pots_rise p) _ (clocked_in p h)))

pub pot_set-in_range : (which value : ℕ) (p : PokeyValue) → IsByte value → IsPokeyInRange p → IsPokeyInRange (pot_set which value p)
pot_set-in_range which value p byte h = let count = length-set p.targets which value ∙ h.pots.count in let targets = All-set IsByte p.targets which value byte h.pots.targets in search rules

pub register_written-in_range : (reg value : ℕ) (p : PokeyValue) → IsByte value → IsPokeyInRange p → IsPokeyInRange (register_written reg value p)
unfolding register_written channel_written timers_started requests_enabled
register_written-in_range reg value p byte h =
    let period = λ (c : Channel). period_in p.audf p.audctl c h.registers.audf_bytes in either IsPokeyInRange _ (channel_written reg value p) _
    (either IsPokeyInRange _ (record p { audf = slice_set p.audf (reg / 2) value }) (record p { audc = slice_set p.audc (reg / 2) value })
    (let audf = length-set p.audf (reg / 2) value ∙ h.registers.audf in let bytes = All-set IsByte p.audf (reg / 2) value byte h.registers.audf_bytes in search rules)
    (let audc = length-set p.audc (reg / 2) value ∙ h.registers.audc in let bytes = All-set IsByte p.audc (reg / 2) value byte h.registers.audc_bytes in search rules))
    (either IsPokeyInRange _ (record p { audctl = value }) _ (search rules)
    (either IsPokeyInRange _ (timers_started p) _ (let pulses = four_left _ _ _ _ (period First) (period Second) (period Third) (period Fourth) in search rules)
    (either IsPokeyInRange _ (record p { pot = 0 }) _ (search rules)
    (either IsPokeyInRange _ (requests_enabled value p) _ (let irqst = bit_or_fits p.irqst (7 - value % 8) h.requests.irqst (omega arith) in search rules)
    (either IsPokeyInRange _ (record p { skctl = value }) p (search rules) h)))))
