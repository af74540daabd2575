-- One clock of a POKEY, in five steps (POKEY C012294 data sheet). This project's own choice are
-- the order within a clock, the pots, the joined pair, whose lower channel stands still, the
-- high-pass bit, which is copied with the filter on or off, and SKCTL's bits 3 to 7, which do
-- nothing.
use Rattle.std.specs.Prelude.{ℕ, ◌+◌, ◌-◌, ◌*◌, ◌%◌, ◌^◌, Bool, false, not, ◌&&◌, ◌||◌, ◌==◌, nat_eq, nat_lt, if◌then◌else◌, List, [], ◌∷◌, slice_index}
use Rattle.std.specs.Int.{bit_at, from_bool}
use Rattle.std.specs.Cmp.Lexicographic.{pointwise}
use Rattle.board_base.specs.declared.pokey.TheConstants.{POT_LIMIT, PRESCALER_BASE, PRESCALER_LINE}
use Rattle.bit_words.specs.Bits.{is_bit}
use Rattle.board_base.specs.declared.record.Record.{Record}
use Rattle.board_base.specs.declared.record.Record.TheVariants.{Levels}
use Rattle.board_base.specs.Pokey.{PokeyValue}
use Rattle.board_base.specs.Ticks.{made}
use Rattle.pokey_poly.specs.declared.poly.Poly.{Poly}
use Rattle.pokey_poly.specs.declared.poly.Poly.TheVariants.{Four, Five, Nine, Seventeen}
use Rattle.pokey_poly.specs.Shift.{shifted, width_of}
use Rattle.pokey_timer.specs.Countdown.{pulse_taken}
use Rattle.pokey_timer.specs.Prescaler.{counted, pulsed}
use Rattle.pokey_chip.specs.declared.channel.Channel.{Channel}
use Rattle.pokey_chip.specs.declared.channel.Channel.TheVariants.{First, Second, Third, Fourth}
use Rattle.pokey_chip.specs.declared.control.TheConstants.{FAST_POT_SCAN, FOUR_BITS, HIGH_PASS_1, HIGH_PASS_2, NINE_BITS, NO_FIVE_BITS, PURE_TONE, SLOW_BASE_CLOCK, VOLUME_ONLY}
use Rattle.pokey_chip.specs.Channels.{place, is_still, is_on_chip_clock, period_of}

-- a number with its bit k made the given one
unfoldable pub with_bit : ℕ → ℕ → Bool → ℕ
with_bit n k bit = n - bit_at n k * 2 ^ k + from_bool bit * 2 ^ k

-- SKCTL bits 0 and 1 are both 0: the polynomial registers and the prescalers are held
abbrev pub is_held : ℕ → Bool
is_held skctl = skctl % 4 == 0

-- a polynomial register one clock later: all ones while it is held, and else shifted once
abbrev pub rolled : Bool → Poly → ℕ → ℕ
rolled held poly r = if held then 2 ^ width_of poly - 1 else shifted poly r

-- a prescaler one clock later
abbrev pub prescaled : Bool → ℕ → ℕ → ℕ
prescaled held period count = if held then 0 else counted period count

-- step 1: the polynomial registers and the prescalers
unfoldable pub clocked : PokeyValue → PokeyValue
clocked p = record p {
  poly4 = rolled (is_held p.skctl) Four p.poly4;
  poly5 = rolled (is_held p.skctl) Five p.poly5;
  poly9 = rolled (is_held p.skctl) Nine p.poly9;
  poly17 = rolled (is_held p.skctl) Seventeen p.poly17;
  pre28 = prescaled (is_held p.skctl) PRESCALER_BASE p.pre28;
  pre114 = prescaled (is_held p.skctl) PRESCALER_LINE p.pre114;
}

-- whether the prescaler by 114 pulses in this clock
abbrev pub line_pulses : PokeyValue → Bool
line_pulses p = not (is_held p.skctl) && pulsed PRESCALER_LINE p.pre114

-- whether the base clock pulses: AUDCTL bit 0 chooses the prescaler by 114, else it is that by 28
abbrev pub base_pulses : PokeyValue → Bool
base_pulses p = not (is_held p.skctl) && (if is_bit p.audctl SLOW_BASE_CLOCK then pulsed PRESCALER_LINE p.pre114 else pulsed PRESCALER_BASE p.pre28)

-- whether the pots are counted in this clock: in each one while SKCTL bit 2 is set, and else at a
-- pulse of the prescaler by 114
abbrev pub pots_rise : PokeyValue → Bool
pots_rise p = is_bit p.skctl FAST_POT_SCAN || line_pulses p

-- step 2: the pot count, which stands still at 228
unfoldable pub pot_counted : Bool → PokeyValue → PokeyValue
pot_counted rise p = record p { pot = if rise && nat_lt p.pot POT_LIMIT then p.pot + 1 else p.pot }

-- a channel gets a pulse in each clock, or with the base clock; the lower channel of a pair gets
-- none
abbrev pub is_pulsed : Bool → ℕ → Channel → Bool
is_pulsed base audctl c = not (is_still audctl c) && (is_on_chip_clock audctl c || base)

-- the pulses left of a channel
abbrev pub left_of : Channel → PokeyValue → ℕ
left_of c p = slice_index p.left (place c)

-- step 3: a channel counts its pulse, where it gets one; what is left of it, and its underflows in
-- this clock, one or none
abbrev pub counted_down : Bool → PokeyValue → Channel → ℕ × ℕ
counted_down base p c =
    if is_pulsed base p.audctl c then pulse_taken (period_of p.audf p.audctl c) (left_of c p, 0)
    else (left_of c p, 0)

-- what is left of a channel after a clock
abbrev pub left_after : Bool → PokeyValue → Channel → ℕ
left_after base p c = (counted_down base p c).0

-- whether a channel underflows in a clock
abbrev pub underflows : Bool → PokeyValue → Channel → Bool
underflows base p c = (counted_down base p c).1 == 1

-- with this many pulses left of one channel
unfoldable pub with_left : Channel → ℕ → PokeyValue → PokeyValue
with_left First n p = record p { left = n ∷ left_of Second p ∷ left_of Third p ∷ left_of Fourth p ∷ [] }
with_left Second n p = record p { left = left_of First p ∷ n ∷ left_of Third p ∷ left_of Fourth p ∷ [] }
with_left Third n p = record p { left = left_of First p ∷ left_of Second p ∷ n ∷ left_of Fourth p ∷ [] }
with_left Fourth n p = record p { left = left_of First p ∷ left_of Second p ∷ left_of Third p ∷ n ∷ [] }

-- a request where it is enabled: its bit of IRQST is 0 while it stands
abbrev pub request : ℕ → PokeyValue → ℕ
request k p = if is_bit p.irqen k then with_bit p.irqst k false else p.irqst

-- IRQST after an underflow; channel 3 makes no request
unfoldable pub requested : Channel → PokeyValue → ℕ
requested First p = request 0 p
requested Second p = request 1 p
requested Third p = p.irqst
requested Fourth p = request 2 p

-- the long register: that of 9 bits where AUDCTL bit 7 is set, else that of 17
abbrev pub long_register : PokeyValue → ℕ
long_register p = if is_bit p.audctl NINE_BITS then p.poly9 else p.poly17

-- the tone bit of a channel
abbrev pub tone_of : Channel → PokeyValue → Bool
tone_of c p = is_bit p.tone (place c)

-- the tone bit after an underflow: AUDC bit 7 clear lets the 5-bit register's 0 keep it; AUDC bit 5
-- turns it over; else it is the output of the 4-bit register, where AUDC bit 6 is set, or of the
-- long one
abbrev pub new_tone : ℕ → Channel → PokeyValue → Bool
new_tone audc c p =
    if not (is_bit audc NO_FIVE_BITS) && not (is_bit p.poly5 0) then tone_of c p
    else if is_bit audc PURE_TONE then not (tone_of c p)
    else if is_bit audc FOUR_BITS then is_bit p.poly4 0
    else is_bit (long_register p) 0

-- all tone bits after an underflow of a channel
unfoldable pub toned : Channel → PokeyValue → ℕ
toned c p = with_bit p.tone (place c) (new_tone (slice_index p.audc (place c)) c p)

-- the high-pass bits after an underflow: channel 3 takes the tone bit of channel 1 into bit 0,
-- channel 4 that of channel 2 into bit 1
unfoldable pub passed : Channel → PokeyValue → ℕ
passed First p = p.pass
passed Second p = p.pass
passed Third p = with_bit p.pass 0 (tone_of First p)
passed Fourth p = with_bit p.pass 1 (tone_of Second p)

-- step 4: what a channel's underflow does
unfoldable pub underflow_effect : Bool → Channel → PokeyValue → PokeyValue
underflow_effect underflow c p = record p {
  irqst = if underflow then requested c p else p.irqst;
  tone = if underflow then toned c p else p.tone;
  pass = if underflow then passed c p else p.pass;
}

-- a high-pass filter that is on turns the tone over where its bit is 1
abbrev pub filtered : Bool → Bool → Bool → Bool
filtered on bit tone = if on && bit then not tone else tone

-- a channel's signal: channel 1 is filtered where AUDCTL bit 2 is set, channel 2 where AUDCTL bit 1
-- is
unfoldable pub signal : PokeyValue → Channel → Bool
signal p First = filtered (is_bit p.audctl HIGH_PASS_1) (is_bit p.pass 0) (tone_of First p)
signal p Second = filtered (is_bit p.audctl HIGH_PASS_2) (is_bit p.pass 1) (tone_of Second p)
signal p Third = tone_of Third p
signal p Fourth = tone_of Fourth p

-- the level of a signal: the volume, AUDC's low four bits, while the signal is 1, or always where
-- AUDC bit 4 is set
abbrev pub level_of : ℕ → Bool → ℕ
level_of audc on = if is_bit audc VOLUME_ONLY || on then audc % 16 else 0

-- the level of a channel
abbrev pub level : PokeyValue → Channel → ℕ
level p c = level_of (slice_index p.audc (place c)) (signal p c)

-- the four levels
unfoldable pub levels_of : PokeyValue → List ℕ
levels_of p = level p First ∷ level p Second ∷ level p Third ∷ level p Fourth ∷ []

-- step 5: the levels
abbrev pub levelled : PokeyValue → PokeyValue
levelled p = record p { last = levels_of p }

-- steps 3 and 4 of a channel: it counts, and its underflow takes effect where it has one
unfoldable pub channel_ticked : Bool → Channel → PokeyValue → PokeyValue
channel_ticked base c p = underflow_effect (underflows base p c) c (with_left c (left_after base p c) p)

-- steps 3 and 4: channels 1 to 4 in order
unfoldable pub channels_ticked : Bool → PokeyValue → PokeyValue
channels_ticked base p =
    channel_ticked base Fourth (channel_ticked base Third (channel_ticked base Second (channel_ticked base First p)))

-- one clock
unfoldable pub pokey_tick : PokeyValue → PokeyValue
pokey_tick p = levelled (channels_ticked (base_pulses p) (pot_counted (pots_rise p) (clocked p)))

-- the record of a change of the levels
unfoldable pub change : ℕ → List ℕ → List ℕ → List Record
change clock before now =
    if pointwise nat_eq now before then []
    else Levels clock (slice_index now 0) (slice_index now 1) (slice_index now 2) (slice_index now 3) ∷ []

-- the record of a clock: the four levels, where they aren't those before it
unfoldable pub pokey_gives : ℕ → PokeyValue → List Record
pokey_gives clock p = change clock p.last (pokey_tick p).last

-- the records of n clocks, the first of them `from`
abbrev pub levels_made : ℕ → ℕ → PokeyValue → List Record
levels_made from n p = made (λ _. pokey_tick) pokey_gives from n p
