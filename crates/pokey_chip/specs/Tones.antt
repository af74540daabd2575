-- The tones of a POKEY in a move. Four bits in a word are one for each channel, at its place: bit 0
-- is that of channel 1, bit 3 that of channel 4.
use Rattle.std.specs.Prelude.{◌≡◌, ℕ, ◌%◌, Bool, false, zero, suc, not, ◌&&◌, if◌then◌else◌, List, [], ◌∷◌, slice_index}
use Rattle.bit_words.specs.Bits.{is_bit, number}
use Rattle.board_base.specs.Pokey.{PokeyValue}
use Rattle.pokey_chip.specs.declared.channel.Channel.{Channel}
use Rattle.pokey_chip.specs.declared.channel.Channel.TheVariants.{First, Second, Third, Fourth}
use Rattle.pokey_chip.specs.declared.control.TheConstants.{FOUR_BITS, HIGH_PASS_1, HIGH_PASS_2, NO_FIVE_BITS, PURE_TONE, VOLUME_ONLY}
use Rattle.pokey_chip.specs.declared.noise.Outputs.{Outputs}
use Rattle.pokey_chip.specs.declared.tones.Tuning.{Tuning}
use Rattle.pokey_chip.specs.Channels.{place}

-- whether a channel is one of those of a word
abbrev pub has : ℕ → Channel → Bool
has word c = is_bit word (place c)

-- of four things, that of a channel
abbrev pub of_channel : Bool → Bool → Bool → Bool → Channel → Bool
of_channel first second third fourth First = first
of_channel first second third fourth Second = second
of_channel first second third fourth Third = third
of_channel first second third fourth Fourth = fourth

-- the channel that clocks the high-pass filter of channel 1 or 2, by the filter's bit
abbrev pub follower : ℕ → Channel
follower zero = Third
follower (suc k) = Fourth

-- the channel that makes a request, by the bit of the request
abbrev pub asker : ℕ → Channel
asker zero = First
asker (suc zero) = Second
asker (suc (suc k)) = Fourth

-- the AUDC of a channel
abbrev pub audc_of : PokeyValue → Channel → ℕ
audc_of p c = slice_index p.audc (place c)

-- what the registers written say of the tones: the channels that the 5-bit register doesn't hold
-- back, those whose tone bit is turned over, those that take the 4-bit register's noise, those that
-- a high-pass filter is on for, and those that give their volume always
pub record IsTuning (p : PokeyValue) (tuning : Tuning) : Type 0 where
  pub free : (c : Channel) → has tuning.free c ≡ is_bit (audc_of p c) NO_FIVE_BITS
  pub pure : (c : Channel) → has tuning.pure c ≡ is_bit (audc_of p c) PURE_TONE
  pub four : (c : Channel) → has tuning.four c ≡ is_bit (audc_of p c) FOUR_BITS
  pub steady : (c : Channel) → has tuning.steady c ≡ is_bit (audc_of p c) VOLUME_ONLY
  pub passed : (c : Channel) → has tuning.passed c ≡ of_channel (is_bit p.audctl HIGH_PASS_1) (is_bit p.audctl HIGH_PASS_2) false false c

-- the tone bit of a channel after an underflow
abbrev pub next_tone : Tuning → Outputs → Channel → Bool → Bool
next_tone tuning outputs c tone =
    if not (has tuning.free c) && not outputs.five then tone
    else if has tuning.pure c then not tone
    else if has tuning.four c then outputs.four
    else outputs.long

-- the level of a channel that is on or off
abbrev pub level_on : ℕ → List ℕ → Channel → ℕ
level_on on audc c = if has on c then slice_index audc (place c) % 16 else 0

-- the four levels
unfoldable pub levels_on : ℕ → List ℕ → List ℕ
levels_on on audc = level_on on audc First ∷ level_on on audc Second ∷ level_on on audc Third ∷ level_on on audc Fourth ∷ []

-- IRQST after underflows of these channels, with the requests of IRQEN; channel 3 makes none
unfoldable pub requests_made : ℕ → ℕ → ℕ → ℕ
requests_made underflowed irqen irqst = number (
    (is_bit irqst 0 && not (has underflowed First && is_bit irqen 0))
    ∷ (is_bit irqst 1 && not (has underflowed Second && is_bit irqen 1))
    ∷ (is_bit irqst 2 && not (has underflowed Fourth && is_bit irqen 2))
    ∷ [])
