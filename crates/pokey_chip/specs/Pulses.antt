-- The pulses that are to come, and the next underflow of a channel, while no register is written.
use Rattle.std.specs.Prelude.{◌≡◌, ℕ, ◌+◌, ◌-◌, ◌<◌, Bool, true, false, zero, suc, Option, MatchOption}
use Rattle.std.specs.Int.{from_bool}
use Rattle.bit_words.specs.Bits.{is_bit}
use Rattle.board_base.specs.Pokey.{PokeyValue}
use Rattle.board_base.specs.Ticks.{times}
use Rattle.pokey_chip.specs.declared.channel.Channel.{Channel}
use Rattle.pokey_chip.specs.declared.channel.Channel.TheVariants.{First, Second, Third, Fourth}
use Rattle.pokey_chip.specs.Tick.{base_pulses, is_pulsed, left_of, pokey_tick, pots_rise}

-- whether a channel gets a pulse in the next clock
abbrev pub has_pulse : Channel → PokeyValue → Bool
has_pulse c p = is_pulsed (base_pulses p) p.audctl c

-- the pulses that a channel gets in the next n clocks
unfoldable pub pulses_of : Channel → ℕ → PokeyValue → ℕ
pulses_of c zero p = 0
pulses_of c (suc n) p = pulses_of c n p + from_bool (has_pulse c (times pokey_tick n p))

-- how often the pots are counted in the next n clocks
unfoldable pub rises_of : ℕ → PokeyValue → ℕ
rises_of zero p = 0
rises_of (suc n) p = rises_of n p + from_bool (pots_rise (times pokey_tick n p))

-- a channel has no underflow in the next n clocks
abbrev pub HasNoUnderflow : PokeyValue → Channel → ℕ → Type 0
HasNoUnderflow p c n = pulses_of c n p < left_of c p

-- no channel has an underflow in the next n clocks
abbrev pub NoneUnderflows : PokeyValue → ℕ → Type 0
NoneUnderflows p n = HasNoUnderflow p First n × HasNoUnderflow p Second n × HasNoUnderflow p Third n × HasNoUnderflow p Fourth n

-- whether an underflow of a channel makes a request; channel 3 makes none
abbrev pub asks : PokeyValue → Channel → Bool
asks p First = is_bit p.irqen 0
asks p Second = is_bit p.irqen 1
asks p Third = false
asks p Fourth = is_bit p.irqen 2

-- a channel makes no request in the next n clocks
abbrev pub MakesNoRequest : PokeyValue → Channel → ℕ → Type 0
MakesNoRequest p c n = asks p c ≡ true → HasNoUnderflow p c n

-- no channel makes a request in the next n clocks
abbrev pub NoneRequests : PokeyValue → ℕ → Type 0
NoneRequests p n = MakesNoRequest p First n × MakesNoRequest p Second n × MakesNoRequest p Fourth n

-- what is left of a channel after n clocks in which it has no underflow
abbrev pub left_in : Channel → ℕ → PokeyValue → ℕ
left_in c n p = left_of c p - pulses_of c n p

-- where a fact first fails: it holds below that number and not at it; or it never fails
abbrev pub FirstFails : (ℕ → Type 0) → Option ℕ → Type 0
FirstFails P place = MatchOption place ((k : ℕ) → P k) (λ n. (P n → ⊥) × ((k : ℕ) → k < n → P k))
