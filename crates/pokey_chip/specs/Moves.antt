-- A move of a POKEY from underflow to underflow. The pulses and the clocks of a channel are counted
-- from the start of the move; no register is written in it.
use Rattle.std.specs.Prelude.{◌≡◌, ℕ, ◌+◌, ◌-◌, ◌*◌, ◌/◌, ◌^◌, ◌<◌, ◌≤◌, Bool}
use Rattle.board_base.specs.declared.board.TheConstants.{CLOCK_END}
use Rattle.board_base.specs.declared.pokey.TheConstants.{LONGEST_PERIOD, PRESCALER_BASE, PRESCALER_LINE}
use Rattle.board_base.specs.Pokey.{PokeyValue}
use Rattle.board_base.specs.Ticks.{times}
use Rattle.pokey_chip.specs.declared.channel.Channel.{Channel}
use Rattle.pokey_chip.specs.declared.channel.Channel.TheVariants.{First, Second, Third, Fourth}
use Rattle.pokey_chip.specs.declared.clock_source.ClockSource.{ClockSource}
use Rattle.pokey_chip.specs.declared.clock_source.ClockSource.TheVariants.{Never, ChipClock, By28, By114}
use Rattle.pokey_chip.specs.declared.voice.Voice.{Voice}
use Rattle.pokey_chip.specs.Channels.{period_of}
use Rattle.pokey_chip.specs.ClockSources.{IsClockSource, source_pulses}
use Rattle.pokey_chip.specs.Pulses.{pulses_of}
use Rattle.pokey_chip.specs.Tick.{left_of, pokey_tick, underflow_effect}

-- the clock with which a pulse comes; the greatest number of 64 bits where none does
abbrev pub due_at : ClockSource → ℕ → ℕ
due_at Never pulse = 2 ^ 64 - 1
due_at ChipClock pulse = pulse
due_at (By28 count) pulse = pulse * PRESCALER_BASE - count
due_at (By114 count) pulse = pulse * PRESCALER_LINE - count

-- the pulse that comes with a clock, and another number where none comes
abbrev pub pulse_at : ClockSource → ℕ → ℕ → ℕ
pulse_at Never due none = none
pulse_at ChipClock due none = due
pulse_at (By28 count) due none = (due + count) / PRESCALER_BASE
pulse_at (By114 count) due none = (due + count) / PRESCALER_LINE

-- where pulses come, a clock is well within 64 bits
abbrev pub IsEarly : ClockSource → ℕ → Type 0
IsEarly Never due = Unit {0}
IsEarly ChipClock due = Unit {0}
IsEarly (By28 count) due = due < 2 ^ 63
IsEarly (By114 count) due = due < 2 ^ 63

-- the pulse with which a channel underflows next
abbrev pub pulse_of : Voice → ℕ
pulse_of v = pulse_at v.clock_source v.due v.first

-- the clocks from one underflow to the next; none where none comes
abbrev pub step_of : ClockSource → ℕ → ℕ
step_of Never period = 0
step_of ChipClock period = period
step_of (By28 count) period = period * PRESCALER_BASE
step_of (By114 count) period = period * PRESCALER_LINE

-- a channel's next underflow comes with a pulse to come, and in the clock of that pulse
pub record IsTimed (v : Voice) : Type 0 where
  pub prescaler : IsClockSource v.clock_source
  pub some : 1 ≤ pulse_of v
  pub few : pulse_of v ≤ CLOCK_END + LONGEST_PERIOD
  pub low : 1 ≤ v.period
  pub high : v.period ≤ LONGEST_PERIOD
  pub step : v.step ≡ step_of v.clock_source v.period
  pub due : v.due ≡ due_at v.clock_source (pulse_of v)

-- the pulses that are left of a channel after n clocks
abbrev pub left_of_voice : Voice → ℕ → ℕ
left_of_voice v n = pulse_of v - source_pulses v.clock_source n

-- a channel that hasn't come to its underflow in n clocks, and is within a period of it
pub record IsLeft (v : Voice) (n : ℕ) : Type 0 where
  pub prescaler : IsClockSource v.clock_source
  pub some : source_pulses v.clock_source n < pulse_of v
  pub most : pulse_of v ≤ source_pulses v.clock_source n + LONGEST_PERIOD

-- a channel after `done` clocks of a move: its pulses, its period, and the pulse with which it
-- underflows next
pub record IsVoice (c : Channel) (done : ℕ) (p : PokeyValue) (v : Voice) : Type 0 where
  pub timed : IsTimed v
  pub pulses_are : (n : ℕ) → pulses_of c n p ≡ source_pulses v.clock_source n
  pub period : v.period ≡ period_of p.audf p.audctl c
  pub next : left_of c (times pokey_tick done p) + pulses_of c done p ≡ pulse_of v
  pub some : 1 ≤ left_of c (times pokey_tick done p)
  pub most : left_of c (times pokey_tick done p) ≤ LONGEST_PERIOD

-- the effects of those channels' underflows that are due, in order
unfoldable pub underflow_effects : Bool → Bool → Bool → Bool → PokeyValue → PokeyValue
underflow_effects first second third fourth p =
    underflow_effect fourth Fourth (underflow_effect third Third (underflow_effect second Second (underflow_effect first First p)))
