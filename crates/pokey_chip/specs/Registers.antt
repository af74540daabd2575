-- The sixteen registers of a POKEY, read and written (POKEY C012294 data sheet). This project's own
-- choice are the pots, the registers of keyboard and serial port, which read FF, the bits of IRQEN
-- and IRQST, which are the timers' three alone, and STIMER, which leaves the high-pass bits.
use Rattle.std.specs.Prelude.{ℕ, ◌+◌, ◌-◌, ◌/◌, ◌%◌, ◌==◌, nat_lt, if◌then◌else◌, min, bit_or, [], ◌∷◌, map, slice_index, slice_set}
use Rattle.bit_words.specs.Bits.{number}
use Rattle.board_base.specs.Pokey.{PokeyValue}
use Rattle.pokey_chip.specs.declared.registers.TheConstants.{ALLPOT, AUDCTL, IRQEN, IRQST, POTGO, RANDOM, SKCTL, STIMER}
use Rattle.pokey_chip.specs.declared.channel.Channel.TheVariants.{First, Second, Third, Fourth}
use Rattle.pokey_chip.specs.Channels.{period_of}
use Rattle.pokey_chip.specs.Tick.{long_register}

-- POT0 to POT7: the count, as far as the target
abbrev pub pot_of : PokeyValue → ℕ → ℕ
pot_of p which = min p.pot (slice_index p.targets which)

-- ALLPOT: a bit is 1 while its pot is still counted
unfoldable pub all_pot : PokeyValue → ℕ
all_pot p = number (map (λ target. nat_lt p.pot target) p.targets)

-- the byte that a register gives: 0 to 7 are the pots, and KBCODE, SERIN, SKSTAT and those without
-- a name give FF
unfoldable pub register_read : ℕ → PokeyValue → ℕ
register_read reg p =
    if nat_lt reg 8 then pot_of p reg
    else if reg == ALLPOT then all_pot p
    else if reg == RANDOM then long_register p % 256
    else if reg == IRQST then 248 + p.irqst
    else 255

-- AUDF and AUDC: a channel's two registers, AUDF first
unfoldable pub channel_written : ℕ → ℕ → PokeyValue → PokeyValue
channel_written reg value p =
    if reg % 2 == 0 then record p { audf = slice_set p.audf (reg / 2) value }
    else record p { audc = slice_set p.audc (reg / 2) value }

-- STIMER: each channel begins its period, and all tone bits are 0
unfoldable pub timers_started : PokeyValue → PokeyValue
timers_started p = record p {
  left = period_of p.audf p.audctl First ∷ period_of p.audf p.audctl Second
      ∷ period_of p.audf p.audctl Third ∷ period_of p.audf p.audctl Fourth ∷ [];
  tone = 0;
}

-- IRQEN: three requests; what isn't enabled doesn't stand, so its bit of IRQST becomes 1
unfoldable pub requests_enabled : ℕ → PokeyValue → PokeyValue
requests_enabled value p = record p { irqen = value % 8; irqst = bit_or p.irqst (7 - value % 8) }

-- a register written: 0 to 7 are AUDF and AUDC of the channels, and SKREST, SEROUT and those
-- without a name do nothing
unfoldable pub register_written : ℕ → ℕ → PokeyValue → PokeyValue
register_written reg value p =
    if nat_lt reg 8 then channel_written reg value p
    else if reg == AUDCTL then record p { audctl = value }
    else if reg == STIMER then timers_started p
    else if reg == POTGO then record p { pot = 0 }
    else if reg == IRQEN then requests_enabled value p
    else if reg == SKCTL then record p { skctl = value }
    else p

-- the target of a pot
abbrev pub pot_set : ℕ → ℕ → PokeyValue → PokeyValue
pot_set which value p = record p { targets = slice_set p.targets which value }
