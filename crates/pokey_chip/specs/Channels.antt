-- The four channels, the clock of each and its period (POKEY C012294 data sheet: AUDCTL and AUDF).
-- That the lower channel of a joined pair stands still is this project's own choice.
use Rattle.std.specs.Prelude.{ℕ, ◌+◌, ◌*◌, Bool, false, ◌&&◌, if◌then◌else◌, List, slice_index}
use Rattle.bit_words.specs.Bits.{is_bit}
use Rattle.pokey_chip.specs.declared.control.TheConstants.{CHIP_CLOCK_1, CHIP_CLOCK_3, JOIN_1_2, JOIN_3_4}
use Rattle.pokey_chip.specs.declared.channel.Channel.{Channel}
use Rattle.pokey_chip.specs.declared.channel.Channel.TheVariants.{First, Second, Third, Fourth}

-- the place of a channel in the lists of a POKEY, and the place of its tone bit
abbrev pub place : Channel → ℕ
place First = 0
place Second = 1
place Third = 2
place Fourth = 3

-- AUDCTL bit 4 joins channels 1 and 2, bit 3 channels 3 and 4: the lower channel of a pair stands
-- still
abbrev pub is_still : ℕ → Channel → Bool
is_still audctl First = is_bit audctl JOIN_1_2
is_still audctl Second = false
is_still audctl Third = is_bit audctl JOIN_3_4
is_still audctl Fourth = false

-- the upper channel of a joined pair counts for both
abbrev pub is_upper : ℕ → Channel → Bool
is_upper audctl First = false
is_upper audctl Second = is_bit audctl JOIN_1_2
is_upper audctl Third = false
is_upper audctl Fourth = is_bit audctl JOIN_3_4

-- AUDCTL bit 6 puts channel 1 on the chip clock, bit 5 channel 3; the upper channel of a pair has
-- the clock of its lower one, and else channels 2 and 4 have the base clock
abbrev pub is_on_chip_clock : ℕ → Channel → Bool
is_on_chip_clock audctl First = is_bit audctl CHIP_CLOCK_1
is_on_chip_clock audctl Second = is_bit audctl JOIN_1_2 && is_bit audctl CHIP_CLOCK_1
is_on_chip_clock audctl Third = is_bit audctl CHIP_CLOCK_3
is_on_chip_clock audctl Fourth = is_bit audctl JOIN_3_4 && is_bit audctl CHIP_CLOCK_3

-- the number that a channel counts: its AUDF, or in the upper channel of a pair those of both, the
-- lower one's as the low byte
abbrev pub frequency_of : List ℕ → ℕ → Channel → ℕ
frequency_of audf audctl First = slice_index audf 0
frequency_of audf audctl Second =
    if is_bit audctl JOIN_1_2 then slice_index audf 0 + 256 * slice_index audf 1 else slice_index audf 1
frequency_of audf audctl Third = slice_index audf 2
frequency_of audf audctl Fourth =
    if is_bit audctl JOIN_3_4 then slice_index audf 2 + 256 * slice_index audf 3 else slice_index audf 3

-- the pulses that a period has more than this number
abbrev pub extra_of : ℕ → Channel → ℕ
extra_of audctl c = if is_on_chip_clock audctl c then (if is_upper audctl c then 7 else 4) else 1

-- the pulses from an underflow to the next
unfoldable pub period_of : List ℕ → ℕ → Channel → ℕ
period_of audf audctl c = frequency_of audf audctl c + extra_of audctl c
