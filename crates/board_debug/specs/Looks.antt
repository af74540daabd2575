-- What a debugger looks at, and how it reports what it found. This project's own choice.
use Rattle.std.specs.Prelude.{◌≡◌, ℕ, ◌==◌, Bool, not, ◌&&◌, List, [], ◌∷◌, ◌++◌, find, map, codes, decimal, nat_le, unwrap_or, Option, Some, None, if◌then◌else◌}
use Rattle.std.specs.Option.{option_map}
use Rattle.text_line.specs.Words.{line, hex_byte, hex_word}
use Rattle.lockstep_board.specs.Lockstep.{Board}
use Rattle.lockstep_board.specs.Memory.{memory_byte}
use Rattle.catchup_engine.specs.StopConditions.{ConditionsValue}
use Rattle.catchup_engine.specs.declared.stop_conditions.WatchedByte.{WatchedByte}
use Rattle.debug_script.specs.Breakpoints.{StopsValue}
use Rattle.board_debug.specs.declared.stop_reason.StopReason.{StopReason}
use Rattle.board_debug.specs.declared.looks.Before.{Before}
use Rattle.board_debug.specs.declared.stop_reason.StopReason.TheVariants.{Jam, End, Break, Watch, Vg, Step, Until}

-- the first of some looks that found something
abbrev pub first_of : List (Option StopReason) → Option StopReason
first_of [] = None
first_of (None ∷ looks) = first_of looks
first_of (Some found ∷ looks) = Some found

-- a jammed board
abbrev pub jam_look : Board → Option StopReason
jam_look b = option_map Jam b.cpu.jam

-- a clock at the tape's END or after it
abbrev pub end_look : ℕ → Board → Option StopReason
end_look end b = if nat_le end b.peripherals.clock then Some End else None

-- pc at one of these addresses
abbrev pub break_look : List ℕ → Board → Option StopReason
break_look breaks b = option_map Break (find (λ address. address == b.cpu.pc) breaks)

-- the byte at an address of the RAM or of the vector RAM
abbrev pub watched_byte : Board → ℕ → ℕ
watched_byte b address = unwrap_or (memory_byte address b.peripherals) 0

-- one of these bytes has changed since the boundary before
abbrev pub watch_look : List ℕ → Board → Board → Option StopReason
watch_look watches before b = option_map Watch (find (λ address. not (watched_byte b address == watched_byte before address)) watches)

-- the generator is halted, and wasn't at the boundary before
abbrev pub vg_look : Bool → Board → Board → Option StopReason
vg_look asked before b = if asked && (b.peripherals.vg.halted && not before.peripherals.vg.halted) then Some Vg else None

-- a clock at this one or after it
abbrev pub until_look : ℕ → Board → Option StopReason
until_look clock b = if nat_le clock b.peripherals.clock then Some Until else None

-- before each turn: a jam, and then the tape's END
abbrev pub look_before : ℕ → Board → Option StopReason
look_before end b = first_of (jam_look b ∷ end_look end b ∷ [])

-- and of `until`, whether its clock has come
abbrev pub look_until : ℕ → ℕ → Board → Option StopReason
look_until end clock b = first_of (jam_look b ∷ end_look end b ∷ until_look clock b ∷ [])

-- after a turn of `go`: a jam, the tape's END, the breaks and the watches in their order, and then
-- the generator
abbrev pub look_after : ℕ → StopsValue → Board → Board → Option StopReason
look_after end stops before b =
    first_of (jam_look b ∷ end_look end b ∷ break_look stops.breaks b ∷ watch_look stops.watches before b ∷ vg_look stops.vg before b ∷ [])

-- stop, what was found, and the clock
abbrev pub found_words : StopReason → Board → List (List ℕ)
found_words (Jam opcode) b = codes "jam" ∷ hex_word b.cpu.pc ∷ hex_byte opcode ∷ []
found_words End b = codes "end" ∷ []
found_words (Break address) b = codes "break" ∷ hex_word address ∷ []
found_words (Watch address) b = codes "watch" ∷ hex_word address ∷ []
found_words Vg b = codes "vg" ∷ []
found_words Step b = codes "step" ∷ []
found_words Until b = codes "until" ∷ []

unfoldable pub stop_text : StopReason → Board → List ℕ
stop_text found b = line (codes "stop" ∷ (found_words found b ++ codes "at" ∷ decimal b.peripherals.clock ∷ []))

-- a byte of a board, to be watched from there on
abbrev pub watched : Board → ℕ → WatchedByte
watched b address = record { address = address; value = watched_byte b address }

-- what was seen of a board before a turn: the watched bytes, and whether the generator was halted
pub record IsBefore (stops : StopsValue) (b : Board) (before : Before) : Type 0 where
  pub bytes : before.bytes.items ≡ map (watched b) stops.watches
  pub halted : before.halted ≡ b.peripherals.vg.halted

-- where turns from a board stop that are made at once, beside a jam and the tape's END
abbrev pub conditions_of : StopsValue → Board → ConditionsValue
conditions_of stops b = record {
  addresses = stops.breaks;
  bytes = map (watched b) stops.watches;
  halted = if stops.vg then Some b.peripherals.vg.halted else None;
}
