-- A debugger's session: the commands of its script over lockstep boards. This project's own
-- choice.
use Rattle.std.specs.Prelude.{ℕ, ◌-◌, List, [], ◌∷◌, ◌++◌, Option, Some, None, zero, suc}
use Rattle.tape_ports.specs.declared.entry.TapeEntry.{TapeEntry}
use Rattle.tape_ports.specs.Tape.{TapeValue}
use Rattle.lockstep_board.specs.Breaks.{turn}
use Rattle.lockstep_board.specs.Order.{cleared}
use Rattle.lockstep_board.specs.Lockstep.{Board}
use Rattle.lockstep_board.specs.Memory.{memory_byte}
use Rattle.lockstep_board.specs.Peripherals.{board_of}
use Rattle.debug_script.specs.declared.command.Command.{Command}
use Rattle.debug_script.specs.declared.command.Command.TheVariants as command
use Rattle.debug_script.specs.Breakpoints.{StopsValue, stops_after}
use Rattle.board_debug.specs.declared.stop_reason.StopReason.{StopReason}
use Rattle.board_debug.specs.declared.stop_reason.StopReason.TheVariants.{End, Step}
use Rattle.board_debug.specs.BoardText.{devices_text, registers_text}
use Rattle.board_debug.specs.Bytes.{Seen, mem_text}
use Rattle.board_debug.specs.Instructions.{dis_text}
use Rattle.board_debug.specs.Looks.{jam_look, look_after, look_before, look_until, stop_text}
use Rattle.board_debug.specs.Statements.{vdis_text}

-- a turn: what is left of the sequence under way, or else one instruction or sequence. A debugger
-- shows no records, and forgets them.
unfoldable pub turn_done : List TapeEntry → Board → Board
turn_done entries b = cleared (turn entries b)

-- where a command stopped, and why
pub record Reached : Type 0 where
  pub found : StopReason
  pub board : Board

-- a command stops where a look found something, and else goes on
abbrev pub unless_found : Option StopReason → Board → Reached → Reached
unless_found (Some found) b more = record { found = found; board = b }
unless_found None b more = more

-- so many turns at most, up to where a look before a turn or one after a turn finds something
unfoldable pub turning : List TapeEntry → (Board → Option StopReason) → (Board → Board → Option StopReason) → ℕ → Board → Reached
turning entries before after zero b = record { found = End; board = b }
turning entries before after (suc most) b =
    let next = turn_done entries b in
    unless_found (before b) b (unless_found (after b next) next (turning entries before after most next))

-- each turn takes a clock, so that there are no more of them than clocks up to the last
abbrev pub go_from : TapeValue → StopsValue → Board → Reached
go_from tape stops b = turning tape.entries (look_before tape.end) (look_after tape.end stops) (suc (tape.end - b.peripherals.clock)) b

abbrev pub until_from : TapeValue → ℕ → Board → Reached
until_from tape clock b = turning tape.entries (look_until tape.end clock) (λ before b. None) (suc (clock - b.peripherals.clock)) b

-- so many turns, and then a look at a jam alone
unfoldable pub step_from : TapeValue → ℕ → Board → Reached
step_from tape zero b = unless_found (jam_look b) b (record { found = Step; board = b })
step_from tape (suc count) b = unless_found (look_before tape.end b) b (step_from tape count (turn_done tape.entries b))

-- where a command that makes turns stops
abbrev pub reached_by : TapeValue → StopsValue → Command → Board → Option Reached
reached_by tape stops command.Go b = Some (go_from tape stops b)
reached_by tape stops (command.Step count) b = Some (step_from tape count b)
reached_by tape stops (command.Until clock) b = Some (until_from tape clock b)
reached_by tape stops command b = None

-- the board that a command leaves
abbrev pub board_at : Option Reached → Board → Board
board_at None b = b
board_at (Some reached) b = reached.board

abbrev pub board_after : TapeValue → StopsValue → Command → Board → Board
board_after tape stops command b = board_at (reached_by tape stops command b) b

-- the bytes of a board that can be seen: those of its memories
abbrev pub seen_in : Board → Seen
seen_in b address = memory_byte address b.peripherals

abbrev pub reached_text : Reached → List ℕ
reached_text reached = stop_text reached.found reached.board

-- what a command that makes no turn shows of a board
abbrev pub shown_text : Command → Board → List ℕ
shown_text command.Regs b = registers_text (board_of b.cpu b.peripherals)
shown_text command.Dev b = devices_text (board_of b.cpu b.peripherals)
shown_text (command.Mem span) b = mem_text (seen_in b) span.from span.count
shown_text (command.Dis span) b = dis_text (seen_in b) span.from span.count
shown_text (command.Vdis span) b = vdis_text (seen_in b) span.from span.count
shown_text command b = []

-- what a command prints
abbrev pub text_at : Option Reached → List ℕ → List ℕ
text_at None shown = shown
text_at (Some reached) shown = reached_text reached

abbrev pub command_text : TapeValue → StopsValue → Command → Board → List ℕ
command_text tape stops command b = text_at (reached_by tape stops command b) (shown_text command b)

-- what the commands of a script print, one after another, each over the board and the stops that
-- the one before it left
unfoldable pub session_text : TapeValue → StopsValue → List Command → Board → List ℕ
session_text tape stops [] b = []
session_text tape stops (command ∷ commands) b =
    command_text tape stops command b ++ session_text tape (stops_after command stops) commands (board_after tape stops command b)

-- the board that they leave
unfoldable pub session_board : TapeValue → StopsValue → List Command → Board → Board
session_board tape stops [] b = b
session_board tape stops (command ∷ commands) b = session_board tape (stops_after command stops) commands (board_after tape stops command b)
