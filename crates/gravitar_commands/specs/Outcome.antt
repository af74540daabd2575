-- What a command writes, stores and answers, by its words and its files.
use Rattle.std.specs.Prelude.{ℕ, ◌+◌, ◌==◌, min, Bool, false, List, [], ◌++◌, length, replicate, take, codes, nat_lt, Option, Some, None, Result, Ok, Err, IfSome, IfOk, if◌then◌else◌}
use Rattle.asm_core.specs.declared.listing.ListingLine.{ListingLine}
use Rattle.asm_text.specs.declared.scan.TheConstants.{TEXT_LIMIT}
use Rattle.rom_image.specs.declared.image.TheConstants.{IMAGE_LEN}
use Rattle.rom_image.specs.declared.fault.ImageFault.TheVariants.{Length}
use Rattle.tape_ports.specs.declared.tape.TheConstants.{TAPE_LIMIT}
use Rattle.tape_ports.specs.declared.fault.LineCause.{LineCause}
use Rattle.tape_ports.specs.declared.fault.TapeFault.TheVariants.{TooLong, BadLine}
use Rattle.tape_ports.specs.declared.entry.TapeEntry.{TapeEntry}
use Rattle.tape_ports.specs.Tape.{TapeValue}
use Rattle.tape_ports.specs.Grammar.{tape_of}
use Rattle.save_state.specs.declared.TheConstants.{STATE_LEN}
use Rattle.save_state.specs.declared.fault.StateFault.{StateFault}
use Rattle.save_state.specs.Reading.{ReadsState}
use Rattle.board_base.specs.declared.earom.TheConstants.{CELLS}
use Rattle.board_base.specs.Board.{BoardValue, board_at_power_on}
use Rattle.board_debug.specs.BoardText.{board_text}
use Rattle.board_debug.specs.Session.{session_text}
use Rattle.debug_script.specs.declared.command.Command.{Command}
use Rattle.debug_script.specs.declared.fault.ScriptFault.TheVariants as script
use Rattle.debug_script.specs.declared.script.TheConstants.{SCRIPT_LIMIT}
use Rattle.debug_script.specs.Script.{script_of}
use Rattle.debug_script.specs.Breakpoints.{no_stops}
use Rattle.command_line.specs.CommandLine.{command_of}
use Rattle.command_line.specs.CommandValue.{AsmValue, CommandValue, DebugValue, RunValue, asm_of, debug_of, frames_of, pcm_of, profile_of, run_of, seek_of, show_of, soak_of}
use Rattle.command_line.specs.SettingsValue.{SettingsValue}
use Rattle.outside_io.specs.Shelf.{Files}
use Rattle.run_summary.specs.SoakText.{run_text}
use Rattle.workload_gen.specs.Roms.{image_of}
use Rattle.workload_gen.specs.Tape as workload
use Rattle.lockstep_board.specs.Peripherals.{peripherals_of}
use Rattle.lockstep_board.specs.Lockstep.{Board}
use Rattle.gravitar_commands.specs.declared.assembled.Assembled.{Assembled}
use Rattle.gravitar_commands.specs.declared.assembled.Language.{Language}
use Rattle.gravitar_commands.specs.declared.assembled.Language.TheVariants.{Processor, Generator}
use Rattle.gravitar_commands.specs.declared.parts.Parts.{Parts}
use Rattle.gravitar_commands.specs.declared.cause.Cause.{Cause}
use Rattle.gravitar_commands.specs.declared.cause.Cause.TheVariants.{Absent, Image, Tape, State, Cells, Script}
use Rattle.gravitar_commands.specs.declared.reporting.RunReport.TheVariants.{Samples, Frames, Profile}
use Rattle.gravitar_commands.specs.Causes.{cause_text}
use Rattle.outside_io.specs.Events.{Event, sending, storing}
use Rattle.gravitar_commands.specs.Endings.{ending_by, status_of_ending}
use Rattle.run_log.specs.Slices.{WithinBudget, Wanted, last_board, run_events}
use Rattle.gravitar_commands.specs.Sources.{assembled_in, both_listings, source_read}
use Rattle.gravitar_commands.specs.RunReport.{sought_text, report_text}

pub record Outcome : Type 0 where
  pub status : ℕ
  pub note : List ℕ
  pub events : List Event

-- a command that was refused: nothing is written or stored
abbrev pub refused : ℕ → List ℕ → Outcome
refused status note = record { status = status; note = note; events = [] }

-- the notes of the statuses
abbrev pub usage_text : List ℕ
usage_text =
    codes "gravitar: usage: run IMAGE TAPE, asm CPUSRC VGSRC OUT, debug IMAGE TAPE SCRIPT, show STATE, soak SEED, pcm IMAGE TAPE N, frames IMAGE TAPE, seek IMAGE TAPE N,N,.., profile IMAGE TAPE\n"

abbrev pub outside_text : List ℕ
outside_text = codes "gravitar: outside fault\n"

abbrev pub memory_text : List ℕ
memory_text = codes "gravitar: no memory\n"

-- the note on a file
abbrev pub note_text : List ℕ → List ℕ → List ℕ
note_text name cause = codes "gravitar: " ++ (name ++ (codes ": " ++ (cause ++ codes "\n")))

-- what comes next, where nothing was refused
abbrev pub and_then : {A B : Type 0} → Result A Outcome → (A → Result B Outcome) → Result B Outcome
and_then (Ok a) next = next a
and_then (Err refusal) next = Err refusal

-- a file's first bytes, one more than the limit at most
abbrev pub first_bytes : List ℕ → ℕ → Option (List ℕ) → Result (List ℕ) Outcome
first_bytes name limit None = Err (refused 5 (note_text name (cause_text Absent)))
first_bytes name limit (Some bytes) = Ok (take (limit + 1) bytes)

-- what a reader made of a file's bytes, or the cause of its refusal
abbrev pub read_as : {A : Type 0} → List ℕ → Result A Cause → Result A Outcome
read_as name (Ok value) = Ok value
read_as name (Err cause) = Err (refused 4 (note_text name (cause_text cause)))

-- an image has one length
unfoldable pub image_read : List ℕ → Result (List ℕ) Cause
image_read bytes = if length bytes == IMAGE_LEN then Ok bytes else Err (Image (Length (length bytes)))

-- the tape of a text, or the cause of its refusal
abbrev pub tape_or_cause : Result TapeValue (ℕ × LineCause) → Result TapeValue Cause
tape_or_cause (Ok tape) = Ok tape
tape_or_cause (Err fault) = Err (Tape (BadLine fault.0 fault.1))

unfoldable pub tape_read : List ℕ → Result TapeValue Cause
tape_read bytes = if nat_lt TAPE_LIMIT (length bytes) then Err (Tape TooLong) else tape_or_cause (tape_of bytes)

-- the board that bytes are read as, or the cause of their refusal: the reading is given by a
-- relation
abbrev pub state_read : Result BoardValue StateFault → Result BoardValue Cause
state_read (Ok board) = Ok board
state_read (Err fault) = Err (State fault)

-- the cells of an EAROM have one length
unfoldable pub cells_read : List ℕ → Result (List ℕ) Cause
cells_read bytes = if length bytes == CELLS then Ok bytes else Err (Cells (length bytes))

unfoldable pub image_file : Files → List ℕ → Result (List ℕ) Outcome
image_file files name = and_then (first_bytes name IMAGE_LEN (files name)) (λ bytes. read_as name (image_read bytes))

unfoldable pub tape_file : Files → List ℕ → Result TapeValue Outcome
tape_file files name = and_then (first_bytes name TAPE_LIMIT (files name)) (λ bytes. read_as name (tape_read bytes))

-- a state file whose bytes are read so
unfoldable pub state_file : Files → List ℕ → Result BoardValue StateFault → Result BoardValue Outcome
state_file files name reading = and_then (first_bytes name STATE_LEN (files name)) (λ bytes. read_as name (state_read reading))

unfoldable pub cells_file : Files → List ℕ → Result (List ℕ) Outcome
cells_file files name = and_then (first_bytes name CELLS (files name)) (λ bytes. read_as name (cells_read bytes))

-- the board to begin with: that of the state file, or the one at power-on
abbrev pub board_file : Files → Option (List ℕ) → Result BoardValue StateFault → Result BoardValue Outcome
board_file files None reading = Ok board_at_power_on
board_file files (Some name) reading = state_file files name reading

-- its cells are those of the EAROM file, where there is one
abbrev pub with_cells : BoardValue → List ℕ → BoardValue
with_cells board cells = record board { earom = record board.earom { cells = cells } }

abbrev pub cells_into : Files → Option (List ℕ) → BoardValue → Result BoardValue Outcome
cells_into files None board = Ok board
cells_into files (Some name) board = and_then (cells_file files name) (λ cells. Ok (with_cells board cells))

-- the files of a run, each read wholly before the next: image, tape, state, EAROM
unfoldable pub both_files : Files → RunValue → Result (List ℕ × TapeValue) Outcome
both_files files run =
    and_then (image_file files run.image) (λ image. and_then (tape_file files run.tape) (λ tape. Ok (image, tape)))

unfoldable pub start_files : Files → SettingsValue → Result BoardValue StateFault → Result BoardValue Outcome
start_files files said reading = and_then (board_file files said.state reading) (λ board. cells_into files said.earom board)

unfoldable pub run_files : Files → RunValue → Result BoardValue StateFault → Result Parts Outcome
run_files files run reading =
    and_then (both_files files run) (λ both.
    and_then (start_files files run.settings reading) (λ board. Ok (record { image = both.0; tape = both.1; board = board })))

-- a source, assembled into an image
unfoldable pub source_file : Language → Files → List ℕ → List ℕ → Result (List ℕ × List ListingLine) Outcome
source_file language files name image = and_then (first_bytes name TEXT_LIMIT (files name)) (λ bytes. read_as name (source_read (assembled_in language bytes image)))

-- both sources, the processor's wholly before the generator's, into one blank image
unfoldable pub asm_files : Files → AsmValue → Result Assembled Outcome
asm_files files asm =
    and_then (source_file Processor files asm.processor (replicate IMAGE_LEN 0)) (λ first.
    and_then (source_file Generator files asm.generator first.0) (λ second.
    Ok (record { image = second.0; processor = first.1; generator = second.1 })))

-- the commands of a script, or the cause of its refusal
abbrev pub script_or_cause : Result (List Command) ℕ → Result (List Command) Cause
script_or_cause (Ok commands) = Ok commands
script_or_cause (Err number) = Err (Script (script.BadCommand number))

unfoldable pub script_read : List ℕ → Result (List Command) Cause
script_read bytes = if nat_lt SCRIPT_LIMIT (length bytes) then Err (Script script.TooLong) else script_or_cause (script_of bytes)

unfoldable pub script_file : Files → List ℕ → Result (List Command) Outcome
script_file files name = and_then (first_bytes name SCRIPT_LIMIT (files name)) (λ bytes. read_as name (script_read bytes))

-- the files of a debugger's session: those of a run, and then its script
unfoldable pub debug_files : Files → DebugValue → Result BoardValue StateFault → Result (Parts × List Command) Outcome
debug_files files debug reading =
    and_then (run_files files debug.run reading) (λ parts. and_then (script_file files debug.script) (λ commands. Ok (parts, commands)))

-- the board that a run begins with: with `--timers` the POKEYs are wired to the interrupt line
abbrev pub first_board : Bool → Parts → Board
first_board wired parts = record { cpu = parts.board.cpu; peripherals = peripherals_of parts.image wired parts.board }

-- a run ends at the tape's END clock, or at the clock of `--until` where that is smaller
abbrev pub limit_of : Option ℕ → ℕ → ℕ
limit_of None end = end
limit_of (Some until) end = min until end

abbrev pub wanted_by : SettingsValue → Wanted
wanted_by said = record { save = said.save; earom = said.earom; cost = said.cost }

-- the status of a run that has ended at this board
abbrev pub status_at : Board → ℕ
status_at b = status_of_ending (ending_by b.cpu.jam)

-- a run, with this number in the line of its device calls
unfoldable pub run_outcome : SettingsValue → Parts → ℕ → Outcome
run_outcome said parts calls =
    let entries = parts.tape.entries in
    let limit = limit_of said.until parts.tape.end in
    let first = first_board said.timers parts in
    record {
      status = status_at (last_board entries limit said.cuts first);
      note = [];
      events = run_events entries limit (wanted_by said) calls said.cuts first;
    }

-- the text of a board
abbrev pub show_outcome : BoardValue → Outcome
show_outcome board = record { status = 0; note = []; events = sending (board_text board) }

-- what the commands of a script print
unfoldable pub debug_outcome : Bool → Parts → List Command → Outcome
debug_outcome wired parts commands =
    record { status = 0; note = []; events = sending (session_text parts.tape no_stops commands (first_board wired parts)) }

-- the workload of a number is run from power-on
abbrev pub workload_of : ℕ → Parts
workload_of seed = record { image = image_of seed; tape = workload.tape_of seed; board = board_at_power_on }

-- the summary of the workload's run to the end of its tape, with no wired timers
unfoldable pub soak_outcome : ℕ → Outcome
soak_outcome seed =
    let parts = workload_of seed in
    record { status = 0; note = []; events = sending (run_text parts.tape.entries parts.tape.end (first_board false parts)) }

-- a text of a run to a limit, with wired timers or without
abbrev pub text_outcome : Bool → ℕ → (List TapeEntry → ℕ → Board → List ℕ) → Parts → Outcome
text_outcome wired limit text parts =
    record { status = 0; note = []; events = sending (text parts.tape.entries limit (first_board wired parts)) }

-- that of a run of these settings, and nothing else: its cells aren't stored
abbrev pub report_outcome : SettingsValue → (List TapeEntry → ℕ → Board → List ℕ) → Parts → Outcome
report_outcome said text parts = text_outcome said.timers (limit_of said.until parts.tape.end) text parts

-- both listings, and then the image, stored under its name
unfoldable pub asm_outcome : List ℕ → Assembled → Outcome
asm_outcome name made = record { status = 0; note = []; events = sending (both_listings made) ++ storing (Some name) made.image }

-- what comes of a command's files, or the refusal of one
abbrev pub finished : {A : Type 0} → Result A Outcome → (A → Outcome) → Outcome
finished (Ok a) outcome = outcome a
finished (Err refusal) outcome = refusal

-- the outcome of a command over these files, with this reading of its state file and this number of
-- device calls
unfoldable pub command_outcome : CommandValue → Files → Result BoardValue StateFault → ℕ → Outcome
command_outcome (run_of run) files reading calls =
    finished (run_files files run reading) (λ parts. run_outcome run.settings parts calls)
command_outcome (asm_of asm) files reading calls = finished (asm_files files asm) (asm_outcome asm.image)
command_outcome (debug_of debug) files reading calls =
    finished (debug_files files debug reading) (λ session. debug_outcome debug.run.settings.timers session.0 session.1)
command_outcome (show_of name) files reading calls = finished (state_file files name reading) show_outcome
command_outcome (soak_of seed) files reading calls = soak_outcome seed
command_outcome (pcm_of pcm) files reading calls =
    finished (run_files files pcm.run reading) (report_outcome pcm.run.settings (report_text (Samples pcm.per)))
command_outcome (frames_of run) files reading calls = finished (run_files files run reading) (report_outcome run.settings (report_text Frames))
command_outcome (seek_of seek) files reading calls =
    finished (run_files files seek.run reading) (report_outcome seek.run.settings (sought_text seek.clocks))
command_outcome (profile_of run) files reading calls = finished (run_files files run reading) (report_outcome run.settings (report_text Profile))

-- the name of a command's state file
abbrev pub state_name : CommandValue → Option (List ℕ)
state_name (run_of run) = run.settings.state
state_name (asm_of asm) = None
state_name (debug_of debug) = debug.run.settings.state
state_name (show_of name) = Some name
state_name (soak_of seed) = None
state_name (pcm_of pcm) = pcm.run.settings.state
state_name (frames_of run) = run.settings.state
state_name (seek_of seek) = seek.run.settings.state
state_name (profile_of run) = run.settings.state

-- the reading is that of the state file's bytes, where there are any
abbrev pub IsReading : Option (List ℕ) → Files → Result BoardValue StateFault → Type 0
IsReading name files reading = IfSome name (λ n. IfSome (files n) (λ bytes. ReadsState (take (STATE_LEN + 1) bytes) reading))

-- the number of device calls is one that a run of these parts may have: from five for each slice up
-- to its budget, the first five being those of taking up the first board
abbrev pub RunWithinBudget : SettingsValue → Parts → ℕ → Type 0
RunWithinBudget said parts calls =
    WithinBudget parts.tape.entries (limit_of said.until parts.tape.end) (length said.cuts) (first_board said.timers parts) 5 calls

abbrev pub IsNumber : CommandValue → Files → Result BoardValue StateFault → ℕ → Type 0
IsNumber (run_of run) files reading calls = IfOk (run_files files run reading) (λ parts. RunWithinBudget run.settings parts calls)
IsNumber (asm_of asm) files reading calls = Unit {0}
IsNumber (debug_of debug) files reading calls = Unit {0}
IsNumber (show_of name) files reading calls = Unit {0}
IsNumber (soak_of seed) files reading calls = Unit {0}
IsNumber (pcm_of pcm) files reading calls = Unit {0}
IsNumber (frames_of run) files reading calls = Unit {0}
IsNumber (seek_of seek) files reading calls = Unit {0}
IsNumber (profile_of run) files reading calls = Unit {0}

-- this holds of the outcome of a command. Words and files fix it but for the number of device
-- calls, which is within the budget.
pub record CommandComes (command : CommandValue) (files : Files) (reading : Result BoardValue StateFault) (holds : Outcome → Type 0) : Type 0 where
  pub calls : ℕ
  pub within_budget : IsNumber command files reading calls
  pub of_outcome : holds (command_outcome command files reading calls)

-- this holds of the reading of a state file
abbrev pub ForReading : Option (List ℕ) → Files → (Result BoardValue StateFault → Type 0) → Type 0
ForReading name files holds = (reading : Result BoardValue StateFault) → IsReading name files reading → holds reading

-- the same over the files of a shelf, where they are known
abbrev pub ComesOver : CommandValue → Option Files → (Outcome → Type 0) → Type 0
ComesOver command known holds =
    IfSome known (λ files. ForReading (state_name command) files (λ reading. CommandComes command files reading holds))

-- the same of words: malformed ones are refused, and a command that reads no file has its outcome
-- whether the files of the shelf are known or not
abbrev pub ComesOf : Option CommandValue → Option Files → (Outcome → Type 0) → Type 0
ComesOf None known holds = holds (refused 2 usage_text)
ComesOf (Some (run_of run)) known holds = ComesOver (run_of run) known holds
ComesOf (Some (asm_of asm)) known holds = ComesOver (asm_of asm) known holds
ComesOf (Some (debug_of debug)) known holds = ComesOver (debug_of debug) known holds
ComesOf (Some (show_of name)) known holds = ComesOver (show_of name) known holds
ComesOf (Some (soak_of seed)) known holds = holds (soak_outcome seed)
ComesOf (Some (pcm_of pcm)) known holds = ComesOver (pcm_of pcm) known holds
ComesOf (Some (frames_of run)) known holds = ComesOver (frames_of run) known holds
ComesOf (Some (seek_of seek)) known holds = ComesOver (seek_of seek) known holds
ComesOf (Some (profile_of run)) known holds = ComesOver (profile_of run) known holds

abbrev pub Comes : List (List ℕ) → Option Files → (Outcome → Type 0) → Type 0
Comes words known holds = ComesOf (command_of words) known holds

-- a command that runs an image to the end of a tape, the one whose status says that it jammed
abbrev pub IsRun : Option CommandValue → Type 0
IsRun None = ⊥
IsRun (Some (run_of run)) = Unit {0}
IsRun (Some (asm_of asm)) = ⊥
IsRun (Some (debug_of debug)) = ⊥
IsRun (Some (show_of name)) = ⊥
IsRun (Some (soak_of seed)) = ⊥
IsRun (Some (pcm_of pcm)) = ⊥
IsRun (Some (frames_of run)) = ⊥
IsRun (Some (seek_of seek)) = ⊥
IsRun (Some (profile_of run)) = ⊥
