-- What `run IMAGE TAPE` does where both files are well-formed: the outcome for this line alone.
use Rattle.std.specs.Prelude.{ℕ, ◌++◌, false, List, [], ◌∷◌, codes, None}
use Rattle.board_base.specs.Board.{board_at_power_on}
use Rattle.command_line.specs.CommandValue.{RunValue}
use Rattle.command_line.specs.Settings.{no_settings}
use Rattle.lockstep_board.specs.Lockstep.{Board}
use Rattle.lockstep_board.specs.Peripherals.{peripherals_of}
use Rattle.lockstep_board.specs.Run.{boundary_steps, to_boundary}
use Rattle.outside_io.specs.Events.{sending}
use Rattle.run_log.specs.Slice.{text_of_steps}
use Rattle.run_log.specs.Slices.{ending_text}
use Rattle.tape_ports.specs.Tape.{TapeValue}
use Rattle.gravitar_commands.specs.Outcome.{Outcome, status_at}

-- the words of the command
abbrev pub plain_words : List ℕ → List ℕ → List (List ℕ)
plain_words image tape = codes "run" ∷ image ∷ tape ∷ []

-- they are read as a run of these two files, with no option
abbrev pub plain_value : List ℕ → List ℕ → RunValue
plain_value image tape = record { image = image; tape = tape; settings = no_settings }

-- the board at power-on, over an image
abbrev pub powered_on : List ℕ → Board
powered_on image = record { cpu = board_at_power_on.cpu; peripherals = peripherals_of image false board_at_power_on }

-- it is advanced a clock at a time to the tape's END, or to a jam
abbrev pub board_at_end : List ℕ → TapeValue → Board
board_at_end image tape = to_boundary tape.entries tape.end (powered_on image)

-- the lines of the records of these clocks
abbrev pub plain_log : List ℕ → TapeValue → List ℕ
plain_log image tape = text_of_steps tape.entries (boundary_steps tape.entries tape.end (powered_on image)) (powered_on image)

-- the last line, with no line of device calls
abbrev pub plain_end : List ℕ → TapeValue → List ℕ
plain_end image tape = ending_text (record { save = None; earom = None; cost = false }) 0 (board_at_end image tape)

-- the lines are written, and then the last one; nothing is stored
abbrev pub plain_outcome : List ℕ → TapeValue → Outcome
plain_outcome image tape = record {
  status = status_at (board_at_end image tape);
  note = [];
  events = sending (plain_log image tape) ++ sending (plain_end image tape);
}
