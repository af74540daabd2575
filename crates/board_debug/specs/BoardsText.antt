-- The texts of boards of a run, each at a clock that is asked for. This project's own choice.
use Rattle.std.specs.Prelude.{ℕ, List, flat_map}
use Rattle.tape_ports.specs.declared.entry.TapeEntry.{TapeEntry}
use Rattle.lockstep_board.specs.Lockstep.{Board}
use Rattle.lockstep_board.specs.Run.{to_clock}
use Rattle.keyframes.specs.Seeking.{state_of}
use Rattle.board_debug.specs.BoardText.{board_text}

-- the boards of the run from b, one after another in the asked order; at a clock below b's own it
-- is b
unfoldable pub boards_text : List TapeEntry → List ℕ → Board → List ℕ
boards_text entries clocks b = flat_map (λ clock. board_text (state_of (to_clock entries clock b))) clocks
