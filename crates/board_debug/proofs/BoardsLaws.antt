-- The texts of boards of a run, one after another.
use Rattle.std.proofs.Common.{◌≡◌, ℕ, ◌+◌, ◌<◌, ◌≤◌, List, [], ◌++◌, length, drop, get_or, ap, add-one}
use Rattle.std.proofs.Math.Seq.{drop-cons}
use Rattle.std.proofs.lemmas.List.{drop_all}
use Rattle.board_base.specs.Board.{BoardValue}
use Rattle.tape_ports.specs.declared.entry.TapeEntry.{TapeEntry}
use Rattle.lockstep_board.specs.Order.{cleared}
use Rattle.lockstep_board.specs.Lockstep.{Board}
use Rattle.lockstep_board.specs.Run.{to_clock}
use Rattle.keyframes.specs.Seeking.{state_of}
use Rattle.board_debug.specs.BoardText.{board_text}
use Rattle.board_debug.specs.BoardsText.{boards_text}

-- the board at an asked clock, and those at the later ones; an engine shows it without its records
pub board-on : (entries : List TapeEntry) (clocks : List ℕ) (i d : ℕ) (b start now : Board) (state : BoardValue) → i < length clocks
    → now ≡ cleared (to_clock entries (get_or clocks i d) start) → start ≡ b → state ≡ state_of now
    → boards_text entries (drop i clocks) b ≡ board_text state ++ boards_text entries (drop (i + 1) clocks) b
unfolding boards_text
board-on entries clocks i d b start now state inside reached same is =
    let first = drop-cons clocks i d inside in
    let next = add-one i in
    cc

-- after the last of them
pub board-last : (entries : List TapeEntry) (clocks : List ℕ) (i : ℕ) (b : Board) → length clocks ≤ i → boards_text entries (drop i clocks) b ≡ []
unfolding boards_text
board-last entries clocks i b all = ap (λ (asked : List ℕ). boards_text entries asked b) (drop_all i clocks all)
