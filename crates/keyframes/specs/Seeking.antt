-- Boards kept along a run, among which a clock is sought. This project's own choice.
use Rattle.std.specs.Prelude.{◌≡◌, ℕ, ◌+◌, ◌<◌, ◌≤◌, ◌⊎◌, List, [], ◌∷◌, ◌++◌, All, None, IfSome, length, get_or}
use Rattle.board_base.specs.Board.{BoardValue}
use Rattle.tape_ports.specs.declared.entry.TapeEntry.{TapeEntry}
use Rattle.cpu_core.specs.Places.{IsMiddle}
use Rattle.cpu_table.specs.Opcodes.{row_of}
use Rattle.lockstep_board.specs.Lockstep.{Board}
use Rattle.lockstep_board.specs.Order.{cleared}
use Rattle.lockstep_board.specs.Run.{to_clock}
use Rattle.lockstep_board.specs.Peripherals.{board_of, reloaded}
use Rattle.keyframes.specs.declared.pages.TheConstants.{BOARD_PAGES}
use Rattle.keyframes.specs.Keys.{Keyframe, KeyframesValue, last_of, live_of}

-- what can be kept of a lockstep board: all but its image, its wiring and its records
abbrev pub state_of : Board → BoardValue
state_of b = board_of b.cpu b.peripherals

-- a state over the image and with the wiring of a board, with no records yet
abbrev pub over_image : Board → BoardValue → Board
over_image e state = record { cpu = state.cpu; peripherals = reloaded e.peripherals state }

-- where a run with kept boards begins: at the first of them, over the image of the engine's board
abbrev pub run_start : List Keyframe → Board → Board
run_start [] e = e
run_start (first ∷ rest) e = over_image e first.board

-- an engine can take the state on: its jam opcode is undocumented, and it stands at a place of a
-- sequence or between two
pub record CanBeLoaded (state : BoardValue) : Type 0 where
  pub undocumented : IfSome state.cpu.jam (λ o. row_of o ≡ None)
  pub place : IfSome state.cpu.mid (λ _. IsMiddle state.cpu)

-- the kept boards lie along the run that begins at b: the first is b, each is the run's board at
-- its own clock, and an engine can take each on
pub record Along (kept : List Keyframe) (entries : List TapeEntry) (b : Board) : Type 0 where
  pub some : 0 < length kept
  pub first : (d : Keyframe) → (get_or kept 0 d).board ≡ state_of b
  pub each : All (λ keyframe. keyframe.board ≡ state_of (to_clock entries keyframe.board.clock b)) kept
  pub loadable : All (λ keyframe. CanBeLoaded keyframe.board) kept

-- a board without records is that of the run from b at its own clock
abbrev pub IsOnRun : List TapeEntry → Board → Board → Type 0
IsOnRun entries b now = now ≡ cleared (to_clock entries now.peripherals.clock b)

-- the board is kept as the last, in at most 16 pages more, or the last kept board is as late as it
abbrev pub AddsBoard : KeyframesValue → KeyframesValue → Board → Type 0
AddsBoard old new b =
    ((pages : List ℕ) × (new ≡ record old { kept = old.kept ++ (record { board = state_of b; pages = pages }) ∷ [] }) × (live_of new ≤ live_of old + BOARD_PAGES))
    ⊎ ((new ≡ old) × IfSome (last_of old.kept) (λ last. b.peripherals.clock ≤ last.board.clock))
