-- Laws of a run in slices.
use Rattle.std.proofs.Common.{◌≡◌, ℕ, List, take-append-drop, refl, ap, ◌∙◌}
use Rattle.board_base.specs.declared.vector_memory.TheConstants.{VECTOR_RAM_LEN}
use Rattle.tape_ports.specs.declared.entry.TapeEntry.{TapeEntry}
use Rattle.board_base.specs.Board.{BoardValue}
use Rattle.catchup_engine.specs.EngineValue.{EngineValue, counted_on}
use Rattle.lockstep_board.specs.Order.{HasNoRecords, cleared, Recorded, behind}
use Rattle.lockstep_board.specs.Lockstep.{Board}
use Rattle.lockstep_board.specs.Run.{to_clock, to_boundary}
use Rattle.lockstep_board.specs.Peripherals.{board_of, reloaded}
use Rattle.run_windows.specs.declared.until.Until.TheVariants.{Clock, Boundary}
use Rattle.run_windows.specs.Windows.{end_of}
use Rattle.run_log.specs.Slices.{Wanted, ending_text, saved_bytes}
use Rattle.lockstep_board.proofs.Ended.{cleared-empty}
use Rattle.run_windows.proofs.WatchLaws.{from-behind}

-- a board that is read back over the same peripherals is the same board
pub reload-same : (b : Board) → HasNoRecords b
    → (let again : Board = record { cpu = b.cpu; peripherals = reloaded b.peripherals (board_of b.cpu b.peripherals) } in again) ≡ b
reload-same b none =
    ap (λ (memory : List ℕ). let again : Board = record { cpu = b.cpu; peripherals = record (cleared b).peripherals { memory = memory } } in again)
    (take-append-drop VECTOR_RAM_LEN b.peripherals.memory)
    ∙ cleared-empty b none

-- an engine that has taken on its own board again has five device calls more
pub loaded-same : (now after : EngineValue) (s : BoardValue) → HasNoRecords now.board
    → after ≡ (let e : EngineValue = record now { board = record { cpu = s.cpu; peripherals = reloaded now.board.peripherals s }; calls = counted_on now.calls 5 } in e)
    → s ≡ board_of now.board.cpu now.board.peripherals
    → after ≡ (let e : EngineValue = record now { calls = counted_on now.calls 5 } in e)
loaded-same now after s none loaded same =
    loaded
    ∙ ap (λ (s : BoardValue). let e : EngineValue = record now { board = record { cpu = s.cpu; peripherals = reloaded now.board.peripherals s }; calls = counted_on now.calls 5 } in e) same
    ∙ ap (λ (b : Board). let e : EngineValue = record now { board = b; calls = counted_on now.calls 5 } in e) (reload-same now.board none)

-- records aren't saved
pub saved-cleared : (b now : Board) (held : List ℕ) → now ≡ cleared b → held ≡ saved_bytes now → held ≡ saved_bytes b
unfolding saved_bytes
saved-cleared b now held is saved = saved ∙ ap saved_bytes is

-- a slice ends where the run does
clock-end : (entries : List TapeEntry) (cut : ℕ) (b : Board) → end_of entries (Clock cut) b ≡ to_clock entries cut b
unfolding to_clock
clock-end entries cut b = refl

boundary-end : (entries : List TapeEntry) (limit : ℕ) (b : Board) → end_of entries (Boundary limit) b ≡ to_boundary entries limit b
unfolding to_boundary
boundary-end entries limit b = refl

pub at-cut : (entries : List TapeEntry) (cut : ℕ) (b now : Board) → now ≡ cleared (end_of entries (Clock cut) b) → now ≡ cleared (to_clock entries cut b)
at-cut entries cut b now is = is ∙ ap cleared (clock-end entries cut b)

pub at-end : (entries : List TapeEntry) (limit : ℕ) (b now : Board) → now ≡ cleared (end_of entries (Boundary limit) b)
    → now ≡ cleared (to_boundary entries limit b)
at-end entries limit b now is = is ∙ ap cleared (boundary-end entries limit b)

-- the ending depends on no record
pub ending-behind : (wanted : Wanted) (calls : ℕ) (l : Recorded) (b : Board) → ending_text wanted calls (behind l b) ≡ ending_text wanted calls b
ending-behind wanted calls l b = refl

pub ending-cleared : (wanted : Wanted) (calls : ℕ) (b now : Board) → now ≡ cleared b → ending_text wanted calls now ≡ ending_text wanted calls b
ending-cleared wanted calls b now is = ap (ending_text wanted calls) is ∙ from-behind (ending_text wanted calls) (ending-behind wanted calls) b

pub cells-cleared : (b now : Board) (held : List ℕ) → now ≡ cleared b → held ≡ now.peripherals.earom.cells → held ≡ b.peripherals.earom.cells
cells-cleared b now held is kept = kept ∙ ap (λ (n : Board). n.peripherals.earom.cells) is
