-- What a board begins with. This project's own.
use Rattle.std.specs.Prelude.{◌≡◌, ◌≤◌, ℕ, Bool, List, []}
use Rattle.board_base.specs.Board.{BoardValue}
use Rattle.board_base.specs.Trail.{TrailValue}
use Rattle.catchup_engine.specs.declared.bus.TheConstants.{TRAIL_ROOM}
use Rattle.lockstep_board.specs.Peripherals.{Peripherals, peripherals_of}

-- a trail without a record, with room for those of a window
abbrev pub IsNew : TrailValue → Type 0
IsNew t = (t.records ≡ []) × (TRAIL_ROOM ≤ t.room) × (t.spare ≡ t.room)

-- the peripherals of a board over this vector memory and this program ROM, without records
abbrev pub peripherals_over : Bool → BoardValue → List ℕ → List ℕ → Peripherals
peripherals_over wired b memory program = record (peripherals_of [] wired b) { memory = memory; program = program }
