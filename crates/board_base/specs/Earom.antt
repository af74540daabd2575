-- The EAROM, as a plain record. Its behaviour is this project's own choice, after the ER2055 data
-- sheet.
use Rattle.std.specs.Prelude.{◌≡◌, ◌<◌, ◌≤◌, length, replicate}
use Rattle.board_base.specs.declared.earom.TheConstants.{CELLS, HOLD_CLOCKS}
use Rattle.board_base.specs.declared.earom.EaromState.TheInside.{Inside}

-- the fields of `EaromState`
abbrev pub EaromValue : Type 0
EaromValue = Inside

-- the cells, four control bits, and a hold that stops when it is complete
pub record IsEarom (e : EaromValue) : Type 0 where
  pub addr : e.addr < CELLS
  pub control : e.control < 16
  pub hold : e.hold ≤ HOLD_CLOCKS
  pub cells : length e.cells ≡ CELLS

-- a fresh EAROM is erased: all its cells are FF
abbrev pub earom_at_power_on : EaromValue
earom_at_power_on =
    record { addr = 0; value = 0; control = 0; hold = 0; out = 255; cells = replicate CELLS 255 }
