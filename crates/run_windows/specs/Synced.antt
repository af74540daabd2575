-- A synchronised machine: as it is between two runs, to be saved, shown, or run on. This project's
-- own.
use Rattle.std.specs.Prelude.{◌≡◌, ◌<◌}
use Rattle.board_base.specs.declared.divider.TheConstants.{DIVIDER_PERIOD}
use Rattle.catchup_engine.specs.EngineValue.{EngineValue}
use Rattle.lockstep_board.specs.Order.{HasNoRecords}
use Rattle.lockstep_board.specs.Run.{IsPlaced}

-- no record is left, no device lags behind the processor, and the processor and the divider stand
-- where a run can bring them
pub record IsSynced (e : EngineValue) : Type 0 where
  pub placed : IsPlaced e.board
  pub phase : e.board.peripherals.divider.phase < DIVIDER_PERIOD
  pub empty : HasNoRecords e.board
  pub settled : e.lagging ≡ 0
