-- Clocks in which no event is due: the devices tick, and no more.
use Rattle.std.specs.Prelude.{◌≡◌, ℕ, ◌+◌, ◌-◌, ◌≤◌, ◌++◌, ◌==◌, false, min, if◌then◌else◌}
use Rattle.board_base.specs.declared.board.TheConstants.{CLOCK_END}
use Rattle.board_base.specs.Ticks.{made, ticks, times}
use Rattle.avg_device.specs.Tick.{vg_gives, vg_tick}
use Rattle.earom_cells.specs.Tick.{earom_tick}
use Rattle.irq_watchdog.specs.Tick.{divider_tick}
use Rattle.pokey_chip.specs.Tick.{levels_made, pokey_tick}
use Rattle.tape_ports.specs.Tape.{TapeValue}
use Rattle.catchup_engine.specs.Bus.{Accepts, BusValue, room_of}
use Rattle.catchup_engine.specs.Lags.{all_lag}
use Rattle.lockstep_board.specs.Peripherals.{Peripherals}

-- the peripherals n such clocks later
unfoldable pub later : ℕ → Peripherals → Peripherals
later n w = record w {
  clock = w.clock + n;
  divider = times divider_tick n w.divider;
  vg = ticks (vg_tick w.memory) w.clock n w.vg;
  sound1 = times pokey_tick n w.sound1;
  sound2 = times pokey_tick n w.sound2;
  earom = times earom_tick n w.earom;
  strokes = w.strokes ++ made (vg_tick w.memory) vg_gives w.clock n w.vg;
  levels1 = w.levels1 ++ levels_made w.clock n w.sound1;
  levels2 = w.levels2 ++ levels_made w.clock n w.sound2;
}

-- the bus n such clocks later: each device lags behind them
unfoldable pub passed : ℕ → BusValue → BusValue
passed n s = record s { peripherals = later n s.peripherals; lagging = if n == 0 then s.lagging else all_lag }

-- n clocks are counted that the bus hasn't got yet: with them it accepts its tape, no event is due
-- in them, and there is room for them
pub record IsCounted (tape : TapeValue) (n : ℕ) (s : BusValue) : Type 0 where
  pub accepts : Accepts tape (passed n s)
  pub between : s.clock_open ≡ false
  pub no_event : s.peripherals.clock + n ≤ s.event_at
  pub last : s.peripherals.clock + n ≤ CLOCK_END
  pub until : s.peripherals.clock + n ≤ s.until

-- the accesses for which it has room before the next event
abbrev pub quiet_room : ℕ → BusValue → ℕ
quiet_room n s = min (room_of (passed n s)) (s.event_at - (s.peripherals.clock + n))
