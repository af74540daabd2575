-- Boundaries at which only the clock has to be looked at.
use Rattle.std.specs.Prelude.{◌≡◌, ℕ, ◌+◌, ◌≤◌, ◌<◌, Bool, true, false, not, ◌&&◌, ◌||◌, is_none, nat_lt}
use Rattle.board_base.specs.Cpu.{CpuValue}
use Rattle.board_base.specs.declared.divider.Pending.TheVariants.{Nothing}
use Rattle.cpu_alu.specs.Flags.{is_masked}
use Rattle.catchup_engine.specs.declared.quiet.Horizon.{Horizon}
use Rattle.catchup_engine.specs.Bus.{BusValue}
use Rattle.lockstep_board.specs.Peripherals.{Peripherals, devices_ticked, line_of}

-- the ticks of a clock don't change the divider's interrupt and its reset
pub record LeavesLines (w : Peripherals) : Type 0 where
  pub irq : (devices_ticked w).divider.irq ≡ w.divider.irq
  pub pending : (devices_ticked w).divider.pending ≡ w.divider.pending

-- clocks in which no event is due make no interrupt of the divider and no reset, whatever is
-- accessed in them
pub record KeepsLines (s t : BusValue) : Type 0 where
  pub event : t.event_at ≡ s.event_at
  pub wired : t.peripherals.wired ≡ s.peripherals.wired
  pub pending : t.peripherals.divider.pending ≡ s.peripherals.divider.pending
  pub irq : s.peripherals.divider.irq ≡ false → t.peripherals.divider.irq ≡ false

-- whether a boundary is before the horizon and its fetch reads an opcode there: the processor runs, and
-- the interrupt line is deasserted as the horizon states, or masked, or where it is asked for, asked
abbrev pub is_before : Bool → Horizon → CpuValue → BusValue → Bool
is_before asked horizon c s =
    nat_lt s.peripherals.clock horizon.until
    && (is_none c.jam && ((horizon.irq_idle || is_masked c.p) || (asked && not (line_of (devices_ticked s.peripherals)))))

-- at the boundaries before a clock no run to this limit ends, no event is due in the clocks of a
-- sequence that begins there, no reset is pending, and where it says so the interrupt line is
-- deasserted
pub record NothingDue (limit : ℕ) (horizon : Horizon) (s : BusValue) : Type 0 where
  pub before : horizon.until ≤ limit
  pub no_event : horizon.until + 6 ≤ s.event_at
  pub pending : s.peripherals.divider.pending ≡ Nothing
  pub irq_idle : horizon.irq_idle ≡ true → (s.peripherals.wired ≡ false) × (s.peripherals.divider.irq ≡ false)

-- where this boundary is before that clock, it is so from here on
abbrev pub IsHorizon : ℕ → Horizon → BusValue → Type 0
IsHorizon limit horizon s = s.peripherals.clock < horizon.until → NothingDue limit horizon s
