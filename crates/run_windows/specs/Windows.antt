-- A run to a clock or to a boundary, window by window. This project's own.
use Rattle.std.specs.Prelude.{◌≡◌, ℕ, ◌+◌, ◌*◌, List, None}
use Rattle.tape_ports.specs.declared.entry.TapeEntry.{TapeEntry}
use Rattle.lockstep_board.specs.Lockstep.{Board}
use Rattle.lockstep_board.specs.Run.{stepped, boundary_steps, clock_steps, cut_steps, window_limit, wrap_of}
use Rattle.lockstep_board.specs.Budget.{budget, counted, wraps}
use Rattle.lockstep_board.specs.Order.{cleared, records_of}
use Rattle.run_windows.specs.declared.until.Until.{Until}
use Rattle.run_windows.specs.declared.until.Until.TheVariants.{Clock, Boundary}
use Rattle.run_windows.specs.RecordObserver.{AreParts, joined}

abbrev pub clock_in : Until → ℕ
clock_in (Clock cut) = cut
clock_in (Boundary limit) = limit

-- the steps of a run, and those of its next window: up to the run's end or the first boundary after
-- the divider's wrap
abbrev pub steps_to : List TapeEntry → Until → Board → ℕ
steps_to entries (Clock cut) b = clock_steps entries cut b
steps_to entries (Boundary limit) b = boundary_steps entries limit b

abbrev pub window_steps : List TapeEntry → Until → Board → ℕ
window_steps entries (Clock cut) b = cut_steps entries cut (wrap_of b) b
window_steps entries (Boundary limit) b = boundary_steps entries (window_limit limit b) b

-- the board at the end of a run, and of its next window
abbrev pub end_of : List TapeEntry → Until → Board → Board
end_of entries until b = stepped entries (steps_to entries until b) b

abbrev pub window_end : List TapeEntry → Until → Board → Board
window_end entries until b = stepped entries (window_steps entries until b) b

-- the device calls that n steps may cost where somebody sees the records after each wrap: five more
-- for each, since the devices are synced for it
abbrev pub window_price : List TapeEntry → ℕ → Board → ℕ
window_price entries n b = budget entries n b + 5 * counted entries (λ c. wraps c.peripherals) n b

-- those of a run
abbrev pub price_to : List TapeEntry → Until → Board → ℕ
price_to entries until b = window_price entries (steps_to entries until b) b

-- a run to a boundary, and each window of it, ends at a boundary
abbrev pub EndsSo : Until → Board → Type 0
EndsSo (Clock cut) b = Unit {0}
EndsSo (Boundary limit) b = b.cpu.mid ≡ None

-- The next window of a run is a first part of it. The rest of the run is one of its own, from the
-- board whose records are forgotten.
pub record IsFirstWindow (entries : List TapeEntry) (until : Until) (b : Board) : Type 0 where
  pub made : records_of (end_of entries until b)
      ≡ joined (records_of (window_end entries until b)) (records_of (end_of entries until (cleared (window_end entries until b))))
  pub clock : (end_of entries until b).peripherals.clock ≡ (end_of entries until (cleared (window_end entries until b))).peripherals.clock
  pub parts : AreParts b.peripherals.clock (records_of (window_end entries until b)) (window_end entries until b).peripherals.clock
      (records_of (end_of entries until (cleared (window_end entries until b)))) (end_of entries until (cleared (window_end entries until b))).peripherals.clock
  pub board : cleared (end_of entries until b) ≡ cleared (end_of entries until (cleared (window_end entries until b)))
