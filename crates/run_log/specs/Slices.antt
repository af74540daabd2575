-- A run in slices: it is cut at clocks, and the board of each cut is saved, and read back for the
-- slice that follows.
use Rattle.std.specs.Prelude.{ℕ, ◌+◌, ◌*◌, ◌≤◌, Bool, min, List, [], ◌∷◌, ◌++◌, length, Option, if◌then◌else◌}
use Rattle.std.specs.Borrow.{Bor}
use Rattle.std.specs.Option.{option_map}
use Rattle.tape_ports.specs.declared.entry.TapeEntry.{TapeEntry}
use Rattle.log_text.specs.LogText.{cost_text, last_text}
use Rattle.save_state.specs.StateBytes.{state_bytes}
use Rattle.lockstep_board.specs.Budget.{counted, device_accesses, entries_applied, requests, resets_started, wraps}
use Rattle.catchup_engine.specs.EngineValue.{counted_on}
use Rattle.lockstep_board.specs.Lockstep.{Board}
use Rattle.lockstep_board.specs.Run.{boundary_steps, to_clock, to_boundary}
use Rattle.lockstep_board.specs.Peripherals.{board_of}
use Rattle.run_windows.specs.declared.until.Until.TheVariants.{Clock, Boundary}
use Rattle.outside_io.specs.Shelf.{Kept}
use Rattle.outside_io.specs.Events.{Event, DidFirst, sending, storing}
use Rattle.run_log.specs.declared.slices.Wanted as code
use Rattle.run_log.specs.Slice.{slice_text}

-- the bytes of a board, saved
unfoldable pub saved_bytes : Board → List ℕ
saved_bytes b = state_bytes (board_of b.cpu b.peripherals)

-- what a run is asked to store and to write besides its log: the board under a name, the cells of
-- the EAROM under a name, and the device calls
pub record Wanted : Type 0 where
  pub save : Option (List ℕ)
  pub earom : Option (List ℕ)
  pub cost : Bool

abbrev pub wanted_of : Option (Bor (List ℕ)) → Option (Bor (List ℕ)) → Bool → Wanted
wanted_of save earom cost = record { save = option_map (λ name. name.now) save; earom = option_map (λ name. name.now) earom; cost = cost }

-- the same, of the value that the code has
abbrev pub wanted_in : code.Wanted → Wanted
wanted_in wanted = wanted_of wanted.save wanted.earom wanted.cost

-- a slice up to a cut: its lines, and then its board
unfoldable pub cut_events : List TapeEntry → ℕ → Option (List ℕ) → Board → List Event
cut_events entries cut save b = sending (slice_text entries (Clock cut) b) ++ storing save (saved_bytes (to_clock entries cut b))

-- the line of the device calls, where it is asked for
abbrev pub cost_line : Bool → ℕ → List ℕ
cost_line cost calls = if cost then cost_text calls else []

-- the last line of a run, and that of its device calls
abbrev pub ending_text : Wanted → ℕ → Board → List ℕ
ending_text wanted calls last = last_text last.peripherals.clock last.cpu.pc last.cpu.jam ++ cost_line wanted.cost calls

-- the last slice: its lines, the ending of the text, then the board, and then the cells
unfoldable pub last_events : List TapeEntry → ℕ → Wanted → ℕ → Board → List Event
last_events entries limit wanted calls b =
    let last = to_boundary entries limit b in
    sending (slice_text entries (Boundary limit) b)
    ++ (sending (ending_text wanted calls last)
    ++ (storing wanted.save (saved_bytes last) ++ storing wanted.earom last.peripherals.earom.cells))

-- all slices: a cut above the limit falls on it
unfoldable pub run_events : List TapeEntry → ℕ → Wanted → ℕ → List ℕ → Board → List Event
run_events entries limit wanted calls [] b = last_events entries limit wanted calls b
run_events entries limit wanted calls (cut ∷ cuts) b =
    cut_events entries (min cut limit) wanted.save b ++ run_events entries limit wanted calls cuts (to_clock entries (min cut limit) b)

-- the board at the end of the last slice
unfoldable pub last_board : List TapeEntry → ℕ → List ℕ → Board → Board
last_board entries limit [] b = to_boundary entries limit b
last_board entries limit (cut ∷ cuts) b = last_board entries limit cuts (to_clock entries (min cut limit) b)

-- the device calls that a run of so many slices may cost: two for each device access, ten for each
-- wrap and each slice, five for each entry, reset and request of a wired POKEY, and five more
unfoldable pub run_budget : List TapeEntry → ℕ → ℕ → Board → ℕ
run_budget entries limit slices b =
    let n = boundary_steps entries limit b in
    2 * counted entries (device_accesses entries) n b
    + 10 * (counted entries (λ c. wraps c.peripherals) n b + slices)
    + 5 * (counted entries (λ c. entries_applied entries c.peripherals) n b + counted entries (resets_started entries) n b
    + counted entries (λ c. requests entries c.peripherals) n b)
    + 5

-- the device calls after a run with so many cuts, where there were some before it: five for each
-- load at least, or the greatest number of 64 bits, and the budget less five at most
pub record WithinBudget (entries : List TapeEntry) (limit : ℕ) (cuts : ℕ) (b : Board) (before calls : ℕ) : Type 0 where
  pub least : counted_on before (5 * cuts) ≤ calls
  pub most : calls + 5 ≤ before + run_budget entries limit (cuts + 1) b

-- a run that stopped at a fault: the first part of its events was done, with some number of device
-- calls within the budget
pub record StopsIn (entries : List TapeEntry) (limit : ℕ) (wanted : Wanted) (before : ℕ) (cuts : List ℕ) (b : Board) (out0 out1 : Option (List ℕ))
    (stores0 stores1 : Option (List Kept)) : Type 0 where
  pub calls : ℕ
  pub within_budget : WithinBudget entries limit (length cuts) b before calls
  pub did : DidFirst (run_events entries limit wanted calls cuts b) out0 out1 stores0 stores1
