-- When the calls of an engine may be made and what they do, each stated once: an engine, a machine
-- and those who use one cite it.
use Rattle.std.specs.Prelude.{◌≡◌, ℕ, ◌+◌, ◌-◌, ◌≤◌, ◌<◌, ◌||◌, Bool, true, false, List, None}
use Rattle.board_base.specs.declared.board.TheConstants.{CLOCK_LIMIT}
use Rattle.tape_ports.specs.declared.entry.TapeEntry.{TapeEntry}
use Rattle.lockstep_board.specs.declared.stop.Stop.{Stop}
use Rattle.lockstep_board.specs.declared.stop.Stop.TheVariants.{Window}
use Rattle.lockstep_board.specs.Breaks.{BreakRun}
use Rattle.lockstep_board.specs.Budget.{budget}
use Rattle.lockstep_board.specs.Order.{HasNoRecords}
use Rattle.lockstep_board.specs.Run.{boundary_steps, cause_of, cut_steps, is_over, to_boundary, to_cut, window_limit, wrap_of}
use Rattle.catchup_engine.specs.EngineValue.{EngineValue, counted_on}
use Rattle.catchup_engine.specs.StopConditions.{ConditionsValue, asks_generator, stops_at}
use Rattle.catchup_engine.specs.Trace.{TraceValue}
use Rattle.catchup_engine.specs.Traced.{TracedRun}

-- it is ready, as between two calls: no device lags, and no trail has a record
pub record IsReady (v : EngineValue) : Type 0 where
  pub settled : v.lagging ≡ 0
  pub empty : HasNoRecords v.board

-- and it may run to this limit
pub record CanRunTo (limit : ℕ) (v : EngineValue) : Type 0 where
  pub ready : IsReady v
  pub within : limit ≤ CLOCK_LIMIT

-- a run has come to a boundary that isn't before `until`, and says why as one to this limit does
pub record RunsTo (entries : List TapeEntry) (limit until : ℕ) (old new : EngineValue) (stop : Stop) : Type 0 where
  pub board : new.board ≡ to_boundary entries until old.board
  pub cause : stop ≡ cause_of limit new.board
  pub boundary : new.board.cpu.mid ≡ None
  pub calls : new.calls ≤ old.calls + budget entries (boundary_steps entries until old.board) old.board
  pub more : old.calls ≤ new.calls
  pub done : new.done ≡ counted_on old.done (new.board.peripherals.clock - old.board.peripherals.clock)
  pub rooms : new.rooms ≡ old.rooms

-- it has come to a clock, or to the first boundary after the divider's next wrap
pub record RunsToClock (entries : List TapeEntry) (cut : ℕ) (old new : EngineValue) (stop : Stop) : Type 0 where
  pub board : new.board ≡ to_cut entries cut (wrap_of old.board) old.board
  pub cause : stop ≡ cause_of cut new.board
  pub calls : new.calls ≤ old.calls + budget entries (cut_steps entries cut (wrap_of old.board) old.board) old.board
  pub more : old.calls ≤ new.calls
  pub done : new.done ≡ counted_on old.done (new.board.peripherals.clock - old.board.peripherals.clock)
  pub rooms : new.rooms ≡ old.rooms

-- where it has ended with the window, that was after the divider's next wrap and before the limit
pub record EndsWindow (limit : ℕ) (old new : EngineValue) (stop : Stop) : Type 0 where
  pub wrap : stop ≡ Window → wrap_of old.board ≤ new.board.peripherals.clock
  pub later : stop ≡ Window → old.board.peripherals.clock < new.board.peripherals.clock
  pub before : stop ≡ Window → new.board.peripherals.clock < limit

-- it has made a turn at least, and has come to its limit, to a stop, or to the end of a window
pub record RunsToStop (entries : List TapeEntry) (limit : ℕ) (stops : ConditionsValue) (old new : EngineValue) : Type 0 where
  pub run : BreakRun entries limit (stops_at stops) old.board new.board
  pub window : BreakRun entries (window_limit limit old.board) (stops_at stops) old.board new.board
  pub ends : (is_over (window_limit limit old.board) new.board || stops_at stops new.board) ≡ true
  pub boundary : new.board.cpu.mid ≡ None
  pub later : old.board.cpu.jam ≡ None → old.board.peripherals.clock < new.board.peripherals.clock
  pub calls : asks_generator stops ≡ false → new.calls ≤ old.calls + budget entries (new.board.peripherals.clock - old.board.peripherals.clock) old.board
  pub more : old.calls ≤ new.calls
  pub done : new.done ≡ counted_on old.done (new.board.peripherals.clock - old.board.peripherals.clock)
  pub rooms : new.rooms ≡ old.rooms

-- its turns were passed to a tracer that was w and is v then
pub record RunsTraced {T : Type 0} (next : T → TraceValue → ℕ → T) (enough : T → Bool) (entries : List TapeEntry) (limit : ℕ) (old new : EngineValue) (w v : T) (stop : Stop) : Type 0 where
  pub run : TracedRun next enough entries (window_limit limit old.board) old.board new.board w v
  pub cause : stop ≡ cause_of limit new.board
  pub boundary : new.board.cpu.mid ≡ None
  pub calls : new.calls ≤ old.calls + budget entries (new.board.peripherals.clock - old.board.peripherals.clock) old.board
  pub more : old.calls ≤ new.calls
  pub done : new.done ≡ counted_on old.done (new.board.peripherals.clock - old.board.peripherals.clock)
  pub rooms : new.rooms ≡ old.rooms

-- its devices are moved to the present clock: one that doesn't lag isn't called
pub record Settles (old new : EngineValue) : Type 0 where
  pub value : new ≡ record old { lagging = 0; calls = new.calls }
  pub calls : new.calls ≤ old.calls + old.lagging
  pub few : old.lagging ≤ 5
  pub more : old.calls ≤ new.calls
