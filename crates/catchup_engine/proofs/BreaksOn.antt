-- A run to a stop that is under way, turn by turn.
use Rattle.std.proofs.Common.{◌≡◌, ℕ, ◌-◌, ◌^◌, ◌≤◌, ◌<◌, Bool, true, false, ◌||◌, is_some, List, Option, None, IfSome, suc, zero, inl, inr, refl, sym, ap, arith}
use Rattle.std.proofs.lemmas.Bool.{or_parts}
use Rattle.board_base.specs.Cpu.{CpuValue}
use Rattle.cpu_core.specs.Places.{IsMiddle}
use Rattle.tape_ports.specs.declared.entry.TapeEntry.{TapeEntry}
use Rattle.catchup_engine.specs.StopConditions.{ConditionsValue, asks_generator, stops_at}
use Rattle.catchup_engine.specs.Bus.{BusValue}
use Rattle.lockstep_board.specs.Lockstep.{Board, step}
use Rattle.lockstep_board.specs.Run.{is_over}
use Rattle.lockstep_board.specs.Breaks.{BreakRun}
use Rattle.catchup_engine.specs.Runs.{over_bus, RunsOn, TurnsOn, TurnsRun, BreakRunBus, IsInRange}
use Rattle.lockstep_board.specs.Steps.{StepsTo, Through}
use Rattle.catchup_engine.specs.Turn.{TurnedBus}
use Rattle.catchup_engine.proofs.RunsOn.{starts, goes_on, runs-asked, runs-join, open-before, none-is}
use Rattle.catchup_engine.proofs.Traces.{jammed-boundary, trace-ends}
use Rattle.lockstep_board.proofs.Runs.{through-reached}
use Rattle.lockstep_board.proofs.TurnLaws.{break-one, breaks-append, turn-jammed}

-- no board is as asked, so that any step goes on
abbrev pub never : Board → Bool
never b = false

through-on : (entries : List TapeEntry) (n : ℕ) (b last : Board) → Through entries n b last → StepsTo entries never n b last
through-on entries zero b last e = e
through-on entries (suc n) b last t = (refl, through-on entries n (step entries b) last t.1)

-- a run to a stop that is at a boundary
pub record AtTurn (entries : List TapeEntry) (limit : ℕ) (stops : ConditionsValue) (c : CpuValue) (s t : BusValue) (e : CpuValue) : Type 0 where
  pub run : RunsOn entries never (asks_generator stops) c s t e
  pub turns : BreakRun entries limit (stops_at stops) (over_bus c s) (over_bus e t)
  pub boundary : e.mid ≡ None
  pub range : IsInRange e t
  pub later : c.jam ≡ None → s.peripherals.clock < t.peripherals.clock

-- a jammed board takes its turn at once
pub break-jammed : (entries : List TapeEntry) (limit : ℕ) (stops : ConditionsValue) (c : CpuValue) (s : BusValue) → s.clock_open ≡ false → is_some c.jam ≡ true
    → IfSome c.mid (λ _. IsMiddle c) → IsInRange c s → AtTurn entries limit stops c s s c
break-jammed entries limit stops c s between jammed place range = record {
  run = starts entries never (asks_generator stops) c s between;
  turns = break-one entries limit (stops_at stops) (over_bus c s) (over_bus c s) (sym (turn-jammed entries (over_bus c s) jammed));
  boundary = jammed-boundary c jammed place;
  range = range;
  later = λ running. cc (jammed, ap (λ (jam : Option ℕ). is_some jam) running);
}

-- the first turn of another
pub break-begins : (entries : List TapeEntry) (limit : ℕ) (stops : ConditionsValue) (c : CpuValue) (s u : BusValue) (f : CpuValue) → s.clock_open ≡ false
    → is_some c.jam ≡ false → s.peripherals.clock < 2 ^ 48 → IfSome c.mid (λ _. IsMiddle c) → IsInRange c s → TurnedBus entries 7 c s u f
    → AtTurn entries limit stops c s u f
break-begins entries limit stops c s u f between running early place range turned =
    let made = trace-ends entries c s u f (none-is c.jam running) range (λ _. early) turned in
    record {
      run =
          goes_on entries never (asks_generator stops) 7 c s s u c f (starts entries never (asks_generator stops) c s between) refl turned
          (through-on entries turned.turned.count (step entries (over_bus c s)) (over_bus f u) turned.turned.through);
      turns = break-one entries limit (stops_at stops) (over_bus c s) (over_bus f u) made.board;
      boundary = made.boundary;
      range = made.range;
      later = λ _. omega arith;
    }

-- no turn is made yet
pub turns-start : (entries : List TapeEntry) (limit : ℕ) (stops : ConditionsValue) (c : CpuValue) (s : BusValue) → s.clock_open ≡ false → c.mid ≡ None
    → IsInRange c s → TurnsOn entries limit stops c s s c
turns-start entries limit stops c s between boundary range = record {
  run = starts entries (is_over limit) (asks_generator stops) c s between;
  near = inl refl;
  turns = λ b run. run;
  boundary = boundary;
  range = range;
}

-- a turn more
pub turns-go_on : (entries : List TapeEntry) (limit : ℕ) (stops : ConditionsValue) (c : CpuValue) (s t u : BusValue) (e f : CpuValue) → limit ≤ 2 ^ 48
    → TurnsOn entries limit stops c s t e → is_over limit (over_bus e t) || stops_at stops (over_bus e t) ≡ false
    → TurnedBus entries 7 e t u f → TurnsOn entries limit stops c s u f
turns-go_on entries limit stops c s t u e f last on open_yet turned =
    let both = or_parts (is_over limit (over_bus e t)) (stops_at stops (over_bus e t)) open_yet in
    let before = open-before limit (over_bus e t) on.boundary both.0 in
    let boundary = on.boundary in
    let made = trace-ends entries e t u f before.running on.range (λ _. omega arith) turned in
    record {
      run =
          goes_on entries (is_over limit) (asks_generator stops) 7 c s t u e f on.run both.0 turned
          (through-reached entries limit turned.turned.count (step entries (over_bus e t)) (over_bus f u) turned.turned.through);
      near = inr (record { before = omega arith; within = omega arith });
      turns =
          λ b run. breaks-append entries limit (stops_at stops) b (over_bus e t) (over_bus f u) (on.turns b run) both.0 both.1
          (break-one entries limit (stops_at stops) (over_bus e t) (over_bus f u) made.board);
      boundary = made.boundary;
      range = made.range;
    }

-- other turns after them
pub turns-join : (entries : List TapeEntry) (limit : ℕ) (stops : ConditionsValue) (c : CpuValue) (s t u : BusValue) (e f : CpuValue)
    → TurnsOn entries limit stops c s t e → TurnsOn entries limit stops e t u f → TurnsOn entries limit stops c s u f
turns-join entries limit stops c s t u e f on more =
    record {
      run = runs-join entries (is_over limit) (asks_generator stops) c s t u e f on.run more.run;
      near = elim more.near [
        | inl none ↦ elim on.near [ inl still ↦ inl (omega arith) | inr near ↦ inr (record { before = near.before; within = omega arith }) ]
        | inr near ↦ inr (record { before = omega arith; within = omega arith })
      ];
      turns = λ b run. more.turns b (on.turns b run);
      boundary = more.boundary;
      range = more.range;
    }

-- the end of a run, whose first turn is made and whose others have come to their end
pub break-ends : (entries : List TapeEntry) (limit : ℕ) (stops : ConditionsValue) (c : CpuValue) (s u t : BusValue) (f e : CpuValue)
    → AtTurn entries limit stops c s u f → TurnsRun entries limit stops f u t e → BreakRunBus entries limit stops c s t e
break-ends entries limit stops c s u t f e at rest =
    let more = runs-asked entries never (is_over limit) (asks_generator stops) (λ b open_yet. refl) f u t e rest.on.run in
    let run = runs-join entries never (asks_generator stops) c s u t f e at.run more in
    let steps : t.peripherals.clock - s.peripherals.clock ≡ run.count = omega arith in
    record {
      turns = rest.on.turns (over_bus c s) at.turns;
      ends = rest.ends;
      boundary = rest.on.boundary;
      paid = λ free. rw steps (run.paid free);
      goes = run.goes;
      range = rest.on.range;
      since = omega arith;
      later = λ running. omega (arith, at.later running);
    }
