-- A run that is under way, turn by turn.
use Rattle.std.proofs.Common.{◌≡◌, ℕ, ◌+◌, ◌-◌, ◌^◌, ◌≤◌, ◌<◌, Bool, true, false, ◌&&◌, ◌||◌, nat_le, is_some, is_none, min, List}
use Rattle.std.proofs.Common.{Option, Some, None, IsSome, IfSome, suc, zero, inl, inr, ◌⊎◌, refl, sym, ap, ◌∙◌, arith, rules, add-zero}
use Rattle.std.proofs.lemmas.Bool.{le-leb, leb-false, lt-leb, or_parts}
use Rattle.std.proofs.lemmas.Bool.Decides.{nat_tests}
use Rattle.std.proofs.Math.Bool.{and-false, or-false, or-true}
use Rattle.board_base.specs.Cpu.{CpuValue}
use Rattle.board_base.specs.Mid.{MidValue}
use Rattle.cpu_core.specs.Places.{IsMiddle}
use Rattle.tape_ports.specs.declared.entry.TapeEntry.{TapeEntry}
use Rattle.lockstep_board.specs.Budget.{budget, counted}
use Rattle.catchup_engine.specs.Bus.{BusValue}
use Rattle.lockstep_board.specs.Lockstep.{Board, step}
use Rattle.lockstep_board.specs.Run.{stepped, is_over, is_cut, boundary_steps, cut_steps}
use Rattle.catchup_engine.specs.Runs.{over_bus, RunsOn, TurnsRun, BoundaryRun, CutRun, IsInRange}
use Rattle.lockstep_board.specs.Steps.{StepsTo, IsInside, Through}
use Rattle.catchup_engine.specs.StopConditions.{no_conditions}
use Rattle.catchup_engine.specs.Turn.{TurnedBus}
use Rattle.lockstep_board.proofs.Budgets.{budget-add}
use Rattle.lockstep_board.proofs.Clocks.{step-clock, through-clock}
use Rattle.lockstep_board.proofs.Runs.{reached-append, reached-asked, stepped-is, steps_until-is, through-reached, to_boundary-is, to_cut-is}

no-budget : (entries : List TapeEntry) (b : Board) → budget entries 0 b ≡ 0
unfolding counted
no-budget entries b = refl

-- no step is made yet
abbrev pub starts : (entries : List TapeEntry) (asked : Board → Bool) (looks : Bool) (c : CpuValue) (s : BusValue) → s.clock_open ≡ false → RunsOn entries asked looks c s s c
starts entries asked looks c s between = record {
  count = 0;
  reached = refl;
  clock = sym (add-zero s.peripherals.clock);
  written = omega arith;
  paid = λ free. omega arith;
  goes = record { more = omega arith; rooms = refl; until = omega arith; between = between };
}

-- a run goes on by another
pub runs-join : (entries : List TapeEntry) (asked : Board → Bool) (looks : Bool) (c : CpuValue) (s t u : BusValue) (e f : CpuValue)
    → RunsOn entries asked looks c s t e → RunsOn entries asked looks e t u f → RunsOn entries asked looks c s u f
runs-join entries asked looks c s t u e f run more =
    let n = run.count in
    let m = more.count in
    let here : stepped entries n (over_bus c s) ≡ over_bus e t = stepped-is entries asked n (over_bus c s) (over_bus e t) run.reached in
    let whole : budget entries (n + m) (over_bus c s) ≡ budget entries n (over_bus c s) + budget entries m (over_bus e t) =
    budget-add entries n m (over_bus c s) ∙ ap (λ (b : Board). budget entries n (over_bus c s) + budget entries m b) here in
    record {
      count = n + m;
      reached = reached-append entries asked n m (over_bus c s) (over_bus e t) (over_bus f u) run.reached more.reached;
      clock = omega arith;
      written = omega arith;
      paid = λ free. (let paid = run.paid free in let paid_then = more.paid free in omega arith);
      goes = record { more = omega arith; rooms = more.goes.rooms ∙ run.goes.rooms; until = omega arith; between = more.goes.between };
    }

-- one turn is a run
abbrev pub turn-runs : (entries : List TapeEntry) (asked : Board → Bool) (looks : Bool) (clocks : ℕ) (e f : CpuValue) (t u : BusValue)
    → asked (over_bus e t) ≡ false → (turned : TurnedBus entries clocks e t u f)
    → StepsTo entries asked turned.turned.count (step entries (over_bus e t)) (over_bus f u)
    → RunsOn entries asked looks e t u f
turn-runs entries asked looks clocks e f t u open_yet turned reached = record {
  count = suc turned.turned.count;
  reached = (open_yet, reached);
  clock = turned.turned.clock;
  written = turned.turned.written;
  paid = λ free. turned.turned.paid;
  goes = turned.goes;
}

-- a turn more
pub goes_on : (entries : List TapeEntry) (asked : Board → Bool) (looks : Bool) (clocks : ℕ) (c : CpuValue) (s t u : BusValue) (e f : CpuValue)
    → (run : RunsOn entries asked looks c s t e) → asked (over_bus e t) ≡ false → (turned : TurnedBus entries clocks e t u f)
    → StepsTo entries asked turned.turned.count (step entries (over_bus e t)) (over_bus f u)
    → RunsOn entries asked looks c s u f
goes_on entries asked looks clocks c s t u e f run open_yet turned reached =
    runs-join entries asked looks c s t u e f run (turn-runs entries asked looks clocks e f t u open_yet turned reached)

-- a run whose boards aren't as another asks either is such a run too
pub runs-as : (entries : List TapeEntry) (asked other : Board → Bool) (looks : Bool) (c : CpuValue) (s t : BusValue) (e : CpuValue) → (run : RunsOn entries other looks c s t e)
    → StepsTo entries asked run.count (over_bus c s) (over_bus e t) → RunsOn entries asked looks c s t e
runs-as entries asked other looks c s t e run reached = record {
  count = run.count;
  reached = reached;
  clock = run.clock;
  written = run.written;
  paid = run.paid;
  goes = run.goes;
}

-- where a run isn't over, another that comes to its end no sooner isn't either
pub runs-asked : (entries : List TapeEntry) (asked sooner : Board → Bool) (looks : Bool) → ((b : Board) → sooner b ≡ false → asked b ≡ false)
    → (c : CpuValue) (s t : BusValue) (e : CpuValue) → RunsOn entries sooner looks c s t e → RunsOn entries asked looks c s t e
runs-asked entries asked sooner looks weaker c s t e run =
    runs-as entries asked sooner looks c s t e run (reached-asked entries asked sooner weaker run.count (over_bus c s) (over_bus e t) run.reached)

-- a run to a boundary that is at one
pub record AtBoundary (entries : List TapeEntry) (limit : ℕ) (c : CpuValue) (s t : BusValue) (e : CpuValue) : Type 0 where
  pub run : RunsOn entries (is_over limit) false c s t e
  pub few : run.count ≤ (limit - s.peripherals.clock) + 6
  pub boundary : e.mid ≡ None
  pub range : IsInRange e t

pub boundary-starts : (entries : List TapeEntry) (limit : ℕ) (c : CpuValue) (s : BusValue) → s.clock_open ≡ false → c.mid ≡ None → IsInRange c s
    → AtBoundary entries limit c s s c
boundary-starts entries limit c s between boundary range = record {
  run = starts entries (is_over limit) false c s between;
  few = omega arith;
  boundary = boundary;
  range = range;
}

none-of : (mid : Option MidValue) → (IsSome mid → ⊥) → mid ≡ None
none-of None h = refl
none-of (Some m) h = absurd (h (search rules))

pub some-of : (mid : Option MidValue) → is_some mid ≡ true → IsSome mid
some-of mid h = h

pub none-is : {A : Type 0} (found : Option A) → is_some found ≡ false → found ≡ None
none-is None h = refl
none-is (Some a) h = cc

-- a sequence has no more than seven clocks
pub turn-ended : (entries : List TapeEntry) (c : CpuValue) (s t : BusValue) (e : CpuValue) → TurnedBus entries 7 c s t e → e.mid ≡ None
turn-ended entries c s t e turned = none-of e.mid (λ some. absurd (omega (arith, turned.stops some, turned.short some)))

middle-running : (c : CpuValue) (mid : Option MidValue) → c.mid ≡ mid → IsSome mid → IfSome mid (λ _. IsMiddle c) → c.jam ≡ None
middle-running c None e inside place = cc
middle-running c (Some m) e inside place = place.0

pub running-inside : (c : CpuValue) → IsSome c.mid → IfSome c.mid (λ _. IsMiddle c) → c.jam ≡ None
running-inside c inside place = middle-running c c.mid refl inside place

pub middle-open : (limit : ℕ) (b : Board) → IsSome b.cpu.mid → b.cpu.jam ≡ None → is_over limit b ≡ false
middle-open limit b inside running = grind (arith, rules)

-- at a boundary a run that isn't over is before its limit, and isn't jammed
pub record IsBefore (limit : ℕ) (b : Board) : Type 0 where
  pub clock : b.peripherals.clock < limit
  pub running : b.cpu.jam ≡ None

pub open-before : (limit : ℕ) (b : Board) → b.cpu.mid ≡ None → is_over limit b ≡ false → IsBefore limit b
open-before limit b boundary open_yet =
    let both = or_parts (is_some b.cpu.jam) (is_none b.cpu.mid && nat_le limit b.peripherals.clock) open_yet in
    record { clock = leb-false limit b.peripherals.clock (rw boundary at both.1); running = none-is b.cpu.jam both.0 }

-- a board that isn't jammed is before its limit where a run isn't over, and a boundary that isn't is one where it is
pub open-at : (limit : ℕ) (b : Board) → b.cpu.jam ≡ None → b.peripherals.clock < limit → is_over limit b ≡ false
open-at limit b running early = rw (running, lt-leb limit b.peripherals.clock early) (and-false (is_none b.cpu.mid))

pub over-at : (limit : ℕ) (b : Board) → b.cpu.mid ≡ None → limit ≤ b.peripherals.clock → is_over limit b ≡ true
over-at limit b boundary late = rw (boundary, le-leb limit b.peripherals.clock late) (or-true (is_some b.cpu.jam))

-- a run from inside a sequence has ended it first
pub boundary-resumes : (entries : List TapeEntry) (limit : ℕ) (c : CpuValue) (s u : BusValue) (f : CpuValue) → s.clock_open ≡ false → IsSome c.mid
    → IfSome c.mid (λ _. IsMiddle c) → IsInRange c s → TurnedBus entries 7 c s u f → AtBoundary entries limit c s u f
boundary-resumes entries limit c s u f between inside place range turned =
    let running = running-inside c inside place in
    let open_yet = middle-open limit (over_bus c s) inside running in
    let ends = turn-ended entries c s u f turned in
    let some = turned.inside inside in
    let early = range.middle inside in
    let one = no-budget entries (over_bus c s) in
    record {
      run =
          turn-runs entries (is_over limit) false 7 c f s u open_yet turned
          (through-reached entries limit turned.turned.count (step entries (over_bus c s)) (over_bus f u) turned.turned.through);
      few = omega arith;
      boundary = ends;
      range = record { clock = omega arith; middle = λ some. cc (rw ends at some) };
    }

-- a run that goes on by one turn
pub boundary-goes_on : (entries : List TapeEntry) (limit : ℕ) (c : CpuValue) (s t u : BusValue) (e f : CpuValue) → limit ≤ 2 ^ 48
    → AtBoundary entries limit c s t e → is_over limit (over_bus e t) ≡ false → TurnedBus entries 7 e t u f → AtBoundary entries limit c s u f
boundary-goes_on entries limit c s t u e f last at open_yet turned =
    let before = open-before limit (over_bus e t) at.boundary open_yet in
    let ends = turn-ended entries e t u f turned in
    let reached = through-reached entries limit turned.turned.count (step entries (over_bus e t)) (over_bus f u) turned.turned.through in
    let run = goes_on entries (is_over limit) false 7 c s t u e f at.run open_yet turned reached in
    record {
      run = run;
      few = omega arith;
      boundary = ends;
      range = record { clock = omega arith; middle = λ some. cc (rw ends at some) };
    }

-- a run that is over has come to the board of its definition
pub boundary-ends : (entries : List TapeEntry) (limit : ℕ) (c : CpuValue) (s t : BusValue) (e : CpuValue) → AtBoundary entries limit c s t e
    → is_over limit (over_bus e t) ≡ true → BoundaryRun entries limit c s t e
boundary-ends entries limit c s t e at over =
    let steps : boundary_steps entries limit (over_bus c s) ≡ at.run.count =
    steps_until-is entries (is_over limit) at.run.count ((limit - s.peripherals.clock) + 6) (over_bus c s) (over_bus e t) at.run.reached over at.few in
    record {
      board = sym (to_boundary-is entries limit at.run.count (over_bus c s) (over_bus e t) at.run.reached over at.few);
      over = over;
      boundary = at.boundary;
      paid = rw steps (at.run.paid refl);
      goes = at.run.goes;
      range = at.range;
      later = omega arith;
    }

-- a run to a boundary is what its first turn made, if it had one, and whole turns
pub boundary-turns : (entries : List TapeEntry) (limit : ℕ) (c : CpuValue) (s u t : BusValue) (f e : CpuValue) → AtBoundary entries limit c s u f
    → TurnsRun entries limit no_conditions f u t e → BoundaryRun entries limit c s t e
boundary-turns entries limit c s u t f e at rest =
    let run = runs-join entries (is_over limit) false c s u t f e at.run rest.on.run in
    let few : run.count ≤ (limit - s.peripherals.clock) + 6 = elim rest.on.near [ inl none ↦ omega arith | inr near ↦ omega arith ] in
    boundary-ends entries limit c s t e (record { run = run; few = few; boundary = rest.on.boundary; range = rest.on.range })
    (rw or-false at rest.ends)

-- a run to a cut
pub record AtCut (entries : List TapeEntry) (cut wrap : ℕ) (c : CpuValue) (s t : BusValue) (e : CpuValue) : Type 0 where
  pub run : RunsOn entries (is_cut cut wrap) false c s t e
  pub few : run.count ≤ cut - s.peripherals.clock
  pub range : IsInRange e t
  pub inside : IsSome e.mid → (t.peripherals.clock ≡ s.peripherals.clock) ⊎ (cut ≤ t.peripherals.clock)

pub cut-starts : (entries : List TapeEntry) (cut wrap : ℕ) (c : CpuValue) (s : BusValue) → s.clock_open ≡ false → IsInRange c s → AtCut entries cut wrap c s s c
cut-starts entries cut wrap c s between range = record {
  run = starts entries (is_cut cut wrap) false c s between;
  few = omega arith;
  range = range;
  inside = λ some. inl refl;
}

inside-open : (cut wrap : ℕ) (b : Board) → IsInside b → b.peripherals.clock < cut → is_cut cut wrap b ≡ false
inside-open cut wrap b inside before = grind (arith, rules, nat_tests)

-- steps through the inside of a sequence, which end at the cut at the latest
through-cut : (entries : List TapeEntry) (cut wrap n : ℕ) (b last : Board) → Through entries n b last → last.peripherals.clock ≤ cut
    → StepsTo entries (is_cut cut wrap) n b last
through-cut entries cut wrap zero b last e within = e
through-cut entries cut wrap (suc n) b last t within =
    let clock = through-clock entries (suc n) b last t in
    (inside-open cut wrap b t.0 (omega arith), through-cut entries cut wrap n (step entries b) last t.1 within)

-- a turn that isn't to go past the cut
pub cut-goes_on : (entries : List TapeEntry) (cut wrap clocks : ℕ) (c : CpuValue) (s t u : BusValue) (e f : CpuValue) → cut ≤ 2 ^ 48
    → AtCut entries cut wrap c s t e → is_cut cut wrap (over_bus e t) ≡ false → t.peripherals.clock + clocks ≤ cut
    → (clocks ≡ 7) ⊎ (t.peripherals.clock + clocks ≡ cut) → TurnedBus entries clocks e t u f → AtCut entries cut wrap c s u f
cut-goes_on entries cut wrap clocks c s t u e f last at open_yet within all turned =
    let reached = through-cut entries cut wrap turned.turned.count (step entries (over_bus e t)) (over_bus f u) turned.turned.through (omega arith) in
    let run = goes_on entries (is_cut cut wrap) false clocks c s t u e f at.run open_yet turned reached in
    record {
      run = run;
      few = omega arith;
      range = record { clock = omega arith; middle = λ some. omega arith };
      inside = λ some. inr (elim all [ inl whole ↦ omega (arith, turned.stops some, turned.short some) | inr last_clock ↦ omega (arith, turned.stops some) ]);
    }

pub cut-ends : (entries : List TapeEntry) (cut wrap : ℕ) (c : CpuValue) (s t : BusValue) (e : CpuValue) → AtCut entries cut wrap c s t e
    → is_cut cut wrap (over_bus e t) ≡ true → CutRun entries cut wrap c s t e
cut-ends entries cut wrap c s t e at over =
    let steps : cut_steps entries cut wrap (over_bus c s) ≡ at.run.count =
    steps_until-is entries (is_cut cut wrap) at.run.count (cut - s.peripherals.clock) (over_bus c s) (over_bus e t) at.run.reached over at.few in
    record {
      board = sym (to_cut-is entries cut wrap at.run.count (over_bus c s) (over_bus e t) at.run.reached over at.few);
      over = over;
      paid = rw steps (at.run.paid refl);
      goes = at.run.goes;
      range = at.range;
      later = omega arith;
    }

-- steps that lead to a boundary by turns from before a limit are none from a board at which a run
-- to a later cut is over
over-cut : (entries : List TapeEntry) (cut wrap limit n : ℕ) (b last : Board) → limit ≤ wrap → StepsTo entries (is_over limit) n b last
    → b.peripherals.clock + n ≤ cut → StepsTo entries (is_cut cut wrap) n b last
over-cut entries cut wrap limit zero b last sooner r within = r
over-cut entries cut wrap limit (suc n) b last sooner r within =
    let clock = step-clock entries b in
    (over-open b r.0 (omega arith), over-cut entries cut wrap limit n (step entries b) last sooner r.1 (omega arith))
  where
    by_parts : (jammed boundary : Bool) (clock : ℕ) → clock < cut → jammed || (boundary && nat_le limit clock) ≡ false
        → jammed || (nat_le cut clock || (boundary && nat_le wrap clock)) ≡ false
    by_parts jammed boundary clock before e = grind (arith, nat_tests)

    over-open : (a : Board) → is_over limit a ≡ false → a.peripherals.clock < cut → is_cut cut wrap a ≡ false
    over-open a e before = by_parts (is_some a.cpu.jam) (is_none a.cpu.mid) a.peripherals.clock before e

-- a run to a cut goes on by whole turns that end before it
pub cut-turns : (entries : List TapeEntry) (cut wrap limit : ℕ) (c : CpuValue) (s t u : BusValue) (e f : CpuValue) → limit ≡ min wrap (cut - 6)
    → AtCut entries cut wrap c s t e → TurnsRun entries limit no_conditions e t u f → AtCut entries cut wrap c s u f
cut-turns entries cut wrap limit c s t u e f least at rest =
    let made : (rest.on.run.count ≡ 0) ⊎ (t.peripherals.clock + rest.on.run.count ≤ cut) = elim rest.on.near [ inl none ↦ inl (omega arith) | inr near ↦ inr (omega arith) ] in
    let more = runs-as entries (is_cut cut wrap) (is_over limit) false e t u f rest.on.run (by-made rest.on.run.count made rest.on.run.reached) in
    let run = runs-join entries (is_cut cut wrap) false c s t u e f at.run more in
    record {
      run = run;
      few = elim made [ inl none ↦ omega arith | inr within ↦ omega arith ];
      range = rest.on.range;
      inside = λ some. cc (rw rest.on.boundary at some);
    }
  where
    by-made : (n : ℕ) → (n ≡ 0) ⊎ (t.peripherals.clock + n ≤ cut) → StepsTo entries (is_over limit) n (over_bus e t) (over_bus f u)
        → StepsTo entries (is_cut cut wrap) n (over_bus e t) (over_bus f u)
    by-made zero made r = r
    by-made (suc n) (inl none) r = cc
    by-made (suc n) (inr within) r = over-cut entries cut wrap limit (suc n) (over_bus e t) (over_bus f u) (omega arith) r within
