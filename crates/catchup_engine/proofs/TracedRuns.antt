-- A run that is passed to a tracer turn by turn.
use Rattle.std.proofs.Common.{◌≡◌, ℕ, ◌+◌, ◌-◌, ◌^◌, ◌≤◌, ◌<◌, is_some, Bool, true, false, List, Option, Some, None}
use Rattle.std.proofs.Common.{IfSome, refl, sym, ap, ◌∙◌, subst, arith, suc, zero, zero-add, inl, inr, ◌⊎◌, if◌then◌else◌}
use Rattle.std.proofs.lemmas.Bool.{cases_lt}
use Rattle.board_base.specs.Cpu.{CpuValue}
use Rattle.board_base.specs.Mid.{MidValue}
use Rattle.cpu_core.specs.Places.{IsMiddle}
use Rattle.tape_ports.specs.declared.entry.TapeEntry.{TapeEntry}
use Rattle.lockstep_board.specs.Breaks.{turn, turned}
use Rattle.catchup_engine.specs.StopConditions.{no_conditions}
use Rattle.catchup_engine.specs.Bus.{BusValue}
use Rattle.lockstep_board.specs.Lockstep.{Board, step}
use Rattle.lockstep_board.specs.Run.{is_over}
use Rattle.catchup_engine.specs.Runs.{over_bus, IsInRange, RunsOn, TracedBusRun, TurnsOn}
use Rattle.catchup_engine.specs.Trace.{TraceValue, step_trace, trace_of}
use Rattle.catchup_engine.specs.Traced.{NotedTurns, observed, observed_once}
use Rattle.catchup_engine.specs.Turn.{TurnedBus}
use Rattle.lockstep_board.proofs.Runs.{through-reached}
use Rattle.catchup_engine.proofs.RunsOn.{goes_on, runs-join, starts}
use Rattle.catchup_engine.proofs.Traces.{over-running, trace-ends, trace-observed}
use Rattle.lockstep_board.proofs.TurnLaws.{turned-add, turned-next}

-- the clocks to a limit, and one for a sequence that is under way
abbrev pub clocks_left : ℕ → CpuValue → BusValue → ℕ
clocks_left limit c s = (limit - s.peripherals.clock) + (if is_some c.mid then 1 else 0)

module _ {T : Type 0} (next : T → TraceValue → ℕ → T) where
  -- the tracer gets one turn more
  observed-next : (entries : List TapeEntry) (n : ℕ) (w : T) (b : Board)
      → observed next entries (suc n) w b ≡ observed_once next entries (observed next entries n w b) (turned entries n b)
  unfolding observed turned
  observed-next entries zero w b = refl
  observed-next entries (suc n) w b = observed-next entries n (observed_once next entries w b) (turn entries b)

  -- none is made yet
  pub turns-none : (enough : T → Bool) (entries : List TapeEntry) (limit : ℕ) (b : Board) (w : T)
      → (turns : NotedTurns next enough entries limit b b w w false) × (turns.count ≡ 0)
  unfolding observed turned
  turns-none enough entries limit b w = (
    record {
      count = 0;
      board = refl;
      tracer = refl;
      over = λ k h. absurd (omega (arith, h));
      goes_on = λ k some h. absurd (omega (arith, h));
      first = λ _. refl;
      later = λ h. absurd (omega (arith, h));
    },
    refl,
  )

  -- one turn more, of a board at which the run isn't over
  pub turns-more : (enough : T → Bool) (entries : List TapeEntry) (limit : ℕ) (b : Board) (t u : BusValue) (e f : CpuValue) (w v new : T) (trace : TraceValue) (flag : Bool)
      → limit ≤ 2 ^ 48 → NotedTurns next enough entries limit b (over_bus e t) w v false → is_over limit (over_bus e t) ≡ false → IsInRange e t → TurnedBus entries 7 e t u f
      → trace ≡ trace_of entries (u.peripherals.clock - t.peripherals.clock) (over_bus e t) → new ≡ next v trace f.pc → flag ≡ enough new
      → (turns : NotedTurns next enough entries limit b (over_bus f u) w new flag) × (1 ≤ turns.count)
  turns-more enough entries limit b t u e f w v new trace flag last at open_yet range turned_bus is told_new asked =
      let n = at.count in
      let open_turn = over-running limit (over_bus e t) open_yet in
      let made = trace-ends entries e t u f open_turn.running range (λ boundary. let h = open_turn.before boundary in omega arith) turned_bus in
      let traced = trace-observed entries e t u f trace open_turn.running turned_bus is in
      let board : over_bus f u ≡ turn entries (turned entries n b) = made.board ∙ ap (turn entries) at.board in
      let pc : f.pc ≡ (turn entries (turned entries n b)).cpu.pc = ap (λ (k : Board). k.cpu.pc) board in
      let there : new ≡ observed next entries (suc n) w b =
      told_new
      ∙ ap (λ (k : T). next k trace f.pc) at.tracer
      ∙ ap (λ (k : TraceValue). next (observed next entries n w b) k f.pc) (traced ∙ ap (step_trace entries) at.board)
      ∙ ap (λ k. next (observed next entries n w b) (step_trace entries (turned entries n b)) k) pc
      ∙ sym (observed-next entries n w b) in (
        record {
          count = suc n;
          board = board ∙ sym (turned-next entries n b);
          tracer = there;
          over = λ k h. elim (cases_lt k n) [
            | inl less ↦ at.over k less
            | inr not_less ↦ (let same : k ≡ n = omega (arith, h, not_less) in
                ap (λ j. is_over limit (turned entries j b)) same ∙ ap (is_over limit) (sym at.board) ∙ open_yet)
          ];
          goes_on = λ k some h. elim (cases_lt k n) [
            | inl less ↦ at.goes_on k some less
            | inr not_less ↦ (let same : k ≡ n = omega (arith, h, not_less) in
                ap (λ j. enough (observed next entries j w b)) same ∙ ap enough (sym at.tracer) ∙ sym (at.later (omega (arith, some, same))))
          ];
          first = λ none. absurd (omega (arith, none));
          later = λ _. asked;
        },
        omega arith,
      )

  -- where the clock is later, there is one at least
  pub turns-some : (enough : T → Bool) (entries : List TapeEntry) (limit : ℕ) (b c : Board) (w v : T) (flag : Bool)
      → (turns : NotedTurns next enough entries limit b c w v flag) → b.peripherals.clock < c.peripherals.clock → 1 ≤ turns.count
  unfolding turned
  turns-some enough entries limit b c w v flag turns more = by_count turns.count turns.board
    where
      by_count : (m : ℕ) → c ≡ turned entries m b → 1 ≤ m
      by_count zero is = let same = ap (λ (k : Board). k.peripherals.clock) is in absurd (omega (arith, same, more))
      by_count (suc m) is = omega arith

  -- it gets some turns, and then others
  observed-add : (entries : List TapeEntry) (n m : ℕ) (w : T) (b : Board)
      → observed next entries (n + m) w b ≡ observed next entries m (observed next entries n w b) (turned entries n b)
  unfolding observed turned
  observed-add entries zero m w b = rw (zero-add m) refl
  observed-add entries (suc n) m w b =
      let e : suc n + m ≡ suc (n + m) = omega arith in rw e (observed-add entries n m (observed_once next entries w b) (turn entries b))

  pub turns-then : (enough : T → Bool) (entries : List TapeEntry) (limit : ℕ) (b c d : Board) (w v x : T) (flag : Bool)
      → NotedTurns next enough entries limit b c w v false → NotedTurns next enough entries limit c d v x flag → b.peripherals.clock ≤ c.peripherals.clock → c.peripherals.clock < d.peripherals.clock
      → NotedTurns next enough entries limit b d w x flag
  unfolding observed
  turns-then enough entries limit b c d w v x flag at rest later more =
      let n = at.count in
      let m = rest.count in
      let some : 1 ≤ m = turns-some enough entries limit c d v x flag rest more in
      let here : (j : ℕ) → observed next entries j v c ≡ observed next entries (n + j) w b =
      λ j. ap (λ (k : T). observed next entries j k c) at.tracer ∙ ap (observed next entries j (observed next entries n w b)) at.board ∙ sym (observed-add entries n j w b) in
      let there : (j : ℕ) → turned entries j c ≡ turned entries (n + j) b = λ j. ap (turned entries j) at.board ∙ sym (turned-add entries n j b) in
      record {
        count = n + m;
        board = rest.board ∙ there m;
        tracer = rest.tracer ∙ here m;
        over = λ k h. elim (cases_lt k n) [
          | inl less ↦ at.over k less
          | inr not_less ↦ (let same : n + (k - n) ≡ k = omega (arith, not_less) in
              ap (λ j. is_over limit (turned entries j b)) (sym same) ∙ ap (is_over limit) (sym (there (k - n))) ∙ rest.over (k - n) (omega (arith, h, not_less)))
        ];
        goes_on = λ k first h. elim (cases_lt k n) [
          | inl less ↦ at.goes_on k first less
          | inr not_less ↦ (let same : n + (k - n) ≡ k = omega (arith, not_less) in
              ap (λ j. enough (observed next entries j w b)) (sym same) ∙ ap enough (sym (here (k - n))) ∙ at-or-behind k first (omega (arith, h, not_less)) not_less)
        ];
        first = λ none. absurd (omega (arith, none, some));
        later = λ _. rest.later some;
      }
    where
      at-or-behind : (k : ℕ) → 1 ≤ k → k - at.count < rest.count → at.count ≤ k → enough (observed next entries (k - at.count) v c) ≡ false
      at-or-behind k first h from = elim (cases_lt (k - at.count) 1) [
        | inl less ↦ (let none : k - at.count ≡ 0 = omega (arith, less) in
            ap (λ j. enough (observed next entries j v c)) none ∙ at-start (omega (arith, first, none, from)))
        | inr not_less ↦ rest.goes_on (k - at.count) (omega (arith, not_less)) h
      ]
        where
          at-start : 1 ≤ at.count → enough (observed next entries 0 v c) ≡ false
          at-start some = sym (at.later some)

  -- From c, s and w some turns have led to e, t and v, and the flag says whether the tracer has
  -- enough.
  pub record AtTraced (enough : T → Bool) (entries : List TapeEntry) (limit : ℕ) (c : CpuValue) (s t : BusValue) (e : CpuValue) (w v : T) (flag : Bool) : Type 0 where
    pub run : RunsOn entries (is_over limit) false c s t e
    pub turns : NotedTurns next enough entries limit (over_bus c s) (over_bus e t) w v flag
    pub first : turns.count ≡ 0 → (e ≡ c) × (t ≡ s)
    pub later : 1 ≤ turns.count → e.mid ≡ None
    pub near : (t.peripherals.clock ≤ s.peripherals.clock + 7) ⊎ (t.peripherals.clock ≤ limit + 6)
    pub range : IsInRange e t

  pub traced-starts : (enough : T → Bool) (entries : List TapeEntry) (limit : ℕ) (c : CpuValue) (s : BusValue) (w : T) → s.clock_open ≡ false → IsInRange c s
      → AtTraced enough entries limit c s s c w w false
  traced-starts enough entries limit c s w between range = let none = turns-none enough entries limit (over_bus c s) w in record {
    run = starts entries (is_over limit) false c s between;
    turns = none.0;
    first = λ _. (refl, refl);
    later = λ h. (let zero = none.1 in absurd (omega (arith, h, zero)));
    near = inl (omega arith);
    range = range;
  }

  -- a board at which a run isn't over, and one of its turns
  pub traced-goes_on : (enough : T → Bool) (entries : List TapeEntry) (limit : ℕ) (c : CpuValue) (s t u : BusValue) (e f : CpuValue) (w v new : T) (trace : TraceValue) (flag : Bool)
      → limit ≤ 2 ^ 48 → AtTraced enough entries limit c s t e w v false → is_over limit (over_bus e t) ≡ false → TurnedBus entries 7 e t u f
      → trace ≡ trace_of entries (u.peripherals.clock - t.peripherals.clock) (over_bus e t) → new ≡ next v trace f.pc → flag ≡ enough new
      → AtTraced enough entries limit c s u f w new flag
  traced-goes_on enough entries limit c s t u e f w v new trace flag last at open_yet turned_bus is told_new asked =
      let open_turn = over-running limit (over_bus e t) open_yet in
      let made = trace-ends entries e t u f open_turn.running at.range (λ boundary. let h = open_turn.before boundary in omega arith) turned_bus in
      let clock = turned_bus.turned.clock in
      let most = turned_bus.at_most in
      let whole = turns-more enough entries limit (over_bus c s) t u e f w v new trace flag last at.turns open_yet at.range turned_bus is told_new asked in
      record {
        run =
            goes_on entries (is_over limit) false 7 c s t u e f at.run open_yet turned_bus
            (through-reached entries limit turned_bus.turned.count (step entries (over_bus e t)) (over_bus f u) turned_bus.turned.through);
        turns = whole.0;
        first = λ none. (let some = whole.1 in absurd (omega (arith, none, some)));
        later = λ _. made.boundary;
        near = of_mid e.mid refl open_turn.before clock most;
        range = made.range;
      }
    where
      of_mid : (mid : Option MidValue) → e.mid ≡ mid → (e.mid ≡ None → t.peripherals.clock < limit) → u.peripherals.clock ≡ t.peripherals.clock + suc turned_bus.turned.count
          → u.peripherals.clock ≤ t.peripherals.clock + 7 → (u.peripherals.clock ≤ s.peripherals.clock + 7) ⊎ (u.peripherals.clock ≤ limit + 6)
      of_mid None inside before clock most = let early = before inside in inr (omega arith)
      of_mid (Some m) inside before clock most = elim (cases_lt at.turns.count 1) [
        | inl less ↦ (let none : at.turns.count ≡ 0 = omega (arith, less) in
            let same = ap (λ (k : BusValue). k.peripherals.clock) (at.first none).1 in inl (omega (arith, same, most)))
        | inr not_less ↦ absurd (some-none (sym inside ∙ at.later (omega (arith, not_less))))
      ]
        where
          some-none : Some m ≡ None → ⊥
          some-none same = cc

  -- and some turns of it from a boundary on
  pub traced-to-horizon : (enough : T → Bool) (entries : List TapeEntry) (limit : ℕ) (c : CpuValue) (s t u : BusValue) (e f : CpuValue) (w v new : T) (flag : Bool)
      → AtTraced enough entries limit c s t e w v false → TurnsOn entries limit no_conditions e t u f
      → NotedTurns next enough entries limit (over_bus e t) (over_bus f u) v new flag → t.peripherals.clock < u.peripherals.clock
      → AtTraced enough entries limit c s u f w new flag
  traced-to-horizon enough entries limit c s t u e f w v new flag at on turns more =
      let whole = turns-then enough entries limit (over_bus c s) (over_bus e t) (over_bus f u) w v new flag at.turns turns (omega arith) more in
      record {
        run = runs-join entries (is_over limit) false c s t u e f at.run on.run;
        turns = whole;
        first = λ none. (let some = turns-some enough entries limit (over_bus c s) (over_bus f u) w new flag whole (omega arith) in absurd (omega (arith, none, some)));
        later = λ _. on.boundary;
        near = elim on.near [
          | inl none ↦ absurd (omega (arith, none, more))
          | inr near ↦ (let within = near.within in inr (omega arith))
        ];
        range = on.range;
      }

  -- it has come to its end
  pub observed-ends : (enough : T → Bool) (entries : List TapeEntry) (limit : ℕ) (c : CpuValue) (s t : BusValue) (e : CpuValue) (w v : T) (flag : Bool)
      → AtTraced enough entries limit c s t e w v flag → IfSome c.mid (λ _. IsMiddle c) → (flag ≡ true) ⊎ (is_over limit (over_bus e t) ≡ true)
      → TracedBusRun next enough entries limit c s t e w v
  observed-ends enough entries limit c s t e w v flag at place ends =
      let steps : t.peripherals.clock - s.peripherals.clock ≡ at.run.count = omega arith in
      record {
        turns = record {
          count = at.turns.count;
          board = at.turns.board;
          tracer = at.turns.tracer;
          over = at.turns.over;
          goes_on = at.turns.goes_on;
          ends = elim ends [
            | inl full ↦ elim (cases_lt at.turns.count 1) [
              | inl less ↦ (let none : at.turns.count ≡ 0 = omega (arith, less) in let off = at.turns.first none in cc)
              | inr not_less ↦ (let some : 1 ≤ at.turns.count = omega (arith, not_less) in inr (some, sym (at.turns.later some) ∙ full))
            ]
            | inr over ↦ inl over
          ];
        };
        boundary = elim (cases_lt at.turns.count 1) [
          | inl less ↦ (let none : at.turns.count ≡ 0 = omega (arith, less) in
              elim ends [
                | inl full ↦ (let off = at.turns.first none in cc)
                | inr over ↦ over-mid limit e t over (subst (λ (k : CpuValue). IfSome k.mid (λ _. IsMiddle k)) (sym (at.first none).0) place)
              ])
          | inr not_less ↦ at.later (omega (arith, not_less))
        ];
        paid = rw steps (at.run.paid refl);
        goes = at.run.goes;
        range = at.range;
        later = omega arith;
      }
    where
      over-mid : (limit : ℕ) (e : CpuValue) (t : BusValue) → is_over limit (over_bus e t) ≡ true → IfSome e.mid (λ _. IsMiddle e) → e.mid ≡ None
      over-mid limit e t over place = of e.mid refl over place
        where
          of : (mid : Option MidValue) → e.mid ≡ mid → is_over limit (over_bus e t) ≡ true → IfSome mid (λ _. IsMiddle e) → e.mid ≡ None
          of None is over place = is
          of (Some m) is over place = let running = place.0 in let off : is_over limit (over_bus e t) ≡ false = rw (is, running) refl in cc
