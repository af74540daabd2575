-- The profile of a run, part by part.
use Rattle.std.proofs.Common.{◌≡◌, ℕ, ◌+◌, ◌-◌, ◌≤◌, ◌<◌, Bool, true, false, ◌&&◌, ◌||◌, nat_le, is_some, is_none, List, [], Option, Some, None, zero, suc, refl, sym, ap, ◌∙◌, arith}
use Rattle.std.specs.Prelude.{if◌then◌else◌}
use Rattle.std.proofs.lemmas.Bool.Decides.{nat_tests}
use Rattle.catchup_engine.specs.Notes.{note_of}
use Rattle.catchup_engine.specs.Together.{TakesTogether}
use Rattle.cycle_profile.specs.Turns.{stays}
use Rattle.cycle_profile.proofs.NoteLaws.{charged-twice, plain-charged}
use Rattle.board_base.specs.Mid.{MidValue}
use Rattle.tape_ports.specs.declared.entry.TapeEntry.{TapeEntry}
use Rattle.lockstep_board.specs.Breaks.{turn, turned}
use Rattle.lockstep_board.specs.Order.{cleared, Recorded, behind, records_of}
use Rattle.lockstep_board.specs.Lockstep.{Board}
use Rattle.lockstep_board.specs.Run.{is_over, IsPlaced}
use Rattle.catchup_engine.specs.Trace.{TraceValue, step_trace}
use Rattle.catchup_engine.specs.Traced.{observed, observed_once}
use Rattle.lockstep_board.proofs.Behind.{behind-cleared}
use Rattle.catchup_engine.proofs.Traces.{over-running}
use Rattle.lockstep_board.proofs.TurnLaws.{turn-behind, turn-boundary, turn-later, turn-placed}
use Rattle.run_windows.specs.TurnObserver.{FollowsInParts, StandsStill}
use Rattle.cycle_profile.specs.Profile.{ProfileValue, after, charged}
use Rattle.run_trace.specs.declared.profiling.Profiler.{Profiler}
use Rattle.run_trace.specs.BoardProfile.{run_turns, turns_until}
use Rattle.run_trace.specs.Profiling.{after_run, profiler_after_plain, profiler_after_turn}
use Rattle.run_trace.specs.PartLaws.{first-turn, later-turns, open-later, trace-behind}

-- a run that is over takes no turn
turns-over : (entries : List TapeEntry) (limit most : ℕ) (b : Board) → is_over limit b ≡ true → turns_until entries limit most b ≡ 0
unfolding turns_until
turns-over entries limit zero b over = refl
turns-over entries limit (suc most) b over = rw over refl

pub run_turns-over : (entries : List TapeEntry) (limit : ℕ) (b : Board) → is_over limit b ≡ true → run_turns entries limit b ≡ 0
run_turns-over entries limit b over = turns-over entries limit ((limit - b.peripherals.clock) + 1) b over

turns-open : (entries : List TapeEntry) (limit most : ℕ) (b : Board) → is_over limit b ≡ false
    → turns_until entries limit (suc most) b ≡ suc (turns_until entries limit most (turn entries b))
unfolding turns_until
turns-open entries limit most b open_yet = rw open_yet refl

-- at a boundary from the limit on a run is over
late-over : (jam : Option ℕ) (mid : Option MidValue) (limit clock : ℕ) → mid ≡ None → limit ≤ clock
    → is_some jam || (is_none mid && nat_le limit clock) ≡ true
late-over jam None limit clock boundary late = late-test jam limit clock late
  where
    late-test : (jam : Option ℕ) (limit clock : ℕ) → limit ≤ clock → is_some jam || (true && nat_le limit clock) ≡ true
    late-test jam limit clock late = grind (arith, nat_tests)
late-over jam (Some m) limit clock boundary late = cc

late : (limit : ℕ) (b : Board) → b.cpu.mid ≡ None → limit ≤ b.peripherals.clock → is_over limit b ≡ true
late limit b boundary far = late-over b.cpu.jam b.cpu.mid limit b.peripherals.clock boundary far

-- two numbers of turns that are enough after the next turn are enough before it
enough-next : (entries : List TapeEntry) (limit most more : ℕ) (b : Board) (t : Bool) → is_over limit b ≡ t
    → (is_over limit b ≡ false → turns_until entries limit most (turn entries b) ≡ turns_until entries limit more (turn entries b))
    → turns_until entries limit (suc most) b ≡ turns_until entries limit (suc more) b
enough-next entries limit most more b true over rest = turns-over entries limit (suc most) b over ∙ sym (turns-over entries limit (suc more) b over)
enough-next entries limit most more b false open_yet rest =
    turns-open entries limit most b open_yet ∙ ap suc (rest open_yet) ∙ sym (turns-open entries limit more b open_yet)

-- at a boundary as many turns are enough as there are clocks to the limit
turns-enough : (entries : List TapeEntry) (limit most more : ℕ) (b : Board) → IsPlaced b → b.cpu.mid ≡ None
    → limit ≤ b.peripherals.clock + most → limit ≤ b.peripherals.clock + more → turns_until entries limit most b ≡ turns_until entries limit more b
turns-enough entries limit zero more b placed boundary near far =
    turns-over entries limit zero b over ∙ sym (turns-over entries limit more b over)
  where
    over : is_over limit b ≡ true
    over = late limit b boundary (omega arith)
turns-enough entries limit (suc most) zero b placed boundary near far =
    turns-over entries limit (suc most) b over ∙ sym (turns-over entries limit zero b over)
  where
    over : is_over limit b ≡ true
    over = late limit b boundary (omega arith)
turns-enough entries limit (suc most) (suc more) b placed boundary near far =
    enough-next entries limit most more b (is_over limit b) refl
    (λ open_yet. let running = (over-running limit b open_yet).running in
    let later = turn-later entries b running in
    turns-enough entries limit most more (turn entries b) (turn-placed entries b placed) (turn-boundary entries b placed running)
    (omega arith) (omega arith))

-- a run that isn't over takes a turn, and those from the board after it
pub run_turns-open : (entries : List TapeEntry) (limit : ℕ) (b : Board) → IsPlaced b → is_over limit b ≡ false
    → run_turns entries limit b ≡ suc (run_turns entries limit (turn entries b))
run_turns-open entries limit b placed open_yet =
    let running = (over-running limit b open_yet).running in
    let later = turn-later entries b running in
    let next = turn entries b in
    let most : (limit - b.peripherals.clock) + 1 ≡ suc (limit - b.peripherals.clock) = omega arith in
    ap (λ m. turns_until entries limit m b) most
    ∙ turns-open entries limit (limit - b.peripherals.clock) b open_yet
    ∙ ap suc (turns-enough entries limit (limit - b.peripherals.clock) ((limit - next.peripherals.clock) + 1) next (turn-placed entries b placed)
    (turn-boundary entries b placed running) (omega arith) (omega arith))

-- the turns of a run don't ask for its records
turns-behind : (entries : List TapeEntry) (limit most : ℕ) (l : Recorded) (b : Board)
    → turns_until entries limit most (behind l b) ≡ turns_until entries limit most b
unfolding turns_until
turns-behind entries limit zero l b = refl
turns-behind entries limit (suc most) l b =
    let rest : turns_until entries limit most (turn entries (behind l b)) ≡ turns_until entries limit most (turn entries b) =
    ap (turns_until entries limit most) (turn-behind entries l b) ∙ turns-behind entries limit most l (turn entries b) in
    ap (λ n. if is_over limit b then 0 else suc n) rest

run_turns-cleared : (entries : List TapeEntry) (limit : ℕ) (b : Board) → run_turns entries limit (cleared b) ≡ run_turns entries limit b
run_turns-cleared entries limit b =
    sym (turns-behind entries limit ((limit - b.peripherals.clock) + 1) (records_of b) (cleared b)) ∙ ap (run_turns entries limit) (behind-cleared b)

-- nor does one that gets them
observed-behind : {T : Type 0} (next : T → TraceValue → ℕ → T) (entries : List TapeEntry) (n : ℕ) (w : T) (l : Recorded) (b : Board)
    → observed next entries n w (behind l b) ≡ observed next entries n w b
unfolding observed
observed-behind next entries zero w l b = refl
observed-behind next entries (suc n) w l b =
    let one : observed_once next entries w (behind l b) ≡ observed_once next entries w b =
    ap (λ (t : TraceValue). next w t (turn entries (behind l b)).cpu.pc) (trace-behind entries l b)
    ∙ ap (λ (c : Board). next w (step_trace entries b) c.cpu.pc) (turn-behind entries l b) in
    ap (λ v. observed next entries n v (turn entries (behind l b))) one
    ∙ ap (observed next entries n (observed_once next entries w b)) (turn-behind entries l b)
    ∙ observed-behind next entries n (observed_once next entries w b) l (turn entries b)

observed-cleared : {T : Type 0} (next : T → TraceValue → ℕ → T) (entries : List TapeEntry) (n : ℕ) (w : T) (b : Board)
    → observed next entries n w (cleared b) ≡ observed next entries n w b
observed-cleared next entries n w b =
    sym (observed-behind next entries n w (records_of b) (cleared b)) ∙ ap (observed next entries n w) (behind-cleared b)

-- the profiler gets what its profile gets
profiler-is : (entries : List TapeEntry) (n : ℕ) (w : Profiler) (b : Board)
    → observed profiler_after_turn entries n w b ≡ (let p : Profiler = record { profile = observed after entries n w.profile b } in p)
unfolding observed
profiler-is entries zero w b = refl
profiler-is entries (suc n) w b = profiler-is entries n (observed_once profiler_after_turn entries w b) (turn entries b)

-- some turns, and then those of the rest of the run
profile-split : (entries : List TapeEntry) (limit n : ℕ) (p : ProfileValue) (b : Board) → IsPlaced b
    → ((k : ℕ) → k < n → is_over limit (turned entries k b) ≡ false)
    → observed after entries (run_turns entries limit b) p b
    ≡ observed after entries (run_turns entries limit (turned entries n b)) (observed after entries n p b) (turned entries n b)
unfolding observed turned
profile-split entries limit zero p b placed open_yet = refl
profile-split entries limit (suc n) p b placed open_yet =
    ap (λ k. observed after entries k p b) (run_turns-open entries limit b placed (first-turn (λ c. is_over limit c ≡ false) entries n b open_yet))
    ∙ profile-split entries limit n (observed_once after entries p b) (turn entries b) (turn-placed entries b placed)
    (later-turns (λ c. is_over limit c ≡ false) entries n b open_yet)

profiled-so : (w : Profiler) (entries : List TapeEntry) (limit part n : ℕ) (b : Board) → part ≤ limit → IsPlaced b
    → ((k : ℕ) → k < n → is_over part (turned entries k b) ≡ false)
    → after_run w entries limit b ≡ after_run (observed profiler_after_turn entries n w b) entries limit (cleared (turned entries n b))
profiled-so w entries limit part n b low placed open_part =
    let c = turned entries n b in
    let p = observed after entries n w.profile b in
    let same : (observed profiler_after_turn entries n w b).profile ≡ p = ap (λ (v : Profiler). v.profile) (profiler-is entries n w b) in
    ap (λ (q : ProfileValue). let v : Profiler = record { profile = q } in v)
    (profile-split entries limit n w.profile b placed (λ k few. open-later part limit (turned entries k b) low (open_part k few))
    ∙ sym (observed-cleared after entries (run_turns entries limit c) p c)
    ∙ ap (λ k. observed after entries k p (cleared c)) (sym (run_turns-cleared entries limit c))
    ∙ ap (λ (q : ProfileValue). observed after entries (run_turns entries limit (cleared c)) q (cleared c)) (sym same))

-- to charge the turns together is to charge each of them
pub profiled_together : TakesTogether profiler_after_turn (λ _. false) profiler_after_plain stays
profiled_together = record {
  first = λ w trace pc is. ap (λ (p : ProfileValue). let v : Profiler = record { profile = p } in v) (plain-charged w.profile trace pc is);
  more = λ w clocks accesses trace pc is.
      ap (λ (p : ProfileValue). let v : Profiler = record { profile = p } in v)
      (plain-charged (charged w.profile clocks accesses) trace pc is ∙ charged-twice w.profile clocks accesses trace.count (note_of trace).reached.accesses);
  goes_on = λ w clocks accesses. refl;
}

pub profiled_in_parts : FollowsInParts profiler_after_turn (λ _. false) (λ _ _ _ _. Unit {0}) (λ _ _ _ _. []) after_run (λ _ _. Unit {0}) (λ _ _. []) (λ p _. p)
profiled_in_parts w v entries limit part b c low placed none may run = record {
  room = tt;
  rest = tt;
  text = refl;
  state =
      profiled-so w entries limit part run.count b low placed run.over
      ∙ ap (λ (d : Board). after_run (observed profiler_after_turn entries run.count w b) entries limit (cleared d)) (sym run.board)
      ∙ ap (λ (f : Profiler). after_run f entries limit (cleared c)) (sym run.tracer);
}

pub profiled_still : StandsStill {F = Profiler} (λ _ _ _ _. []) after_run
unfolding observed
profiled_still w entries limit b over = record {
  text = refl;
  state = ap (λ n. let p : Profiler = record { profile = observed after entries n w.profile b } in p) (run_turns-over entries limit b over);
}
