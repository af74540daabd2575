-- A run in windows, of which an observer takes each, is to any observer what the whole run is.
use Rattle.std.proofs.Common.{◌≡◌, ◌≢◌, ℕ, ◌+◌, ◌-◌, ◌≤◌, take, List, [], ◌++◌, Option, refl, sym, ap, ◌∙◌, arith, append_assoc}
use Rattle.tape_ports.specs.declared.entry.TapeEntry.{TapeEntry}
use Rattle.outside_io.specs.Known.{grown}
use Rattle.outside_io.proofs.KnownLaws.{grown-nothing, grown-twice}
use Rattle.outside_io.proofs.TakesLaws.{took_first, took_then}
use Rattle.lockstep_board.specs.declared.stop.Stop.TheVariants.{Window}
use Rattle.lockstep_board.specs.Lockstep.{Board}
use Rattle.lockstep_board.specs.Run.{stepped, is_over, is_at, to_boundary, to_cut, window_limit, wrap_of, cause_of, IsPlaced}
use Rattle.lockstep_board.specs.Budget.{budget, wraps}
use Rattle.catchup_engine.specs.EngineValue.{EngineValue, counted_on}
use Rattle.lockstep_board.specs.Order.{HasNoRecords, cleared, Recorded, AreMadeBetween, behind, records_of}
use Rattle.lockstep_board.proofs.Ended.{at-stop, over-stop}
use Rattle.lockstep_board.proofs.Runs.{steps-none, stepped-add}
use Rattle.lockstep_board.proofs.Ends.{boundary-split-steps, to_clock-cut-steps}
use Rattle.lockstep_board.proofs.Behind.{stepped-behind, boundary_steps-behind, clock_steps-behind, budget-behind, counted-behind, behind-cleared}
use Rattle.lockstep_board.proofs.Budgets.{counted-add, budget-add}
use Rattle.lockstep_board.proofs.Clocks.{stepped-clock}
use Rattle.lockstep_board.proofs.InOrder.{stepped-made}
use Rattle.lockstep_board.proofs.Wraps.{wrap-counted}
use Rattle.run_windows.specs.declared.until.Until.{Until}
use Rattle.run_windows.specs.declared.until.Until.TheVariants.{Clock, Boundary}
use Rattle.run_windows.specs.Synced.{IsSynced}
use Rattle.run_windows.specs.RecordObserver.{IsTakenInParts, TakesInParts, recorded}
use Rattle.run_windows.specs.Windows.{EndsSo, IsFirstWindow, clock_in, end_of, price_to, steps_to, window_end, window_price, window_steps}

-- what doesn't look at records is the same of a board whose records are forgotten
pub from-behind : {X : Type 0} (f : Board → X) → ((l : Recorded) (b : Board) → f (behind l b) ≡ f b) → (b : Board) → f (cleared b) ≡ f b
from-behind f law b = sym (law (records_of b) (cleared b)) ∙ ap f (behind-cleared b)

no_records : Recorded
no_records = recorded [] [] [] []

-- no records are records in order
made-none : (b : Board) → HasNoRecords b → AreMadeBetween b.peripherals.clock (records_of b) b.peripherals.clock
made-none b none = rw (none.strokes, none.levels1, none.levels2, none.written) (record {
  strokes = omega arith;
  levels1 = omega arith;
  levels2 = omega arith;
  written = omega arith;
})

module _ (entries : List TapeEntry) where
  steps-behind : (until : Until) (l : Recorded) (b : Board) → steps_to entries until (behind l b) ≡ steps_to entries until b
  steps-behind (Clock cut) l b = clock_steps-behind entries cut l b
  steps-behind (Boundary limit) l b = boundary_steps-behind entries limit l b

  pub steps-cleared : (until : Until) (b : Board) → steps_to entries until (cleared b) ≡ steps_to entries until b
  steps-cleared until = from-behind (steps_to entries until) (steps-behind until)

  price-behind : (n : ℕ) (l : Recorded) (b : Board) → window_price entries n (behind l b) ≡ window_price entries n b
  price-behind n l b =
      let calls = budget-behind entries n l b in
      let wrapped = counted-behind entries (λ c. wraps c.peripherals) (λ m c. refl) n l b in
      omega arith

  pub price-cleared : (n : ℕ) (b : Board) → window_price entries n (cleared b) ≡ window_price entries n b
  price-cleared n = from-behind (window_price entries n) (price-behind n)

  pub price-add : (n m : ℕ) (b : Board) → window_price entries (n + m) b ≡ window_price entries n b + window_price entries m (stepped entries n b)
  price-add n m b =
      let calls = budget-add entries n m b in
      let wrapped = counted-add entries (λ c. wraps c.peripherals) n m b in
      omega arith

  -- the end of a run from a board is that from the board without its records, after them
  end-behind : (until : Until) (l : Recorded) (b : Board) → end_of entries until (behind l b) ≡ behind l (end_of entries until b)
  end-behind until l b =
      ap (λ n. stepped entries n (behind l b)) (steps-behind until l b) ∙ stepped-behind entries (steps_to entries until b) l b

  end-cleared : (until : Until) (b : Board) → end_of entries until b ≡ behind (records_of b) (end_of entries until (cleared b))
  end-cleared until b = ap (end_of entries until) (sym (behind-cleared b)) ∙ end-behind until (records_of b) (cleared b)

  -- a run is its next window and what comes after it
  steps-split : (until : Until) (b : Board) → IsPlaced b
      → steps_to entries until b ≡ window_steps entries until b + steps_to entries until (window_end entries until b)
  unfolding to_cut to_boundary
  steps-split (Clock cut) b placed = to_clock-cut-steps entries cut (wrap_of b) b
  steps-split (Boundary limit) b placed = boundary-split-steps entries (window_limit limit b) limit b (omega arith) placed

  end-split : (until : Until) (b : Board) → IsPlaced b → end_of entries until b ≡ end_of entries until (window_end entries until b)
  end-split until b placed =
      ap (λ n. stepped entries n b) (steps-split until b placed)
      ∙ stepped-add entries (window_steps entries until b) (steps_to entries until (window_end entries until b)) b

  -- a run of a board without records makes those of its clocks
  pub run-made : (until : Until) (b : Board) → HasNoRecords b
      → AreMadeBetween b.peripherals.clock (records_of (end_of entries until b)) (end_of entries until b).peripherals.clock
  run-made until b none = stepped-made entries b.peripherals.clock (steps_to entries until b) b (made-none b none)

  pub first-window : (until : Until) (b : Board) → IsPlaced b → HasNoRecords b → IsFirstWindow entries until b
  first-window until b placed none =
      let there = window_end entries until b in
      let rest = end_of entries until (cleared there) in
      let whole : end_of entries until b ≡ behind (records_of there) rest = end-split until b placed ∙ end-cleared until there in
      record {
        made = ap records_of whole;
        clock = ap (λ (c : Board). c.peripherals.clock) whole;
        parts = record {
          sooner = stepped-made entries b.peripherals.clock (window_steps entries until b) b (made-none b none);
          later = run-made until (cleared there) (record { strokes = refl; levels1 = refl; levels2 = refl; written = refl });
        };
        board = ap cleared whole;
      }

  -- a run that didn't end with its window alone is over
  run-over : (until : Until) (b : Board) → EndsSo until b → (cause_of (clock_in until) b ≢ Window) → steps_to entries until b ≡ 0
  run-over (Clock cut) b ends not_window =
      steps-none entries (is_at cut) (cut - b.peripherals.clock) b (at-stop b.cpu.jam cut b not_window)
  run-over (Boundary limit) b ends not_window =
      steps-none entries (is_over limit) ((limit - b.peripherals.clock) + 6) b (over-stop limit b ends not_window)

  -- so that its last window is all of it
  pub last-window : (until : Until) (b now : Board) → IsPlaced b → now ≡ cleared (window_end entries until b) → EndsSo until now
      → (cause_of (clock_in until) now ≢ Window) → window_end entries until b ≡ end_of entries until b
  unfolding stepped
  last-window until b now placed is ends not_window =
      let there = window_end entries until b in
      let none : steps_to entries until there ≡ 0 =
      sym (steps-cleared until there) ∙ ap (steps_to entries until) (sym is) ∙ run-over until now ends not_window in
      sym (end-split until b placed ∙ ap (λ n. stepped entries n there) none)

  -- the price of a run is that of its next window and that of the rest
  price-split : (until : Until) (b : Board) → IsPlaced b
      → price_to entries until b
      ≡ window_price entries (window_steps entries until b) b + price_to entries until (cleared (window_end entries until b))
  price-split until b placed =
      let there = window_end entries until b in
      let n = steps_to entries until there in
      let rest : price_to entries until (cleared there) ≡ window_price entries n there =
      ap (λ m. window_price entries m (cleared there)) (steps-cleared until there) ∙ price-cleared n there in
      let both = price-add (window_steps entries until b) n b in
      let all : price_to entries until b ≡ window_price entries (window_steps entries until b + n) b =
      ap (λ m. window_price entries m b) (steps-split until b placed) in
      omega arith

  -- a window that came to the divider's wrap has a wrap that pays for it
  pub wrap-paid : (until : Until) (e next : EngineValue) → IsSynced e → next.board ≡ cleared (window_end entries until e.board)
      → wrap_of e.board ≤ next.board.peripherals.clock → next.calls ≤ e.calls + budget entries (window_steps entries until e.board) e.board + 5
      → next.calls + price_to entries until next.board ≤ e.calls + price_to entries until e.board
  wrap-paid until e next rest is far most =
      let n = window_steps entries until e.board in
      let clock : next.board.peripherals.clock ≡ e.board.peripherals.clock + n =
      ap (λ (b : Board). b.peripherals.clock) is ∙ stepped-clock entries n e.board in
      let one = wrap-counted entries n e.board rest.phase (omega arith) in
      let split = price-split until e.board rest.placed in
      let after : price_to entries until next.board ≡ price_to entries until (cleared (window_end entries until e.board)) = ap (price_to entries until) is in
      omega arith

  -- and each window is paid by the run, but for the five calls after it
  pub window-paid : (until : Until) (e : EngineValue) (calls : ℕ) → IsSynced e
      → calls ≤ e.calls + budget entries (window_steps entries until e.board) e.board + 5 → calls ≤ e.calls + price_to entries until e.board + 5
  window-paid until e calls rest most =
      let split = price-split until e.board rest.placed in
      omega arith

  -- a window's clocks are counted once
  pub window-done : (until : Until) (b now : Board) (done after : ℕ) → now ≡ cleared (window_end entries until b)
      → after ≡ counted_on done (now.peripherals.clock - b.peripherals.clock) → after + b.peripherals.clock ≤ done + now.peripherals.clock
  window-done until b now done after is counted =
      let clock : now.peripherals.clock ≡ b.peripherals.clock + window_steps entries until b =
      ap (λ (c : Board). c.peripherals.clock) is ∙ stepped-clock entries (window_steps entries until b) b in
      omega (arith, counted, clock)

  pub ruleset window_laws = (first-window, run-made)

module _ {W : Type 0} (can_take : W → ℕ → Recorded → ℕ → Type 0) (writes : W → Recorded → ℕ → List ℕ) (next : W → Recorded → ℕ → W) where
  -- an observer has taken a first part of a run, and the rest of it is still to come
  pub record Watched (from : ℕ) (whole rest : Board) (w0 w : W) (taken0 taken : Option (List ℕ)) (faults0 faults : ℕ) : Type 0 where
    pub sent : List ℕ
    pub took : taken ≡ grown taken0 sent
    pub sound : faults ≡ faults0
    pub text : writes w0 (records_of whole) whole.peripherals.clock ≡ sent ++ writes w (records_of rest) rest.peripherals.clock
    pub state : next w0 (records_of whole) whole.peripherals.clock ≡ next w (records_of rest) rest.peripherals.clock
    pub room : can_take w from (records_of rest) rest.peripherals.clock
    pub board : cleared whole ≡ cleared rest

  pub watched-start : (from : ℕ) (whole : Board) (w : W) (taken : Option (List ℕ)) (faults : ℕ) → can_take w from (records_of whole) whole.peripherals.clock
      → Watched from whole whole w w taken taken faults faults
  watched-start from whole w taken faults room = record {
    sent = [];
    took = sym (grown-nothing taken);
    sound = refl;
    text = refl;
    state = refl;
    room = room;
    board = refl;
  }

  module _ (law : TakesInParts can_take writes next) (entries : List TapeEntry) (until : Until) (whole b : Board) (w0 w : W) (taken0 taken : Option (List ℕ))
      (faults0 faults : ℕ) (so_far : Watched b.peripherals.clock whole (end_of entries until b) w0 w taken0 taken faults0 faults) (placed : IsPlaced b) (none : HasNoRecords b) where
    abbrev there : Board
    there = window_end entries until b

    abbrev after : Board
    after = end_of entries until (cleared there)

    -- the next window is a first part of what is still to come
    in_two : IsTakenInParts can_take writes next w b.peripherals.clock (records_of there) there.peripherals.clock (records_of after) after.peripherals.clock
    in_two =
        let first = first-window entries until b placed none in
        law w b.peripherals.clock (records_of there) there.peripherals.clock (records_of after) after.peripherals.clock first.parts
        (rw (first.made, first.clock) at so_far.room)

    text-window : writes w0 (records_of whole) whole.peripherals.clock
        ≡ so_far.sent ++ (writes w (records_of there) there.peripherals.clock
        ++ writes (next w (records_of there) there.peripherals.clock) (records_of after) after.peripherals.clock)
    text-window =
        let first = first-window entries until b placed none in
        so_far.text ∙ ap (λ (l : List ℕ). so_far.sent ++ l) (rw (first.made, first.clock) in_two.text)

    -- so there is room for it
    pub room-window : can_take w b.peripherals.clock (records_of there) there.peripherals.clock
    room-window = in_two.room_first

    -- it is taken
    pub watched-window : (now : Board) (v : W) (more : Option (List ℕ)) (faults' : ℕ) → now ≡ cleared there
        → v ≡ next w (records_of there) there.peripherals.clock → more ≡ grown taken (writes w (records_of there) there.peripherals.clock) → faults' ≡ faults
        → Watched now.peripherals.clock whole (end_of entries until now) w0 v taken0 more faults0 faults'
    watched-window now v more faults' is next_is took sound =
        let first = first-window entries until b placed none in
        rw (is, next_is) (record {
          sent = so_far.sent ++ writes w (records_of there) there.peripherals.clock;
          took =
              took
              ∙ ap (λ (out : Option (List ℕ)). grown out (writes w (records_of there) there.peripherals.clock)) so_far.took
              ∙ grown-twice taken0 so_far.sent (writes w (records_of there) there.peripherals.clock);
          sound = sound ∙ so_far.sound;
          text = text-window ∙ sym (append_assoc so_far.sent (writes w (records_of there) there.peripherals.clock) _);
          state = so_far.state ∙ rw (first.made, first.clock) in_two.state;
          room = in_two.room_rest;
          board = so_far.board ∙ first.board;
        })

    -- or a fault cuts it
    pub cut-window : (now : Option (List ℕ)) → (k : ℕ) × (now ≡ grown taken (take k (writes w (records_of there) there.peripherals.clock)))
        → (k : ℕ) × (now ≡ grown taken0 (take k (writes w0 (records_of whole) whole.peripherals.clock)))
    cut-window now cut =
        rw text-window (took_then taken0 taken now so_far.sent _ so_far.took
        (took_first taken now (writes w (records_of there) there.peripherals.clock) _ cut))

  -- the last window is what is still to come
  module _ (from : ℕ) (whole rest there : Board) (w0 w : W) (taken0 taken : Option (List ℕ)) (faults0 faults : ℕ)
      (so_far : Watched from whole rest w0 w taken0 taken faults0 faults) (last : there ≡ rest) where
    pub took-last : (now : Option (List ℕ)) → now ≡ grown taken (writes w (records_of there) there.peripherals.clock)
        → now ≡ grown taken0 (writes w0 (records_of whole) whole.peripherals.clock)
    took-last now took =
        took ∙ ap (λ (out : Option (List ℕ)). grown out (writes w (records_of there) there.peripherals.clock)) so_far.took ∙ grown-twice taken0 so_far.sent _
        ∙ ap (grown taken0) (rw last (sym so_far.text))

    pub state-last : (v : W) → v ≡ next w (records_of there) there.peripherals.clock → v ≡ next w0 (records_of whole) whole.peripherals.clock
    state-last v is = is ∙ rw last (sym so_far.state)

    pub board-last : (now : Board) → now ≡ cleared there → now ≡ cleared whole
    board-last now is = is ∙ ap cleared last ∙ sym so_far.board
