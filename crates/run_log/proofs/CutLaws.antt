-- A run in slices, cut by cut.
use Rattle.std.proofs.Common.{◌≡◌, ℕ, ◌+◌, ◌*◌, ◌≤◌, ◌<◌, min, get_or, length, drop, List, [], ◌∷◌, ◌++◌, Option, refl, sym, ap, ◌∙◌, arith, append_assoc}
use Rattle.std.proofs.Math.Seq.{drop-length}
use Rattle.std.proofs.lemmas.List.{drop_more}
use Rattle.tape_ports.specs.declared.entry.TapeEntry.{TapeEntry}
use Rattle.catchup_engine.specs.EngineValue.{EngineValue, counted_on}
use Rattle.lockstep_board.specs.Order.{cleared, Recorded, behind}
use Rattle.lockstep_board.specs.Lockstep.{Board}
use Rattle.lockstep_board.specs.Run.{IsPlaced, boundary_steps, clock_steps, to_clock, stepped, to_boundary}
use Rattle.lockstep_board.proofs.Behind.{to_clock-behind, to_boundary-behind}
use Rattle.lockstep_board.proofs.Budgets.{budget-parts}
use Rattle.lockstep_board.proofs.Ends.{boundary-clock-steps}
use Rattle.lockstep_board.proofs.Places.{stepped-placed}
use Rattle.lockstep_board.proofs.Runs.{stepped-add}
use Rattle.run_windows.specs.declared.until.Until.TheVariants.{Clock, Boundary}
use Rattle.outside_io.specs.Events.{Event}
use Rattle.outside_io.specs.Seen.{HostDid, HostDidFirst, NoFault, SameLoans, Seen}
use Rattle.run_windows.specs.Synced.{IsSynced}
use Rattle.run_windows.specs.Windows.{steps_to, window_price}
use Rattle.run_log.specs.Slice.{slice_text, text_of_steps}
use Rattle.run_log.specs.Slices.{WithinBudget, StopsIn, Wanted, cut_events, ending_text, last_board, last_events, run_budget, run_events, saved_bytes}
use Rattle.outside_io.proofs.EventLaws.{did-none, did-first-of, did-then, did-then-first}
use Rattle.run_windows.proofs.WatchLaws.{from-behind, price-add, price-cleared, steps-cleared}
use Rattle.run_log.proofs.SliceLaws.{same-of, text-cleared}
use Rattle.run_log.proofs.SlicesLaws.{ending-behind}

module _ (entries : List TapeEntry) where
  run-cleared : (cut : ℕ) (b : Board) → cleared (to_clock entries cut (cleared b)) ≡ cleared (to_clock entries cut b)
  run-cleared cut = from-behind (λ b. cleared (to_clock entries cut b)) (λ l b. ap cleared (to_clock-behind entries cut l b))

  end-cleared : (limit : ℕ) (b : Board) → cleared (to_boundary entries limit (cleared b)) ≡ cleared (to_boundary entries limit b)
  end-cleared limit = from-behind (λ b. cleared (to_boundary entries limit b)) (λ l b. ap cleared (to_boundary-behind entries limit l b))

  saved-run-behind : (cut : ℕ) (l : Recorded) (b : Board) → saved_bytes (to_clock entries cut (behind l b)) ≡ saved_bytes (to_clock entries cut b)
  unfolding saved_bytes
  saved-run-behind cut l b = ap saved_bytes (to_clock-behind entries cut l b)

  saved-end-behind : (limit : ℕ) (l : Recorded) (b : Board) → saved_bytes (to_boundary entries limit (behind l b)) ≡ saved_bytes (to_boundary entries limit b)
  unfolding saved_bytes
  saved-end-behind limit l b = ap saved_bytes (to_boundary-behind entries limit l b)

  cut_events-cleared : (cut : ℕ) (save : Option (List ℕ)) (b : Board) → cut_events entries cut save (cleared b) ≡ cut_events entries cut save b
  unfolding cut_events
  cut_events-cleared cut save b =
      let text : slice_text entries (Clock cut) (cleared b) ≡ slice_text entries (Clock cut) b =
      text-cleared entries (steps_to entries (Clock cut) (cleared b)) b ∙ ap (λ n. text_of_steps entries n b) (steps-cleared entries (Clock cut) b) in
      rw (text, from-behind (λ b. saved_bytes (to_clock entries cut b)) (saved-run-behind cut) b) refl

  last_events-cleared : (limit : ℕ) (wanted : Wanted) (calls : ℕ) (b : Board) → last_events entries limit wanted calls (cleared b) ≡ last_events entries limit wanted calls b
  unfolding last_events
  last_events-cleared limit wanted calls b =
      let text : slice_text entries (Boundary limit) (cleared b) ≡ slice_text entries (Boundary limit) b =
      text-cleared entries (steps_to entries (Boundary limit) (cleared b)) b ∙ ap (λ n. text_of_steps entries n b) (steps-cleared entries (Boundary limit) b) in
      let ending : ending_text wanted calls (to_boundary entries limit (cleared b)) ≡ ending_text wanted calls (to_boundary entries limit b) =
      from-behind (λ b. ending_text wanted calls (to_boundary entries limit b))
      (λ l c. ap (ending_text wanted calls) (to_boundary-behind entries limit l c) ∙ ending-behind wanted calls l (to_boundary entries limit c)) b in
      let saved = from-behind (λ b. saved_bytes (to_boundary entries limit b)) (saved-end-behind limit) b in
      let cells = from-behind (λ b. (to_boundary entries limit b).peripherals.earom.cells) (λ l c. ap (λ (d : Board). d.peripherals.earom.cells) (to_boundary-behind entries limit l c)) b in
      rw (text, ending, saved, cells) refl

-- a run in slices under way, so many cuts after its start
pub record CutUpTo (entries : List TapeEntry) (limit : ℕ) (wanted : Wanted) (cuts : List ℕ) (start now : EngineValue) (i : ℕ) (before after : Seen) : Type 0 where
  pub placed : IsPlaced start.board
  pub done : List Event
  pub steps : ℕ
  pub board : cleared now.board ≡ cleared (stepped entries steps start.board)
  pub events : (calls : ℕ) → run_events entries limit wanted calls cuts start.board
      ≡ done ++ run_events entries limit wanted calls (drop i cuts) (stepped entries steps start.board)
  pub last : last_board entries limit cuts start.board ≡ last_board entries limit (drop i cuts) (stepped entries steps start.board)
  pub whole : boundary_steps entries limit start.board ≡ steps + boundary_steps entries limit (stepped entries steps start.board)
  pub did : HostDid done before after
  pub loans : SameLoans before after
  pub shelf : after.shelf_faults ≡ before.shelf_faults
  pub out : after.out_faults ≡ before.out_faults
  pub absences : before.absences ≤ after.absences
  pub fresh : IsSynced now
  pub most : now.calls ≤ start.calls + window_price entries steps start.board + 10 * i
  pub least : counted_on start.calls (5 * i) ≤ now.calls

pub cuts-start : (entries : List TapeEntry) (limit : ℕ) (wanted : Wanted) (cuts : List ℕ) (now : EngineValue) (host : Seen)
    → IsSynced now → CutUpTo entries limit wanted cuts now now 0 host host
unfolding stepped
cuts-start entries limit wanted cuts now host fresh = record {
  placed = fresh.placed;
  done = [];
  steps = 0;
  board = refl;
  events = λ calls. refl;
  last = refl;
  whole = omega arith;
  did = did-none host.taken host.stores;
  loans = record { shelf = refl; out = refl };
  shelf = refl;
  out = refl;
  absences = omega arith;
  fresh = fresh;
  most = omega arith;
  least = omega arith;
}

-- so many slices may cost ten calls each, and five more, besides the price of the steps
budget-is : (entries : List TapeEntry) (limit slices : ℕ) (b : Board)
    → run_budget entries limit slices b ≡ window_price entries (boundary_steps entries limit b) b + 10 * slices + 5
unfolding run_budget
budget-is entries limit slices b =
    let parts = budget-parts entries (boundary_steps entries limit b) b in
    omega arith

-- the least number of device calls is within the budget
pub budget-least : (entries : List TapeEntry) (limit cuts : ℕ) (b : Board) (before : ℕ) → WithinBudget entries limit cuts b before (counted_on before (5 * cuts))
budget-least entries limit cuts b before =
    let budget = budget-is entries limit (cuts + 1) b in
    record { least = omega arith; most = omega arith }

module _ (entries : List TapeEntry) (limit : ℕ) (wanted : Wanted) (cuts : List ℕ) (start now : EngineValue) (i : ℕ) (before after : Seen)
    (u : CutUpTo entries limit wanted cuts start now i before after) where
  abbrev reached : Board
  reached = stepped entries u.steps start.board

  same-cut : (c : ℕ) (save : Option (List ℕ)) → cut_events entries c save now.board ≡ cut_events entries c save reached
  same-cut c save = same-of (cut_events entries c save) (cut_events-cleared entries c save) now.board reached u.board

  same-steps : (c : ℕ) → clock_steps entries c now.board ≡ clock_steps entries c reached
  same-steps c = same-of (steps_to entries (Clock c)) (steps-cleared entries (Clock c)) now.board reached u.board

  same-price : (n : ℕ) → window_price entries n now.board ≡ window_price entries n reached
  same-price n = same-of (window_price entries n) (price-cleared entries n) now.board reached u.board

  there : (c : ℕ) → stepped entries (u.steps + clock_steps entries c reached) start.board ≡ to_clock entries c reached
  unfolding to_clock
  there c = stepped-add entries u.steps (clock_steps entries c reached) start.board

  module _ (lowered : ℕ) (is : lowered ≡ min (get_or cuts i 0) limit) (inside : i < length cuts) where
    left : drop i cuts ≡ get_or cuts i 0 ∷ drop (i + 1) cuts
    left = drop_more cuts i 0 inside

    events-left : (calls : ℕ) → run_events entries limit wanted calls cuts start.board
        ≡ u.done ++ (cut_events entries lowered wanted.save now.board ++ run_events entries limit wanted calls (drop (i + 1) cuts) (to_clock entries lowered reached))
    unfolding run_events
    events-left calls =
        u.events calls ∙ rw (left, ← is, same-cut lowered wanted.save) refl

    last-left : last_board entries limit cuts start.board ≡ last_board entries limit (drop (i + 1) cuts) (to_clock entries lowered reached)
    unfolding last_board
    last-left = u.last ∙ rw (left, is) refl

    -- one cut more
    pub cuts-on : (next : EngineValue) (later : Seen) → HostDid (cut_events entries lowered wanted.save now.board) after later
        → SameLoans after later → NoFault after later → after.absences ≤ later.absences
        → next.board ≡ cleared (to_clock entries lowered now.board) → IsSynced next
        → next.calls ≤ now.calls + window_price entries (clock_steps entries lowered now.board) now.board + 10 → counted_on now.calls 5 ≤ next.calls
        → CutUpTo entries limit wanted cuts start next (i + 1) before later
    cuts-on next later did loans faults absences board fresh most least =
        let events = cut_events entries lowered wanted.save now.board in
        let more = clock_steps entries lowered reached in
        let most_cut : lowered ≤ limit = rw is (omega arith) in
        let split = boundary-clock-steps entries lowered limit reached most_cut (stepped-placed entries u.steps start.board u.placed) in
        let price = price-add entries u.steps more start.board in
        let own : window_price entries (clock_steps entries lowered now.board) now.board ≡ window_price entries more reached =
        ap (λ n. window_price entries n now.board) (same-steps lowered) ∙ same-price more in
        record {
          placed = u.placed;
          done = u.done ++ events;
          steps = u.steps + more;
          board =
              ap cleared board
              ∙ same-of (λ b. cleared (to_clock entries lowered b)) (run-cleared entries lowered) now.board reached u.board
              ∙ ap cleared (sym (there lowered));
          events = λ calls.
              events-left calls
              ∙ sym (append_assoc u.done events (run_events entries limit wanted calls (drop (i + 1) cuts) (to_clock entries lowered reached)))
              ∙ ap (λ b. (u.done ++ events) ++ run_events entries limit wanted calls (drop (i + 1) cuts) b) (sym (there lowered));
          last = last-left ∙ ap (last_board entries limit (drop (i + 1) cuts)) (sym (there lowered));
          whole = rw (there lowered) (omega arith);
          did = did-then u.done events _ _ _ _ _ _ u.did did;
          loans = record { shelf = loans.shelf ∙ u.loans.shelf; out = loans.out ∙ u.loans.out };
          shelf = faults.0 ∙ u.shelf;
          out = faults.1 ∙ u.out;
          absences = omega arith;
          fresh = fresh;
          most = omega arith;
          least = omega arith;
        }

    -- a cut at which something failed
    pub cuts-stopped : (later : Seen) → HostDidFirst (cut_events entries lowered wanted.save now.board) after later
        → StopsIn entries limit wanted start.calls cuts start.board before.taken later.taken before.stores later.stores
    cuts-stopped later part =
        let calls = counted_on start.calls (5 * length cuts) in record {
          calls = calls;
          within_budget = budget-least entries limit (length cuts) start.board start.calls;
          did =
              rw (events-left calls)
              (did-then-first u.done _ _ _ _ _ _ _ u.did (did-first-of (cut_events entries lowered wanted.save now.board) _ _ _ _ _ part));
        }

  -- all cuts are done
  module _ (all : i ≡ length cuts) where
    none-left : drop i cuts ≡ []
    none-left = ap (λ n. drop n cuts) all ∙ drop-length cuts

    events-last : (calls : ℕ) → run_events entries limit wanted calls cuts start.board ≡ u.done ++ last_events entries limit wanted calls now.board
    unfolding run_events
    events-last calls =
        u.events calls
        ∙ rw (none-left, same-of (last_events entries limit wanted calls) (last_events-cleared entries limit wanted calls) now.board reached u.board) refl

    pub cuts-ended : (calls : ℕ) (later : Seen) → HostDid (last_events entries limit wanted calls now.board) after later
        → HostDid (run_events entries limit wanted calls cuts start.board) before later
    cuts-ended calls later did =
        rw (events-last calls) (did-then u.done (last_events entries limit wanted calls now.board) _ _ _ _ _ _ u.did did)

    pub cuts-board : (next : Board) → next ≡ cleared (to_boundary entries limit now.board) → next ≡ cleared (last_board entries limit cuts start.board)
    unfolding last_board
    cuts-board next is =
        is
        ∙ same-of (λ b. cleared (to_boundary entries limit b)) (end-cleared entries limit) now.board reached u.board
        ∙ ap cleared (sym (u.last ∙ ap (λ rest. last_board entries limit rest reached) none-left))

    pub cuts-calls : (next : EngineValue) → next.calls ≤ now.calls + window_price entries (boundary_steps entries limit now.board) now.board + 5
        → now.calls ≤ next.calls → WithinBudget entries limit (length cuts) start.board start.calls next.calls
    cuts-calls next most least =
        let more = boundary_steps entries limit reached in
        let own : window_price entries (boundary_steps entries limit now.board) now.board ≡ window_price entries more reached =
        ap (λ n. window_price entries n now.board)
        (same-of (steps_to entries (Boundary limit)) (steps-cleared entries (Boundary limit)) now.board reached u.board)
        ∙ same-price more in
        let price : window_price entries (boundary_steps entries limit start.board) start.board
        ≡ window_price entries u.steps start.board + window_price entries more reached =
        ap (λ n. window_price entries n start.board) u.whole ∙ price-add entries u.steps more start.board in
        let budget = budget-is entries limit (length cuts + 1) start.board in
        record { least = rw (sym all) (omega arith); most = omega arith }

    pub cuts-cut : (next : EngineValue) (later : Seen)
        → next.calls ≤ now.calls + window_price entries (boundary_steps entries limit now.board) now.board + 5 → now.calls ≤ next.calls
        → HostDidFirst (last_events entries limit wanted next.calls now.board) after later
        → StopsIn entries limit wanted start.calls cuts start.board before.taken later.taken before.stores later.stores
    cuts-cut next later most least part = record {
      calls = next.calls;
      within_budget = cuts-calls next most least;
      did =
          rw (events-last next.calls)
          (did-then-first u.done (last_events entries limit wanted next.calls now.board) _ _ _ _ _ _ u.did part);
    }
