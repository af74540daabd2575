-- A run that is cut is the run.
use Rattle.std.proofs.Common.{◌≡◌, ℕ, ◌≤◌, min, List, [], ◌∷◌, ◌++◌, Option, Some, None, refl, sym, ap, ◌∙◌, arith, append_assoc, append-nil}
use Rattle.tape_ports.specs.declared.entry.TapeEntry.{TapeEntry}
use Rattle.lockstep_board.specs.Lockstep.{Board}
use Rattle.lockstep_board.specs.Run.{IsPlaced, boundary_steps, clock_steps, to_clock, to_boundary}
use Rattle.lockstep_board.proofs.Ends.{boundary-clock, boundary-clock-steps}
use Rattle.lockstep_board.proofs.Places.{to_clock-placed}
use Rattle.run_windows.specs.declared.until.Until.TheVariants.{Clock, Boundary}
use Rattle.outside_io.specs.Events.{text_of, storing}
use Rattle.run_log.specs.Slice.{slice_text, text_of_steps}
use Rattle.run_log.specs.Slices.{Wanted, cut_events, ending_text, last_board, last_events, run_events}
use Rattle.outside_io.proofs.EventLaws.{text_of-append, text_of-sending}
use Rattle.run_log.proofs.SliceLaws.{text-add}

-- a store sends nothing
text_of-storing : (name : Option (List ℕ)) (bytes : List ℕ) → text_of (storing name bytes) ≡ []
unfolding text_of
text_of-storing None bytes = refl
text_of-storing (Some name) bytes = refl

module _ (entries : List TapeEntry) (limit : ℕ) (wanted : Wanted) (calls : ℕ) where
  -- the text of the last slice
  last-text : (b : Board) → text_of (last_events entries limit wanted calls b)
      ≡ slice_text entries (Boundary limit) b ++ ending_text wanted calls (to_boundary entries limit b)
  unfolding last_events
  last-text b = simp (text_of-append, text_of-storing, text_of-sending, append-nil)

  cut-text : (cut : ℕ) (b : Board) → text_of (cut_events entries cut wanted.save b) ≡ slice_text entries (Clock cut) b
  unfolding cut_events
  cut-text cut b = simp (text_of-append, text_of-storing, text_of-sending, append-nil)

  -- a slice and the rest of the run are the run
  slice-and-rest : (cut : ℕ) (b : Board) → cut ≤ limit → IsPlaced b
      → slice_text entries (Clock cut) b ++ text_of (last_events entries limit wanted calls (to_clock entries cut b)) ≡ text_of (last_events entries limit wanted calls b)
  unfolding to_clock
  slice-and-rest cut b h placed =
      let later = to_clock entries cut b in
      let whole : slice_text entries (Boundary limit) b ≡ slice_text entries (Clock cut) b ++ slice_text entries (Boundary limit) later =
      ap (λ n. text_of_steps entries n b) (boundary-clock-steps entries cut limit b h placed)
      ∙ text-add entries (clock_steps entries cut b) (boundary_steps entries limit later) b in
      rw (last-text later, last-text b, whole, boundary-clock entries cut limit b h placed) (sym (append_assoc (slice_text entries (Clock cut) b) _ _))

  -- the text of a run is the same, wherever it is cut
  pub text-cut : (cuts : List ℕ) (b : Board) → IsPlaced b
      → text_of (run_events entries limit wanted calls cuts b) ≡ text_of (run_events entries limit wanted calls [] b)
  unfolding run_events
  text-cut [] b placed = refl
  text-cut (cut ∷ cuts) b placed =
      let c = min cut limit in
      let later = to_clock entries c b in
      rw (
        text_of-append (cut_events entries c wanted.save b) (run_events entries limit wanted calls cuts later),
        cut-text c b,
        text-cut cuts later (to_clock-placed entries c b placed),
      )
      (slice-and-rest c b (omega arith) placed)

  -- and so is its last board
  pub board-cut : (cuts : List ℕ) (b : Board) → IsPlaced b → last_board entries limit cuts b ≡ to_boundary entries limit b
  unfolding last_board
  board-cut [] b placed = refl
  board-cut (cut ∷ cuts) b placed =
      board-cut cuts (to_clock entries (min cut limit) b) (to_clock-placed entries (min cut limit) b placed)
      ∙ sym (boundary-clock entries (min cut limit) limit b (omega arith) placed)

pub ruleset cut_laws = (text-cut, board-cut)
