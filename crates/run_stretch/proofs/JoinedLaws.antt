-- Two stretches are one.
use Rattle.std.proofs.Common.{◌≡◌, ℕ, ◌+◌, Bool, List, ◌++◌, length, Ok, refl, sym, ap, ◌∙◌, arith, is_some}
use Rattle.std.proofs.lemmas.List.{length-append}
use Rattle.run_windows.specs.declared.until.Until.{Until}
use Rattle.run_windows.specs.declared.until.Until.TheVariants.{Boundary, Clock}
use Rattle.run_windows.specs.Windows.{end_of, steps_to}
use Rattle.run_windows.proofs.WatchLaws.{from-behind, steps-cleared}
use Rattle.lockstep_board.specs.Order.{cleared, Recorded, behind}
use Rattle.lockstep_board.specs.Lockstep.{Board}
use Rattle.lockstep_board.specs.Run.{IsPlaced, stepped, to_boundary, to_clock}
use Rattle.lockstep_board.proofs.Behind.{to_boundary-behind, to_clock-behind}
use Rattle.lockstep_board.proofs.Ends.{boundary-clock-steps, boundary-split-steps, to_clock-split-steps}
use Rattle.lockstep_board.proofs.Runs.{stepped-add}
use Rattle.keyframes.proofs.ImageLaws.{stepped-image}
use Rattle.run_log.specs.Slice.{slice_text, text_of_steps}
use Rattle.run_log.specs.Slices.{saved_bytes}
use Rattle.run_log.proofs.SliceLaws.{text-add, text-cleared}
use Rattle.tape_ports.specs.declared.entry.TapeEntry.{TapeEntry}
use Rattle.run_stretch.specs.declared.ended.Stretch.{Stretch}
use Rattle.run_stretch.specs.Joined.{AreOne, IsOnTheWay}
use Rattle.run_stretch.specs.Stretches.{Comes, EndsAt, IsAdvanced, first_board}
use Rattle.run_stretch.proofs.ReadingLaws.{begins-again, begins-same, entries-same, first-placed}
use Rattle.run_stretch.proofs.StretchLaws.{ends-all}

module _ (entries : List TapeEntry) where
  -- the steps of a run are those to an end on its way, and then the rest
  split : (one other : Until) (b : Board) → IsOnTheWay one other → IsPlaced b
      → steps_to entries other b ≡ steps_to entries one b + steps_to entries other (end_of entries one b)
  unfolding to_clock to_boundary
  split (Clock c) (Clock d) b way placed = to_clock-split-steps entries c d b way
  split (Clock c) (Boundary d) b way placed = boundary-clock-steps entries c d b way placed
  split (Boundary c) (Boundary d) b way placed = boundary-split-steps entries c d b way placed
  split (Boundary c) (Clock d) b way placed = elim way [ ]

  end-behind : (until : Until) (l : Recorded) (b : Board) → end_of entries until (behind l b) ≡ behind l (end_of entries until b)
  unfolding to_clock to_boundary
  end-behind (Clock cut) l b = to_clock-behind entries cut l b
  end-behind (Boundary limit) l b = to_boundary-behind entries limit l b

  -- what doesn't look at records is the same at a run's end, whatever records stood at its
  -- beginning
  end-cleared : {X : Type 0} (f : Board → X) → ((l : Recorded) (b : Board) → f (behind l b) ≡ f b) → (until : Until) (b : Board)
      → f (end_of entries until (cleared b)) ≡ f (end_of entries until b)
  end-cleared f law until = from-behind (λ b. f (end_of entries until b)) (λ l b. ap f (end-behind until l b) ∙ law l (end_of entries until b))

  saved-behind : (l : Recorded) (b : Board) → saved_bytes (behind l b) ≡ saved_bytes b
  unfolding saved_bytes
  saved-behind l b = refl

  module _ (one other : Until) (b : Board) (way : IsOnTheWay one other) (placed : IsPlaced b) where
    half : Board
    half = end_of entries one b

    text-whole : slice_text entries other b ≡ slice_text entries one b ++ slice_text entries other (cleared half)
    unfolding half
    text-whole =
        ap (λ n. text_of_steps entries n b) (split one other b way placed)
        ∙ text-add entries (steps_to entries one b) (steps_to entries other half) b
        ∙ ap (λ text. slice_text entries one b ++ text)
        (sym (ap (λ n. text_of_steps entries n (cleared half)) (steps-cleared entries other half) ∙ text-cleared entries (steps_to entries other half) half))

    end-whole : end_of entries other b ≡ end_of entries other half
    unfolding half
    end-whole =
        ap (λ n. stepped entries n b) (split one other b way placed)
        ∙ stepped-add entries (steps_to entries one b) (steps_to entries other half) b

    -- the second stretch begins at the board of the first without its records
    one-run : (some more all : ℕ) (first second whole : Stretch) → EndsAt some (slice_text entries one b) half first
        → EndsAt more (slice_text entries other (cleared half)) (end_of entries other (cleared half)) second
        → EndsAt all (slice_text entries other b) (end_of entries other b) whole → AreOne first second whole
    unfolding half
    one-run some more all first second whole e1 e2 e3 = record {
      output = λ has_first has_second has_whole.
          ends-all all _ _ whole e3 has_whole
          ∙ text-whole
          ∙ sym (ap (λ (l : List ℕ). l ++ second.output.items) (ends-all some _ _ first e1 has_first)
          ∙ ap (λ (l : List ℕ). slice_text entries one b ++ l) (ends-all more _ _ second e2 has_second));
      wanted =
          let sum : length (slice_text entries other b) ≡ length (slice_text entries one b) + length (slice_text entries other (cleared half)) =
          ap length text-whole ∙ length-append (slice_text entries one b) (slice_text entries other (cleared half)) in
          let of_first = e1.wanted in
          let of_second = e2.wanted in
          let of_whole = e3.wanted in
          omega arith;
      board = e3.board ∙ ap saved_bytes end-whole ∙ sym (e2.board ∙ end-cleared saved_bytes saved-behind other half);
      clock = e3.clock ∙ ap (λ (x : Board). x.peripherals.clock) end-whole ∙ sym (e2.clock ∙ end-cleared (λ x. x.peripherals.clock) (λ l x. refl) other half);
      jammed = e3.jammed ∙ ap (λ (x : Board). is_some x.cpu.jam) end-whole ∙ sym (e2.jammed ∙ end-cleared (λ x. is_some x.cpu.jam) (λ l x. refl) other half);
    }

-- stretches over the bytes of files
pub joined : (image board tape : List ℕ) → (timers : Bool) → (some more all : ℕ) → (one other : Until) → IsOnTheWay one other → (first second whole : Stretch)
    → Comes image board tape (IsAdvanced some timers one) (Ok first) → Comes image first.board tape (IsAdvanced more timers other) (Ok second)
    → Comes image board tape (IsAdvanced all timers other) (Ok whole) → AreOne first second whole
unfolding half
joined image board tape timers some more all one other way first second whole came1 came2 came3 =
    let p = came1.0 in
    let q = came2.0 in
    let r = came3.0 in
    let entries = p.tape.entries in
    let b = first_board timers p in
    let there = end_of entries one b in
    let e2 : q.tape.entries ≡ entries = entries-same image board first.board tape p q came1.1 came2.1 in
    let e3 : r.tape.entries ≡ entries = entries-same image board board tape p r came1.1 came3.1 in
    let b2 : first_board timers q ≡ cleared there =
    begins-again image board first.board tape timers p q there came1.1 came2.1 came1.2.board came1.2.whole (stepped-image entries (steps_to entries one b) b) in
    let b3 : first_board timers r ≡ b = begins-same image board tape timers p r came1.1 came3.1 in
    one-run entries one other b way (first-placed timers p came1.1.1.2) some more all first second whole came1.2 (rw (e2, b2) at came2.2) (rw (e3, b3) at came3.2)
