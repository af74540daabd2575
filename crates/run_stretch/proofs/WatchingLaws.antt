-- What is kept of a run, window by window.
use Rattle.std.proofs.Common.{◌≡◌, ℕ, List, [], ◌++◌, Option, Some, Result, Ok, refl, ap, ◌∙◌, subst}
use Rattle.std.specs.Prelude.{OnOk}
use Rattle.outside_io.specs.Known.{grown}
use Rattle.lockstep_board.specs.Lockstep.{Board}
use Rattle.lockstep_board.specs.Order.{HasNoRecords, Recorded, cleared, records_of}
use Rattle.lockstep_board.specs.Run.{IsPlaced}
use Rattle.tape_ports.specs.declared.entry.TapeEntry.{TapeEntry}
use Rattle.run_windows.specs.declared.until.Until.{Until}
use Rattle.run_windows.specs.RecordObserver.{TakesInParts}
use Rattle.run_windows.specs.Windows.{end_of, window_end}
use Rattle.run_windows.proofs.WatchLaws.{Watched, room-window, took-last, watched-start, watched-window}
use Rattle.run_stretch.specs.Kept.{IsKept}
use Rattle.run_stretch.specs.declared.kept_text.KeptText.{KeptText}
use Rattle.run_stretch.proofs.StretchLaws.{grown-whole}

-- what holds of a call that succeeds, of one that did
pub ok-holds : {T E : Type 0} (r : Result T E) (x : T) (P : Type 0) → r ≡ Ok x → OnOk r P → P
ok-holds r x P is h = rw is at h

module _ {W : Type 0} (can_take : W → ℕ → Recorded → ℕ → Type 0) (writes : W → Recorded → ℕ → List ℕ) (next : W → Recorded → ℕ → W) where
  -- an observer has written a first part of a run, of which so much is kept as there is room for;
  -- the rest is still to come
  pub record KeepsUp (space from : ℕ) (whole rest : Board) (w0 w : W) (t : KeptText) : Type 0 where
    pub text : List ℕ
    pub watched : Watched can_take writes next from whole rest w0 w (Some []) (Some text) 0 0
    pub kept : IsKept space text t

  pub keeps-start : (space from : ℕ) (whole : Board) (w : W) (t : KeptText) → can_take w from (records_of whole) whole.peripherals.clock → IsKept space [] t
      → KeepsUp space from whole whole w w t
  keeps-start space from whole w t room kept = record {
    text = [];
    watched = watched-start can_take writes next from whole w (Some []) 0 room;
    kept = kept;
  }

  module _ (law : TakesInParts can_take writes next) (entries : List TapeEntry) (until : Until) (space : ℕ) (whole b : Board) (w0 w : W) (t : KeptText)
      (so_far : KeepsUp space b.peripherals.clock whole (end_of entries until b) w0 w t) (placed : IsPlaced b) (none : HasNoRecords b) where
    abbrev there : Board
    there = window_end entries until b

    -- there is room for the next window
    pub keeps-room : can_take w b.peripherals.clock (records_of there) there.peripherals.clock
    keeps-room = room-window can_take writes next law entries until whole b w0 w (Some []) (Some so_far.text) 0 0 so_far.watched placed none

    -- what it writes is kept after what was kept
    pub keeps-window : (now : Board) (v : W) (before lines : List ℕ) (u : KeptText) → now ≡ cleared there → v ≡ next w (records_of there) there.peripherals.clock
        → before ≡ [] → Some lines ≡ grown (Some before) (writes w (records_of there) there.peripherals.clock)
        → ((room : ℕ) (text : List ℕ) → IsKept room text t → IsKept room (text ++ lines) u)
        → KeepsUp space now.peripherals.clock whole (end_of entries until now) w0 v u
    keeps-window now v before lines u is next_is empty took takes =
        let lines_are : lines ≡ writes w (records_of there) there.peripherals.clock = grown-whole lines before _ took empty in
        record {
          text = so_far.text ++ writes w (records_of there) there.peripherals.clock;
          watched =
              watched-window can_take writes next law entries until whole b w0 w (Some []) (Some so_far.text) 0 0 so_far.watched placed none
              now v (Some (so_far.text ++ writes w (records_of there) there.peripherals.clock)) 0 is next_is refl refl;
          kept = subst (λ (l : List ℕ). IsKept space (so_far.text ++ l) u) lines_are (takes space so_far.text so_far.kept);
        }

  some-same : {A : Type 0} (a b : A) → (let o : Option A = Some a in o) ≡ Some b → a ≡ b
  some-same a b e = cc

  -- and of the last window, all that the run writes
  pub keeps-last : (space from : ℕ) (whole rest there : Board) (w0 w : W) (t u : KeptText) (before lines : List ℕ) → KeepsUp space from whole rest w0 w t
      → there ≡ rest → before ≡ [] → Some lines ≡ grown (Some before) (writes w (records_of there) there.peripherals.clock)
      → ((room : ℕ) (text : List ℕ) → IsKept room text t → IsKept room (text ++ lines) u)
      → IsKept space (writes w0 (records_of whole) whole.peripherals.clock) u
  keeps-last space from whole rest there w0 w t u before lines so_far last empty took takes =
      let lines_are : lines ≡ writes w (records_of there) there.peripherals.clock = grown-whole lines before _ took empty in
      let all : so_far.text ++ lines ≡ writes w0 (records_of whole) whole.peripherals.clock =
      ap (λ (l : List ℕ). so_far.text ++ l) lines_are
      ∙ some-same _ _ (took-last can_take writes next from whole rest there w0 w (Some []) (Some so_far.text) 0 0 so_far.watched last
      (Some (so_far.text ++ writes w (records_of there) there.peripherals.clock)) refl) in
      subst (λ (l : List ℕ). IsKept space l u) all (takes space so_far.text so_far.kept)
