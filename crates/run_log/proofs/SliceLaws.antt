-- The log of a slice.
use Rattle.std.proofs.Common.{◌≡◌, ℕ, ◌+◌, List, ◌++◌, refl, sym, ap, ◌∙◌}
use Rattle.board_base.specs.declared.part.Part.TheVariants.{Generator, Pokey1, Pokey2, Board}
use Rattle.board_base.proofs.RecordLaws.{trail-made}
use Rattle.log_text.specs.LogText.{log_text}
use Rattle.log_text.proofs.PartLaws.{log_text-append}
use Rattle.log_text.specs.RecordBytes.{records_bytes}
use Rattle.tape_ports.specs.declared.entry.TapeEntry.{TapeEntry}
use Rattle.lockstep_board.specs.Lockstep as lockstep
use Rattle.lockstep_board.specs.Run.{stepped}
use Rattle.lockstep_board.specs.Order.{HasNoRecords, cleared, records_of}
use Rattle.run_windows.specs.declared.until.Until.{Until}
use Rattle.run_windows.specs.Windows.{end_of, steps_to}
use Rattle.run_windows.proofs.WatchLaws.{run-made}
use Rattle.run_log.specs.Slice.{AreTrails, bytes_of_records, slice_records, slice_text, text_of_records, text_of_steps}
use Rattle.run_log.specs.OneList.{one_list, text_of_lists}
use Rattle.run_log.proofs.OneListLaws.{one_list-add, one_list-cleared, stepped-merged, stepped-one_list}

-- what doesn't look at records is the same of two boards that differ in them alone
pub same-of : {X : Type 0} (f : lockstep.Board → X) → ((b : lockstep.Board) → f (cleared b) ≡ f b) → (a b : lockstep.Board) → cleared a ≡ cleared b
    → f a ≡ f b
same-of f law a b e = sym (law a) ∙ ap f e ∙ law b

module _ (entries : List TapeEntry) where
  pub text-cleared : (n : ℕ) (b : lockstep.Board) → text_of_steps entries n (cleared b) ≡ text_of_steps entries n b
  text-cleared n b = ap log_text (one_list-cleared entries n b)

  pub text-add : (n m : ℕ) (b : lockstep.Board) → text_of_steps entries (n + m) b ≡ text_of_steps entries n b ++ text_of_steps entries m (stepped entries n b)
  text-add n m b = ap log_text (one_list-add entries n m b) ∙ log_text-append (one_list entries n b) (one_list entries m (stepped entries n b))

  -- the trails of a run may be written
  pub run-trails : (until : Until) (b : lockstep.Board) → HasNoRecords b → AreTrails (records_of (end_of entries until b))
  run-trails until b none =
      let after = end_of entries until b in
      let made = run-made entries until b none in
      record {
        vector = trail-made Generator b.peripherals.clock after.peripherals.clock after.peripherals.strokes made.strokes;
        sound1 = trail-made Pokey1 b.peripherals.clock after.peripherals.clock after.peripherals.levels1 made.levels1;
        sound2 = trail-made Pokey2 b.peripherals.clock after.peripherals.clock after.peripherals.levels2 made.levels2;
        board = trail-made Board b.peripherals.clock after.peripherals.clock after.peripherals.written made.written;
      }

  -- what is written of them
  pub run-text : (until : Until) (b : lockstep.Board) → HasNoRecords b
      → text_of_records (records_of (end_of entries until b)) ≡ slice_text entries until b
  unfolding text_of_lists
  run-text until b none = stepped-one_list entries (steps_to entries until b) b none

  -- and so are their bytes
  pub run-bytes : (until : Until) (b : lockstep.Board) → HasNoRecords b
      → bytes_of_records (records_of (end_of entries until b)) ≡ slice_records entries until b
  run-bytes until b none = ap records_bytes (stepped-merged entries (steps_to entries until b) b none (end_of entries until b) refl)
