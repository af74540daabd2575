-- A slice of a run, from one cut to the next, or from the last cut to the run's end.
use Rattle.std.specs.Prelude.{ℕ, List}
use Rattle.board_base.specs.declared.part.Part.TheVariants.{Generator, Pokey1, Pokey2, Board}
use Rattle.board_base.specs.Records.{IsTrailOf}
use Rattle.tape_ports.specs.declared.entry.TapeEntry.{TapeEntry}
use Rattle.log_text.specs.LogText.{log_text, merged, merged_text}
use Rattle.log_text.specs.RecordBytes.{records_bytes}
use Rattle.lockstep_board.specs.Lockstep as lockstep
use Rattle.lockstep_board.specs.Order.{Recorded}
use Rattle.run_windows.specs.declared.until.Until.{Until}
use Rattle.run_windows.specs.Windows.{steps_to}
use Rattle.run_log.specs.OneList.{one_list}

-- the lines of the records that n steps make, and those of a slice
abbrev pub text_of_steps : List TapeEntry → ℕ → lockstep.Board → List ℕ
text_of_steps entries n b = log_text (one_list entries n b)

abbrev pub slice_text : List TapeEntry → Until → lockstep.Board → List ℕ
slice_text entries until b = text_of_steps entries (steps_to entries until b) b

-- the records of a slice as bytes
abbrev pub slice_records : List TapeEntry → Until → lockstep.Board → List ℕ
slice_records entries until b = records_bytes (one_list entries (steps_to entries until b) b)

-- the records of each part are those that it makes, in the order of their clocks
pub record AreTrails (l : Recorded) : Type 0 where
  pub vector : IsTrailOf Generator l.strokes
  pub sound1 : IsTrailOf Pokey1 l.levels1
  pub sound2 : IsTrailOf Pokey2 l.levels2
  pub board : IsTrailOf Board l.written

-- the lines of the records of four lists
abbrev pub text_of_records : Recorded → List ℕ
text_of_records l = merged_text l.strokes l.levels1 l.levels2 l.written

-- the bytes of the records of four lists
abbrev pub bytes_of_records : Recorded → List ℕ
bytes_of_records l = records_bytes (merged l.strokes l.levels1 l.levels2 l.written)
