-- The log of a first part of the records, and then that of the rest, is the log of the whole. So
-- are their bytes.
use Rattle.board_base.specs.declared.part.Part.TheVariants.{Generator, Pokey1, Pokey2, Board}
use Rattle.board_base.proofs.RecordLaws.{trail-made}
use Rattle.std.proofs.Common.{◌≡◌, ℕ, List, ◌++◌, ap, ◌∙◌, refl}
use Rattle.std.proofs.lemmas.List.Concat.{flat_map-append}
use Rattle.log_text.proofs.PartLaws.{log_in_parts, merged_in_parts}
use Rattle.log_text.specs.LogText.{PartRecord, merged}
use Rattle.log_text.specs.RecordBytes.{records_bytes}
use Rattle.run_windows.specs.RecordObserver.{AreParts, TakesInParts}
use Rattle.lockstep_board.specs.Order.{Recorded}
use Rattle.run_log.specs.declared.log_writer.LogWriter.{LogWriter}
use Rattle.run_log.specs.declared.record_writer.RecordWriter.{RecordWriter}
use Rattle.run_log.specs.Slice.{AreTrails, bytes_of_records, text_of_records}

-- the bytes of two lists
pub records_bytes-append : (xs ys : List PartRecord) → records_bytes (xs ++ ys) ≡ records_bytes xs ++ records_bytes ys
unfolding records_bytes
records_bytes-append xs ys = flat_map-append _ xs ys

-- the records of a first part, and those of the rest, may be written
first-trails : (from : ℕ) (first : Recorded) (at : ℕ) (rest : Recorded) (upto : ℕ) → AreParts from first at rest upto → AreTrails first
first-trails from first at rest upto parts =
    let a = parts.sooner in
    record {
      vector = trail-made Generator from at first.strokes a.strokes;
      sound1 = trail-made Pokey1 from at first.levels1 a.levels1;
      sound2 = trail-made Pokey2 from at first.levels2 a.levels2;
      board = trail-made Board from at first.written a.written;
    }

rest-trails : (from : ℕ) (first : Recorded) (at : ℕ) (rest : Recorded) (upto : ℕ) → AreParts from first at rest upto → AreTrails rest
rest-trails from first at rest upto parts =
    let b = parts.later in
    record {
      vector = trail-made Generator at upto rest.strokes b.strokes;
      sound1 = trail-made Pokey1 at upto rest.levels1 b.levels1;
      sound2 = trail-made Pokey2 at upto rest.levels2 b.levels2;
      board = trail-made Board at upto rest.written b.written;
    }

pub log-taken_in_parts : TakesInParts {W = LogWriter} (λ _ _ records _. AreTrails records) (λ _ records _. text_of_records records) (λ w _ _. w)
log-taken_in_parts w from first at rest upto parts all =
    let a = parts.sooner in
    let b = parts.later in
    record {
      room_first = first-trails from first at rest upto parts;
      room_rest = rest-trails from first at rest upto parts;
      text =
          log_in_parts from at upto first.strokes rest.strokes first.levels1 rest.levels1 first.levels2 rest.levels2 first.written rest.written
          a.strokes b.strokes a.levels1 b.levels1 a.levels2 b.levels2 a.written b.written;
      state = refl;
    }

pub records-taken_in_parts : TakesInParts {W = RecordWriter} (λ _ _ records _. AreTrails records) (λ _ records _. bytes_of_records records) (λ w _ _. w)
records-taken_in_parts w from first at rest upto parts all =
    let a = parts.sooner in
    let b = parts.later in
    record {
      room_first = first-trails from first at rest upto parts;
      room_rest = rest-trails from first at rest upto parts;
      text =
          ap records_bytes
          (merged_in_parts from at upto first.strokes rest.strokes first.levels1 rest.levels1 first.levels2 rest.levels2 first.written rest.written
          a.strokes b.strokes a.levels1 b.levels1 a.levels2 b.levels2 a.written b.written)
          ∙ records_bytes-append (merged first.strokes first.levels1 first.levels2 first.written) (merged rest.strokes rest.levels1 rest.levels2 rest.written);
      state = refl;
    }
