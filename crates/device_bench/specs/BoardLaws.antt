-- To count a first part of the records of a board and then the rest is to count the whole.
use Rattle.std.specs.Prelude.{[], ⊤}
use Rattle.std.proofs.Common.{refl}
use Rattle.std.proofs.lemmas.List.Sums.{fold-append}
use Rattle.run_windows.specs.RecordObserver.{TakesInParts}
use Rattle.device_bench.specs.declared.board.BoardTally.{BoardTally}
use Rattle.device_bench.specs.Boards.{with_records}
use Rattle.device_bench.specs.Tally.{with_record}

pub tallied_in_parts : TakesInParts {W = BoardTally} (λ _ _ _ _. ⊤) (λ _ _ _. []) (λ t records _. with_records t records)
tallied_in_parts t from first at rest upto parts room = record {
  room_first = tt;
  room_rest = tt;
  text = refl;
  state =
      rw (
        fold-append with_record t.strokes first.strokes rest.strokes,
        fold-append with_record t.levels1 first.levels1 rest.levels1,
        fold-append with_record t.levels2 first.levels2 rest.levels2,
        fold-append with_record t.written first.written rest.written,
      ) refl;
}
