-- What is counted of the records of a board.
use Rattle.std.specs.Prelude.{fold}
use Rattle.lockstep_board.specs.Order.{Recorded}
use Rattle.device_bench.specs.declared.board.BoardTally.{BoardTally}
use Rattle.device_bench.specs.Tally.{empty_tally, with_record}

-- no record of any part
abbrev pub empty_tallies : BoardTally
empty_tallies = record { strokes = empty_tally; levels1 = empty_tally; levels2 = empty_tally; written = empty_tally }

-- the tallies with these records of each part more
abbrev pub with_records : BoardTally → Recorded → BoardTally
with_records t l = record {
  strokes = fold with_record t.strokes l.strokes;
  levels1 = fold with_record t.levels1 l.levels1;
  levels2 = fold with_record t.levels2 l.levels2;
  written = fold with_record t.written l.written;
}

-- the tallies of the records of each part
abbrev pub tallies_of : Recorded → BoardTally
tallies_of l = with_records empty_tallies l
