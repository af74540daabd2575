-- The seven lines of a large run, which are this project's own.
use Rattle.std.specs.Prelude.{ℕ, List, [], ◌∷◌, codes, decimal}
use Rattle.std.specs.List.{concat}
use Rattle.text_line.specs.Words.{line}
use Rattle.tape_ports.specs.declared.entry.TapeEntry.{TapeEntry}
use Rattle.lockstep_board.specs.Lockstep.{Board}
use Rattle.lockstep_board.specs.Order.{records_of}
use Rattle.lockstep_board.specs.Run.{to_boundary}
use Rattle.run_summary.specs.declared.summary.Summary.{Summary}
use Rattle.run_summary.specs.Summary.{summary_of}

-- a word and a number
abbrev pub count_line : List ℕ → ℕ → List ℕ
count_line word n = line (word ∷ decimal n ∷ [])

-- the numbers of a summary, and the clock at which the run ended
unfoldable pub soak_text : Summary → ℕ → List ℕ
soak_text s clock =
    concat (count_line (codes "strokes") s.strokes ∷ count_line (codes "levels1") s.levels1 ∷ count_line (codes "levels2") s.levels2
    ∷ count_line (codes "latches") s.latches ∷ count_line (codes "resets") s.resets ∷ count_line (codes "sum") s.sum
    ∷ count_line (codes "clock") clock ∷ [])

-- The lines of a run to the first boundary that isn't before the limit: of all records that the
-- board has there.
abbrev pub run_text : List TapeEntry → ℕ → Board → List ℕ
run_text entries limit b = let last = to_boundary entries limit b in soak_text (summary_of (records_of last)) last.peripherals.clock
