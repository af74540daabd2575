-- The records of a board, part by part.
use Rattle.std.specs.Prelude.{◌≡◌, ℕ, ◌+◌, ◌≤◌, List, [], ◌++◌, length}
use Rattle.board_base.specs.declared.part.Part.TheVariants as part
use Rattle.board_base.specs.declared.record.Record.{Record}
use Rattle.board_base.specs.Records.{MadeBetween}
use Rattle.tape_ports.specs.declared.entry.TapeEntry.{TapeEntry}
use Rattle.lockstep_board.specs.Lockstep.{Board, step}

-- the records of each part
pub record Recorded : Type 0 where
  pub strokes : List Record
  pub levels1 : List Record
  pub levels2 : List Record
  pub written : List Record

-- the records of a board
abbrev pub records_of : Board → Recorded
records_of b = record {
  strokes = b.peripherals.strokes;
  levels1 = b.peripherals.levels1;
  levels2 = b.peripherals.levels2;
  written = b.peripherals.written;
}

-- no record has been made since the last clearing
pub record HasNoRecords (b : Board) : Type 0 where
  pub strokes : b.peripherals.strokes ≡ []
  pub levels1 : b.peripherals.levels1 ≡ []
  pub levels2 : b.peripherals.levels2 ≡ []
  pub written : b.peripherals.written ≡ []

-- the board with its records forgotten
abbrev pub cleared : Board → Board
cleared b = record b { peripherals = record b.peripherals { strokes = []; levels1 = []; levels2 = []; written = [] } }

-- a board with records made before, each part's in front of those that it has
abbrev pub behind : Recorded → Board → Board
behind l b = record b {
  peripherals = record b.peripherals {
    strokes = l.strokes ++ b.peripherals.strokes;
    levels1 = l.levels1 ++ b.peripherals.levels1;
    levels2 = l.levels2 ++ b.peripherals.levels2;
    written = l.written ++ b.peripherals.written;
  };
}

-- each part's records are those that it makes, made from one clock to another, in the order of
-- their clocks
pub record AreMadeBetween (from : ℕ) (l : Recorded) (to : ℕ) : Type 0 where
  pub strokes : MadeBetween part.Generator from l.strokes to
  pub levels1 : MadeBetween part.Pokey1 from l.levels1 to
  pub levels2 : MadeBetween part.Pokey2 from l.levels2 to
  pub written : MadeBetween part.Board from l.written to

-- A step adds to each part's records one at most, which is of its kind and of the clock of the
-- step.
pub record AddsOneClock (entries : List TapeEntry) (b : Board) : Type 0 where
  pub added : Recorded
  pub made : AreMadeBetween b.peripherals.clock added (b.peripherals.clock + 1)
  pub after : records_of (step entries b) ≡ record {
    strokes = b.peripherals.strokes ++ added.strokes;
    levels1 = b.peripherals.levels1 ++ added.levels1;
    levels2 = b.peripherals.levels2 ++ added.levels2;
    written = b.peripherals.written ++ added.written;
  }
  pub few_strokes : length added.strokes ≤ 1
  pub few_levels1 : length added.levels1 ≤ 1
  pub few_levels2 : length added.levels2 ≤ 1
  pub few_written : length added.written ≤ 1
