-- The records of a board in one list, as it is advanced one clock at a time.
use Rattle.std.specs.Prelude.{ℕ, List, [], ◌++◌, length, drop, zero, suc}
use Rattle.board_base.specs.declared.record.Record.{Record}
use Rattle.board_base.specs.declared.part.Part.TheVariants.{Generator, Pokey1, Pokey2, Board}
use Rattle.log_text.specs.LogText.{PartRecord, from_part, merged_text}
use Rattle.tape_ports.specs.declared.entry.TapeEntry.{TapeEntry}
use Rattle.lockstep_board.specs.Lockstep as lockstep
use Rattle.lockstep_board.specs.Run.{boundary_steps}

-- what a list has more than it had before
abbrev pub added : List Record → List Record → List Record
added before after = drop (length before) after

-- the records that one clock makes: those of the generator, of POKEY 1, of POKEY 2 and of the rest
-- of the board
unfoldable pub records_of_clock : List TapeEntry → lockstep.Board → List PartRecord
records_of_clock entries b =
    let next = lockstep.step entries b in
    from_part Generator (added b.peripherals.strokes next.peripherals.strokes)
    ++ (from_part Pokey1 (added b.peripherals.levels1 next.peripherals.levels1)
    ++ (from_part Pokey2 (added b.peripherals.levels2 next.peripherals.levels2) ++ from_part Board (added b.peripherals.written next.peripherals.written)))

-- the records of n clocks, one clock after another
unfoldable pub one_list : List TapeEntry → ℕ → lockstep.Board → List PartRecord
one_list entries zero b = []
one_list entries (suc n) b = records_of_clock entries b ++ one_list entries n (lockstep.step entries b)

-- the records of a run to the first boundary that isn't before the limit
unfoldable pub run_list : List TapeEntry → ℕ → lockstep.Board → List PartRecord
run_list entries limit b = one_list entries (boundary_steps entries limit b) b

-- the lines of the records that stand in the four lists of a board
unfoldable pub text_of_lists : lockstep.Board → List ℕ
text_of_lists b = merged_text b.peripherals.strokes b.peripherals.levels1 b.peripherals.levels2 b.peripherals.written
