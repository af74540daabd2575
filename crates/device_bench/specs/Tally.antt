-- What is counted of the records of a measure.
use Rattle.std.specs.Prelude.{◌+◌, ◌-◌, ◌^◌, min, fold, List}
use Rattle.board_base.specs.declared.record.Record.{Record}
use Rattle.board_base.specs.Records.{clock_of}
use Rattle.device_bench.specs.declared.tally.Tally.{Tally}

-- a tally with one record more; its numbers stay at the greatest of 64 bits
unfoldable pub with_record : Tally → Record → Tally
with_record t r = record {
  records = min (t.records + 1) (2 ^ 64 - 1);
  sum = min (t.sum + clock_of r) (2 ^ 64 - 1);
}

-- no record
abbrev pub empty_tally : Tally
empty_tally = record { records = 0; sum = 0 }

-- the tally of some records
abbrev pub tally_of : List Record → Tally
tally_of records = fold with_record empty_tally records
