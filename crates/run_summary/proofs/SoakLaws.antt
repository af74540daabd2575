-- How many records a large run makes.
use Rattle.std.proofs.Common.{◌≡◌, ℕ, ◌+◌, ◌-◌, ◌≤◌, List, ◌++◌, length, zero, suc, ap, arith, length-append}
use Rattle.board_base.specs.declared.record.Record.{Record}
use Rattle.board_base.specs.declared.board.TheConstants.{CLOCK_LIMIT}
use Rattle.tape_ports.specs.declared.entry.TapeEntry.{TapeEntry}
use Rattle.lockstep_board.specs.Lockstep.{Board, step}
use Rattle.lockstep_board.specs.Run.{stepped, to_boundary, boundary_steps}
use Rattle.lockstep_board.specs.Order.{HasNoRecords, Recorded, records_of}
use Rattle.lockstep_board.proofs.Ends.{boundary_steps-few, to_boundary-clock}
use Rattle.lockstep_board.proofs.InOrder.{adds-one}
use Rattle.run_summary.specs.Counter.{HasRoom}
use Rattle.run_summary.specs.Sizes.{AreFew}
use Rattle.run_summary.specs.Summary.{no_records, summary_of}

-- one list more, of one record at most
one-longer : (n : ℕ) (before added after : List Record) → after ≡ before ++ added → length added ≤ 1 → length before ≤ n → length after ≤ n + 1
one-longer n before added after is one few = rw (is, length-append before added) (omega arith)

module _ (entries : List TapeEntry) where
  -- a step makes one record of each part at most
  step-few : (n : ℕ) (b : Board) → AreFew n (records_of b) → AreFew (n + 1) (records_of (step entries b))
  step-few n b few =
      let one = adds-one entries b in
      record {
        strokes = one-longer n b.peripherals.strokes one.added.strokes _ (ap (λ (l : Recorded). l.strokes) one.after) one.few_strokes few.strokes;
        levels1 = one-longer n b.peripherals.levels1 one.added.levels1 _ (ap (λ (l : Recorded). l.levels1) one.after) one.few_levels1 few.levels1;
        levels2 = one-longer n b.peripherals.levels2 one.added.levels2 _ (ap (λ (l : Recorded). l.levels2) one.after) one.few_levels2 few.levels2;
        written = one-longer n b.peripherals.written one.added.written _ (ap (λ (l : Recorded). l.written) one.after) one.few_written few.written;
      }

  -- and m steps make m
  stepped-few : (n m : ℕ) (b : Board) → AreFew n (records_of b) → AreFew (n + m) (records_of (stepped entries m b))
  unfolding stepped
  stepped-few n zero b few =
      let same : n + 0 ≡ n = omega arith in
      rw same few
  stepped-few n (suc m) b few =
      let same : n + suc m ≡ (n + 1) + m = omega arith in
      rw same (stepped-few (n + 1) m (step entries b) (step-few n b few))

-- no records are few
none-few : (b : Board) → HasNoRecords b → AreFew 0 (records_of b)
none-few b none = rw (none.strokes, none.levels1, none.levels2, none.written) (record {
  strokes = omega arith;
  levels1 = omega arith;
  levels2 = omega arith;
  written = omega arith;
})

-- a run to a boundary of a board without records makes one of each part a clock at most
pub run-few : (entries : List TapeEntry) (limit : ℕ) (b : Board) → HasNoRecords b
    → AreFew ((to_boundary entries limit b).peripherals.clock - b.peripherals.clock) (records_of (to_boundary entries limit b))
unfolding to_boundary
run-few entries limit b none =
    let n = boundary_steps entries limit b in
    let clock = to_boundary-clock entries limit b in
    let same : (stepped entries n b).peripherals.clock - b.peripherals.clock ≡ 0 + n = omega arith in
    rw same (stepped-few entries 0 n b (none-few b none))

-- they may be counted
pub run-room : (entries : List TapeEntry) (limit : ℕ) (b : Board) → limit ≤ CLOCK_LIMIT → HasNoRecords b
    → HasRoom (record { total = summary_of no_records; records = 0 }) (records_of (to_boundary entries limit b))
run-room entries limit b low none =
    let few = run-few entries limit b none in
    let clock = to_boundary-clock entries limit b in
    let short = boundary_steps-few entries limit b in
    let strokes = few.strokes in
    let levels1 = few.levels1 in
    let levels2 = few.levels2 in
    let written = few.written in
    omega arith
