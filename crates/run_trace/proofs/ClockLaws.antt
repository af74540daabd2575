-- The clocks of a profile are those of its run.
use Rattle.std.proofs.Common.{◌≡◌, ℕ, ◌+◌, ◌-◌, ◌≤◌, ◌<◌, ◌^◌, Bool, true, false, is_some, List, [], ◌∷◌, ◌++◌, length, take, Option, Some, None, zero, suc, refl, ap, subst, ◌∙◌}
use Rattle.std.proofs.Common.{arith, length-append, length-drop, length-set}
use Rattle.std.specs.Prelude.{All, ◌==◌, if◌then◌else◌, nat_lt}
use Rattle.std.proofs.lemmas.Bool.{eqb-true, ltb-true}
use Rattle.std.proofs.lemmas.List.{length-take-le}
use Rattle.std.proofs.lemmas.List.Elements.{All-append, All-cons, All-drop, All-nil, All-take}
use Rattle.board_base.specs.declared.board.TheConstants.{CLOCK_LIMIT}
use Rattle.board_base.specs.declared.cpu.Sequence.{Sequence}
use Rattle.board_base.specs.declared.cpu.Sequence.TheVariants as sequence
use Rattle.cpu_table.specs.declared.instruction.Op.{Op}
use Rattle.cpu_table.specs.declared.instruction.Op.TheVariants.{Brk, Jsr, Rti, Rts}
use Rattle.cpu_table.specs.declared.instruction.Mode.{Mode}
use Rattle.cpu_table.specs.Opcodes.{row_of}
use Rattle.tape_ports.specs.declared.entry.TapeEntry.{TapeEntry}
use Rattle.cpu_core.specs.Ranges.{IsByte}
use Rattle.lockstep_board.specs.Breaks.{turn, turned}
use Rattle.lockstep_board.specs.Lockstep.{Board}
use Rattle.lockstep_board.specs.Ranges.{IsBoardInRange}
use Rattle.lockstep_board.specs.Run.{boundary_steps, is_over, to_boundary, IsPlaced}
use Rattle.catchup_engine.specs.Trace.{TraceValue, no_trace, step_trace, trace_of}
use Rattle.catchup_engine.specs.Traced.{observed, observed_once}
use Rattle.lockstep_board.proofs.BoardRange.{stepped-in_range}
use Rattle.lockstep_board.proofs.Clocks.{stepped-clock}
use Rattle.lockstep_board.proofs.Ends.{boundary_steps-few, to_boundary-clock, to_boundary-over}
use Rattle.catchup_engine.proofs.Traces.{over-running}
use Rattle.lockstep_board.proofs.TurnLaws.{turn-placed, turns-to}
use Rattle.cycle_profile.specs.declared.profile.TheConstants.{ADDRESSES, LONGEST_LIST}
use Rattle.cycle_profile.specs.Charge.{device_accesses}
use Rattle.cycle_profile.specs.Counts.{more_entered}
use Rattle.cycle_profile.specs.Profile.{AddsUp, IsProfile, ProfileValue, after, after_turn, changed, charged, last_of, newest, returned}
use Rattle.cycle_profile.specs.Turns.{turn_of, turn_of_op, turn_of_row}
use Rattle.cycle_profile.proofs.SumLaws.{keeps_the_sum}
use Rattle.run_trace.specs.BoardProfile.{AddressesAddUp, AllClocksAreCounted, no_profile, run_profile, run_turns}
use Rattle.run_trace.specs.PartLaws.{first-turn, later-turns, turned-steps, turns_steps}
use Rattle.run_trace.specs.ProfilingLaws.{run_turns-open, run_turns-over}

-- a sequence adds its clocks, as long as the count stands below its end
after-test : (t : Bool) (p : ProfileValue) (trace : TraceValue) (pc : ℕ) → (trace.count == 0) ≡ t → p.clocks + trace.count < 2 ^ 64
    → (if t then p else after_turn (turn_of trace.sequence trace.opcode) pc (charged p trace.count (device_accesses trace))).clocks ≡ p.clocks + trace.count
after-test true p trace pc is room = let none : trace.count ≡ 0 = eqb-true trace.count 0 is in omega arith
after-test false p trace pc is room = omega arith

after-clocks : (p : ProfileValue) (trace : TraceValue) (pc : ℕ) → p.clocks + trace.count < 2 ^ 64 → (after p trace pc).clocks ≡ p.clocks + trace.count
unfolding after
after-clocks p trace pc room = after-test (trace.count == 0) p trace pc refl room

-- the trace of a turn has all of its clocks
trace-count : (entries : List TapeEntry) (limit : ℕ) (b : Board) → is_over limit b ≡ false
    → (step_trace entries b).count ≡ boundary_steps entries (b.peripherals.clock + 1) b
unfolding step_trace trace_of
trace-count entries limit b open_yet =
    let n = boundary_steps entries (b.peripherals.clock + 1) b in
    ap (λ (jam : Option ℕ). (if is_some jam then no_trace else trace_of entries n b).count) (over-running limit b open_yet).running

observed-clocks : (entries : List TapeEntry) (limit n : ℕ) (p : ProfileValue) (b : Board)
    → ((k : ℕ) → k < n → is_over limit (turned entries k b) ≡ false) → p.clocks + turns_steps entries n b < 2 ^ 64
    → (observed after entries n p b).clocks ≡ p.clocks + turns_steps entries n b
unfolding observed turns_steps
observed-clocks entries limit zero p b open_yet room = omega arith
observed-clocks entries limit (suc n) p b open_yet room =
    let count = trace-count entries limit b (first-turn (λ c. is_over limit c ≡ false) entries n b open_yet) in
    let one = after-clocks p (step_trace entries b) (turn entries b).cpu.pc (omega arith) in
    let rest = observed-clocks entries limit n (observed_once after entries p b) (turn entries b)
    (later-turns (λ c. is_over limit c ≡ false) entries n b open_yet) (omega arith) in
    omega arith

-- a run is so many turns
turns-add : (entries : List TapeEntry) (limit n : ℕ) (b : Board) → IsPlaced b → ((k : ℕ) → k < n → is_over limit (turned entries k b) ≡ false)
    → run_turns entries limit b ≡ n + run_turns entries limit (turned entries n b)
unfolding turned
turns-add entries limit zero b placed open_yet = omega arith
turns-add entries limit (suc n) b placed open_yet =
    let one = run_turns-open entries limit b placed (first-turn (λ c. is_over limit c ≡ false) entries n b open_yet) in
    let rest = turns-add entries limit n (turn entries b) (turn-placed entries b placed) (later-turns (λ c. is_over limit c ≡ false) entries n b open_yet) in
    omega arith

record AreAll (entries : List TapeEntry) (limit : ℕ) (b : Board) : Type 0 where
  board : to_boundary entries limit b ≡ turned entries (run_turns entries limit b) b
  open_yet : (k : ℕ) → k < run_turns entries limit b → is_over limit (turned entries k b) ≡ false
  clocks : turns_steps entries (run_turns entries limit b) b ≡ (to_boundary entries limit b).peripherals.clock - b.peripherals.clock

run-turns : (entries : List TapeEntry) (limit : ℕ) (b : Board) → IsPlaced b → AreAll entries limit b
run-turns entries limit b placed =
    let to = turns-to entries limit b placed in
    let over : is_over limit (turned entries to.count b) ≡ true = subst (λ (c : Board). is_over limit c ≡ true) to.board (to_boundary-over entries limit b placed) in
    let none = run_turns-over entries limit (turned entries to.count b) over in
    let all = turns-add entries limit to.count b placed to.over in
    let same : to.count ≡ run_turns entries limit b = omega arith in
    let board : to_boundary entries limit b ≡ turned entries (run_turns entries limit b) b = to.board ∙ ap (λ n. turned entries n b) same in
    let clock : (to_boundary entries limit b).peripherals.clock ≡ b.peripherals.clock + turns_steps entries (run_turns entries limit b) b =
    ap (λ (c : Board). c.peripherals.clock) (board ∙ turned-steps entries (run_turns entries limit b) b)
    ∙ stepped-clock entries (turns_steps entries (run_turns entries limit b) b) b in
    record {
      board = board;
      open_yet = λ k few. to.over k (omega (arith, few));
      clocks = omega arith;
    }

run-small : (entries : List TapeEntry) (limit : ℕ) (b : Board) → limit ≤ CLOCK_LIMIT → IsPlaced b
    → turns_steps entries (run_turns entries limit b) b < 2 ^ 64
run-small entries limit b low placed =
    let all = (run-turns entries limit b placed).clocks in
    let clock = to_boundary-clock entries limit b in
    let few = boundary_steps-few entries limit b in
    omega arith

pub all_told : (entries : List TapeEntry) (limit : ℕ) (b : Board) → AllClocksAreCounted entries limit b
unfolding run_profile
all_told entries limit b low placed =
    let run = run-turns entries limit b placed in
    let small = run-small entries limit b low placed in
    let clocks = observed-clocks entries limit (run_turns entries limit b) (no_profile b.cpu.pc) b run.open_yet (omega arith) in
    let all = run.clocks in
    omega arith

-- a profile of addresses
record Fits (p : ProfileValue) : Type 0 where
  is : IsProfile p
  each : All (λ address. address < ADDRESSES) p.routines

record ListFits (routines : List ℕ) : Type 0 where
  some : 0 < length routines
  few : length routines ≤ LONGEST_LIST
  each : All (λ address. address < ADDRESSES) routines

-- the list after a turn
newest-fits : (routines : List ℕ) (pc : ℕ) → pc < ADDRESSES → ListFits routines → ListFits (newest (routines ++ pc ∷ []))
newest-fits routines pc fits list =
    let all = routines ++ pc ∷ [] in
    let longer = length-append routines (pc ∷ []) in
    let left = length-drop (length all - LONGEST_LIST) all in
    record {
      some = omega arith;
      few = omega arith;
      each =
          All-drop (λ address. address < ADDRESSES) (length all - LONGEST_LIST) all
          (All-append (λ address. address < ADDRESSES) routines (pc ∷ []) list.each
          (All-cons (λ address. address < ADDRESSES) pc [] fits (All-nil (λ address. address < ADDRESSES))));
    }

returned-fits : (t : Bool) (routines : List ℕ) → nat_lt 1 (length routines) ≡ t → ListFits routines
    → ListFits (if t then take (length routines - 1) routines else routines)
returned-fits true routines is list =
    let more : 1 < length routines = ltb-true 1 (length routines) is in
    let left : length (take (length routines - 1) routines) ≡ length routines - 1 = length-take-le (length routines - 1) routines (omega arith) in
    let few = list.few in
    record {
      some = omega arith;
      few = omega arith;
      each = All-take (λ address. address < ADDRESSES) (length routines - 1) routines list.each;
    }
returned-fits false routines is list = list

-- a profile that is as it was but for its list, or for an entry too
fits-listed : (p : ProfileValue) (routines : List ℕ) → ListFits routines → Fits p → Fits (record p { routines = routines })
fits-listed p routines list before = record { is = record { some = list.some; few = list.few; counts = before.is.counts }; each = list.each }

fits-entered : (p : ProfileValue) (routines : List ℕ) (pc : ℕ) → ListFits routines → Fits p
    → Fits (record p { routines = routines; counts = changed more_entered pc p.counts })
fits-entered p routines pc list before = record {
  is = record { some = list.some; few = list.few; counts = length-set _ _ _ ∙ before.is.counts };
  each = list.each;
}

list-of : (p : ProfileValue) → Fits p → ListFits p.routines
list-of p before = record { some = before.is.some; few = before.is.few; each = before.each }

alone : (pc : ℕ) → pc < ADDRESSES → ListFits (pc ∷ [])
alone pc fits = record {
  some = omega arith;
  few = omega arith;
  each = All-cons (λ address. address < ADDRESSES) pc [] fits (All-nil (λ address. address < ADDRESSES));
}

-- by the sequence
call-fits : (p : ProfileValue) (pc : ℕ) → pc < ADDRESSES → Fits p
    → Fits (record p { routines = newest (p.routines ++ pc ∷ []); counts = changed more_entered pc p.counts })
call-fits p pc fits before = fits-entered p (newest (p.routines ++ pc ∷ [])) pc (newest-fits p.routines pc fits (list-of p before)) before

return-fits : (p : ProfileValue) → Fits p → Fits (record p { routines = returned p.routines })
return-fits p before = fits-listed p (returned p.routines) (returned-fits (nat_lt 1 (length p.routines)) p.routines refl (list-of p before)) before

op-fits : (op : Op) (p : ProfileValue) (pc : ℕ) → pc < ADDRESSES → Fits p → Fits (after_turn (turn_of_op op) pc p)
op-fits Jsr p pc fits before = call-fits p pc fits before
op-fits Brk p pc fits before = call-fits p pc fits before
op-fits Rts p pc fits before = return-fits p before
op-fits Rti p pc fits before = return-fits p before
op-fits _ p pc fits before = before

row-fits : (row : Option (Op × Mode)) (p : ProfileValue) (pc : ℕ) → pc < ADDRESSES → Fits p → Fits (after_turn (turn_of_row row) pc p)
row-fits None p pc fits before = before
row-fits (Some row) p pc fits before = op-fits row.0 p pc fits before

sequence-fits : (q : Sequence) (opcode : ℕ) (p : ProfileValue) (pc : ℕ) → pc < ADDRESSES → Fits p → Fits (after_turn (turn_of q opcode) pc p)
sequence-fits sequence.Opcode opcode p pc fits before = row-fits (row_of opcode) p pc fits before
sequence-fits sequence.Interrupt opcode p pc fits before = call-fits p pc fits before
sequence-fits sequence.Reset opcode p pc fits before = fits-entered p (pc ∷ []) pc (alone pc fits) before

charged-fits : (p : ProfileValue) (trace : TraceValue) → Fits p → Fits (charged p trace.count (device_accesses trace))
charged-fits p trace before = record {
  is = record { some = before.is.some; few = before.is.few; counts = length-set _ _ _ ∙ before.is.counts };
  each = before.each;
}

either-fits : (t : Bool) (p q : ProfileValue) → Fits p → Fits q → Fits (if t then p else q)
either-fits true p q first second = first
either-fits false p q first second = second

after-fits : (p : ProfileValue) (trace : TraceValue) (pc : ℕ) → pc < ADDRESSES → Fits p → Fits (after p trace pc)
unfolding after
after-fits p trace pc fits before =
    either-fits (trace.count == 0) p (after_turn (turn_of trace.sequence trace.opcode) pc (charged p trace.count (device_accesses trace))) before
    (sequence-fits trace.sequence trace.opcode (charged p trace.count (device_accesses trace)) pc fits (charged-fits p trace before))

last-fits : (p : ProfileValue) → Fits p → last_of p.routines < ADDRESSES
last-fits p fits = let some = fits.is.some in fits.each (length p.routines - 1) 0 (omega arith)

-- a turn of a board in range ends at an address
turn-in_range : (entries : List TapeEntry) (b : Board) → All (λ entry. IsByte entry.value) entries → IsBoardInRange b → IsBoardInRange (turn entries b)
unfolding to_boundary
turn-in_range entries b bytes range = stepped-in_range entries (boundary_steps entries (b.peripherals.clock + 1) b) b bytes range

observed-adds : (entries : List TapeEntry) (limit n : ℕ) (p : ProfileValue) (b : Board) → All (λ entry. IsByte entry.value) entries → IsBoardInRange b
    → ((k : ℕ) → k < n → is_over limit (turned entries k b) ≡ false) → p.clocks + turns_steps entries n b < 2 ^ 64
    → Fits p → AddsUp p → AddsUp (observed after entries n p b)
unfolding observed turns_steps
observed-adds entries limit zero p b bytes range open_yet room fits adds = adds
observed-adds entries limit (suc n) p b bytes range open_yet room fits adds =
    let next = turn-in_range entries b bytes range in
    let pc = next.cpu.registers.pc in
    let count = trace-count entries limit b (first-turn (λ c. is_over limit c ≡ false) entries n b open_yet) in
    let one = after-clocks p (step_trace entries b) (turn entries b).cpu.pc (omega arith) in
    observed-adds entries limit n (observed_once after entries p b) (turn entries b) bytes next
    (later-turns (λ c. is_over limit c ≡ false) entries n b open_yet) (omega arith)
    (after-fits p (step_trace entries b) (turn entries b).cpu.pc pc fits)
    (keeps_the_sum p (step_trace entries b) (turn entries b).cpu.pc fits.is (last-fits p fits) pc adds (omega arith))

pub addresses_told : (entries : List TapeEntry) (limit : ℕ) (b : Board) → All (λ entry. IsByte entry.value) entries → IsBoardInRange b
    → AddsUp (no_profile b.cpu.pc) → length (no_profile b.cpu.pc).counts ≡ ADDRESSES → AddressesAddUp entries limit b
unfolding run_profile
addresses_told entries limit b bytes range first counts low placed =
    let run = run-turns entries limit b placed in
    let small = run-small entries limit b low placed in
    let pc = range.cpu.registers.pc in
    observed-adds entries limit (run_turns entries limit b) (no_profile b.cpu.pc) b bytes range run.open_yet (omega arith)
    (record {
      is = record { some = (alone b.cpu.pc pc).some; few = (alone b.cpu.pc pc).few; counts = counts };
      each = (alone b.cpu.pc pc).each;
    })
    first
