-- Turns of a run: the steps that they make, the accesses and the strokes of their clocks, and the
-- run that goes on after them.
use Rattle.std.proofs.Common.{◌≡◌, ℕ, ◌+◌, ◌≤◌, ◌<◌, Bool, true, false, ◌&&◌, ◌||◌, nat_le, is_some, is_none, List, [], ◌∷◌, ◌++◌, length, Option, Some, None, IsSome, zero, suc}
use Rattle.std.proofs.Common.{refl, sym, ap, subst, ◌∙◌, arith, rules, inl, inr, zero-add, append_assoc, length-append}
use Rattle.std.specs.Prelude.{All, if◌then◌else◌}
use Rattle.std.proofs.lemmas.Bool.{cases_lt}
use Rattle.std.proofs.lemmas.Bool.Decides.{nat_tests}
use Rattle.std.proofs.lemmas.List.Elements.{All-nil, All-cons, All-weaker}
use Rattle.board_base.specs.declared.part.Part.TheVariants.{Generator}
use Rattle.board_base.specs.declared.board.TheConstants.{CLOCK_LIMIT}
use Rattle.board_base.specs.declared.record.Record.{Record}
use Rattle.board_base.specs.Cpu.{CpuValue}
use Rattle.board_base.specs.Mid.{MidValue}
use Rattle.board_base.specs.Records.{clock_of, MadeBetween}
use Rattle.cpu_core.specs.BusCycles as cycles
use Rattle.tape_ports.specs.declared.entry.Port.{Port}
use Rattle.tape_ports.specs.declared.entry.Port.TheVariants as port
use Rattle.tape_ports.specs.declared.entry.TapeEntry.{TapeEntry}
use Rattle.tape_ports.specs.Due.{due_at}
use Rattle.lockstep_board.specs.Breaks.{turn, turned}
use Rattle.lockstep_board.specs.Order.{HasNoRecords, cleared, Recorded, AreMadeBetween, behind, records_of}
use Rattle.lockstep_board.specs.Lockstep.{Board, access_in, sequence_due, step}
use Rattle.lockstep_board.specs.Run.{boundary_steps, is_jammed, is_over, stepped, to_boundary, IsPlaced}
use Rattle.catchup_engine.specs.Trace.{TraceValue, accesses_in, accesses_of, no_trace, sequence_at, step_trace, trace_of}
use Rattle.lockstep_board.specs.Peripherals.{Peripherals, applied, devices_ticked, line_of, port_set, ticked}
use Rattle.lockstep_board.proofs.Behind.{access_in-behind, behind-cleared, boundary_steps-behind, step-behind, to_boundary-behind}
use Rattle.lockstep_board.proofs.Ends.{boundary-split, boundary_steps-few, to_boundary-clock, to_boundary-over}
use Rattle.lockstep_board.proofs.InOrder.{adds-one}
use Rattle.lockstep_board.proofs.Runs.{stepped-add}
use Rattle.catchup_engine.proofs.Traces.{over-running}
use Rattle.lockstep_board.proofs.TurnLaws.{to_boundary-none, to_boundary-turn, turn-boundary, turn-placed}

over-later : (jam : Option ℕ) (boundary : Bool) (x y clock : ℕ) → x ≤ y → is_some jam || (boundary && nat_le x clock) ≡ false
    → is_some jam || (boundary && nat_le y clock) ≡ false
over-later jam boundary x y clock h e = grind (arith, nat_tests)

-- a run that isn't over to a limit isn't over to a later one
pub open-later : (x y : ℕ) (b : Board) → x ≤ y → is_over x b ≡ false → is_over y b ≡ false
open-later x y b low open_yet = over-later b.cpu.jam (is_none b.cpu.mid) x y b.peripherals.clock low open_yet

-- a first board of some turns, and those after it
pub first-turn : (P : Board → Type 0) (entries : List TapeEntry) (n : ℕ) (b : Board)
    → ((k : ℕ) → k < suc n → P (turned entries k b)) → P b
unfolding turned
first-turn P entries n b all = all 0 (omega arith)

pub later-turns : (P : Board → Type 0) (entries : List TapeEntry) (n : ℕ) (b : Board)
    → ((k : ℕ) → k < suc n → P (turned entries k b)) → (k : ℕ) → k < n → P (turned entries k (turn entries b))
unfolding turned
later-turns P entries n b all k few = all (suc k) (omega (arith, few))

-- the steps of n turns
unfoldable pub turns_steps : List TapeEntry → ℕ → Board → ℕ
turns_steps entries zero b = 0
turns_steps entries (suc n) b = boundary_steps entries (b.peripherals.clock + 1) b + turns_steps entries n (turn entries b)

pub turned-steps : (entries : List TapeEntry) (n : ℕ) (b : Board) → turned entries n b ≡ stepped entries (turns_steps entries n b) b
unfolding turned stepped to_boundary turns_steps
turned-steps entries zero b = refl
turned-steps entries (suc n) b =
    turned-steps entries n (turn entries b)
    ∙ sym (stepped-add entries (boundary_steps entries (b.peripherals.clock + 1) b) (turns_steps entries n (turn entries b)) b)

-- where a run isn't over, it goes on after the next turn
pub turn-goes : (entries : List TapeEntry) (limit : ℕ) (b : Board) → IsPlaced b → is_over limit b ≡ false
    → to_boundary entries limit b ≡ to_boundary entries limit (turn entries b)
turn-goes entries limit b placed open_yet =
    elim (cases_lt b.peripherals.clock limit) [
      | inl before ↦ boundary-split entries (b.peripherals.clock + 1) limit b (omega arith) placed
      | inr past ↦ (
          let here : to_boundary entries limit b ≡ turn entries b = to_boundary-turn entries limit b placed open_yet (omega arith) in
          let over = subst (λ (c : Board). is_over limit c ≡ true) here (to_boundary-over entries limit b placed) in
          here ∙ sym (to_boundary-none entries limit (turn entries b) over)
          )
    ]

pub turns-go : (entries : List TapeEntry) (limit n : ℕ) (b : Board) → IsPlaced b
    → ((k : ℕ) → k < n → is_over limit (turned entries k b) ≡ false)
    → to_boundary entries limit b ≡ to_boundary entries limit (turned entries n b)
unfolding turned
turns-go entries limit zero b placed open_yet = refl
turns-go entries limit (suc n) b placed open_yet =
    turn-goes entries limit b placed (first-turn (λ c. is_over limit c ≡ false) entries n b open_yet)
    ∙ turns-go entries limit n (turn entries b) (turn-placed entries b placed) (later-turns (λ c. is_over limit c ≡ false) entries n b open_yet)

-- inside a sequence a board stands sixteen clocks after the limit at most, and else seven more
pub record StandsLow (b : Board) : Type 0 where
  pub clock : b.peripherals.clock ≤ CLOCK_LIMIT + 23
  pub inside : IsSome b.cpu.mid → b.peripherals.clock ≤ CLOCK_LIMIT + 16

none-inside : (mid : Option MidValue) (n : ℕ) → mid ≡ None → IsSome mid → n ≤ CLOCK_LIMIT + 16
none-inside None n is some = cc
none-inside (Some m) n is some = cc

turn-low : (entries : List TapeEntry) (limit : ℕ) (b : Board) → limit ≤ CLOCK_LIMIT → IsPlaced b → is_over limit b ≡ false → StandsLow b
    → StandsLow (turn entries b)
turn-low entries limit b low placed open_yet stands = by_mid b.cpu.mid refl
  where
    last : Board
    last = turn entries b

    boundary : last.cpu.mid ≡ None
    boundary = turn-boundary entries b placed (over-running limit b open_yet).running

    by_mid : (mid : Option MidValue) → b.cpu.mid ≡ mid → StandsLow (turn entries b)
    by_mid None is =
        let before = (over-running limit b open_yet).before is in
        let clock = to_boundary-clock entries (b.peripherals.clock + 1) b in
        let few = boundary_steps-few entries (b.peripherals.clock + 1) b in
        record { clock = omega arith; inside = none-inside last.cpu.mid last.peripherals.clock boundary }
    by_mid (Some m) is =
        let before : b.peripherals.clock ≤ CLOCK_LIMIT + 16 = stands.inside (rw is (search rules)) in
        let clock = to_boundary-clock entries (b.peripherals.clock + 1) b in
        let few = boundary_steps-few entries (b.peripherals.clock + 1) b in
        record { clock = omega arith; inside = none-inside last.cpu.mid last.peripherals.clock boundary }

pub turned-low : (entries : List TapeEntry) (limit n : ℕ) (b : Board) → limit ≤ CLOCK_LIMIT → IsPlaced b
    → ((k : ℕ) → k < n → is_over limit (turned entries k b) ≡ false) → StandsLow b → StandsLow (turned entries n b)
unfolding turned
turned-low entries limit zero b low placed open_yet stands = stands
turned-low entries limit (suc n) b low placed open_yet stands =
    turned-low entries limit n (turn entries b) low (turn-placed entries b placed) (later-turns (λ c. is_over limit c ≡ false) entries n b open_yet)
    (turn-low entries limit b low placed (first-turn (λ c. is_over limit c ≡ false) entries n b open_yet) stands)

-- the accesses of some clocks, and then those of others
pub accesses-add : (entries : List TapeEntry) (n m : ℕ) (b : Board)
    → accesses_of entries (n + m) b ≡ accesses_of entries n b ++ accesses_of entries m (stepped entries n b)
unfolding accesses_of stepped
accesses-add entries zero m b = rw (zero-add m) refl
accesses-add entries (suc n) m b =
    let e : suc n + m ≡ suc (n + m) = omega arith in
    let first = accesses_in b.peripherals.clock (access_in entries b) in
    rw e (ap (λ l. first ++ l) (accesses-add entries n m (step entries b))
    ∙ sym (append_assoc first (accesses_of entries n (step entries b)) (accesses_of entries m (stepped entries n (step entries b)))))

-- records made before don't change them
pub accesses-behind : (entries : List TapeEntry) (n : ℕ) (l : Recorded) (b : Board)
    → accesses_of entries n (behind l b) ≡ accesses_of entries n b
unfolding accesses_of
accesses-behind entries zero l b = refl
accesses-behind entries (suc n) l b =
    let rest : accesses_of entries n (step entries (behind l b)) ≡ accesses_of entries n (step entries b) =
    ap (accesses_of entries n) (step-behind entries l b) ∙ accesses-behind entries n l (step entries b) in
    rw (access_in-behind entries l b, rest) refl

-- a clock makes one access at most
access-few : (clock : ℕ) (access : Option cycles.Access) → length (accesses_in clock access) ≤ 1
access-few clock None = omega arith
access-few clock (Some access) = omega arith

pub accesses-few : (entries : List TapeEntry) (n : ℕ) (b : Board) → length (accesses_of entries n b) ≤ n
unfolding accesses_of
accesses-few entries zero b = omega arith
accesses-few entries (suc n) b =
    let one = access-few b.peripherals.clock (access_in entries b) in
    let rest = accesses-few entries n (step entries b) in
    let both = length-append (accesses_in b.peripherals.clock (access_in entries b)) (accesses_of entries n (step entries b)) in
    omega arith

-- and one stroke
pub strokes-few : (entries : List TapeEntry) (n : ℕ) (b : Board) → length (stepped entries n b).peripherals.strokes ≤ length b.peripherals.strokes + n
unfolding stepped
strokes-few entries zero b = omega arith
strokes-few entries (suc n) b =
    let one = adds-one entries b in
    let few = one.few_strokes in
    let here : length (step entries b).peripherals.strokes ≡ length (b.peripherals.strokes ++ one.added.strokes) =
    ap (λ (l : Recorded). length l.strokes) one.after in
    let both = length-append b.peripherals.strokes one.added.strokes in
    let rest = strokes-few entries n (step entries b) in
    omega arith

-- the strokes that were made between two clocks
pub strokes-before : (from to : ℕ) (strokes : List Record) → MadeBetween Generator from strokes to → All (λ s. clock_of s < to) strokes
strokes-before from to [] made = All-nil (λ s. clock_of s < to)
strokes-before from to (s ∷ strokes) made =
    All-cons (λ s. clock_of s < to) s strokes made.2 (strokes-before (clock_of s) to strokes made.3)

pub strokes-from : (from to : ℕ) (strokes : List Record) → MadeBetween Generator from strokes to → All (λ s. from ≤ clock_of s) strokes
strokes-from from to [] made = All-nil (λ s. from ≤ clock_of s)
strokes-from from to (s ∷ strokes) made =
    All-cons (λ s. from ≤ clock_of s) s strokes made.1
    (All-weaker (λ r. clock_of s ≤ clock_of r) (λ r. from ≤ clock_of r) (λ r later. (let first = made.1 in omega arith)) strokes
    (strokes-from (clock_of s) to strokes made.3))

-- no records are records in order
pub made-none : (b : Board) → HasNoRecords b → AreMadeBetween b.peripherals.clock (records_of b) b.peripherals.clock
made-none b none = rw (none.strokes, none.levels1, none.levels2, none.written) (record {
  strokes = omega arith;
  levels1 = omega arith;
  levels2 = omega arith;
  written = omega arith;
})

pub cleared-none : (b : Board) → HasNoRecords (cleared b)
cleared-none b = record { strokes = refl; levels1 = refl; levels2 = refl; written = refl }

-- the end of a run from a board is that from the board without its records, after them
pub end-behind : (entries : List TapeEntry) (limit : ℕ) (b : Board)
    → to_boundary entries limit b ≡ behind (records_of b) (to_boundary entries limit (cleared b))
end-behind entries limit b =
    ap (to_boundary entries limit) (sym (behind-cleared b)) ∙ to_boundary-behind entries limit (records_of b) (cleared b)

-- nor the sequence that comes next
abbrev front : Recorded → Peripherals → Peripherals
front l w = record w {
  strokes = l.strokes ++ w.strokes;
  levels1 = l.levels1 ++ w.levels1;
  levels2 = l.levels2 ++ w.levels2;
  written = l.written ++ w.written;
}

-- the divider and both POKEYs, which it depends on, stand as they do without records
record DueAlike (w v : Peripherals) : Type 0 where
  divider : w.divider ≡ v.divider
  wired : w.wired ≡ v.wired
  sound1 : w.sound1 ≡ v.sound1
  sound2 : w.sound2 ≡ v.sound2

port_set-front : (p : Port) (value : ℕ) (l : Recorded) (w : Peripherals) → port_set p value (front l w) ≡ front l (port_set p value w)
port_set-front port.In0 value l w = refl
port_set-front port.In3 value l w = refl
port_set-front port.In4 value l w = refl
port_set-front (port.Pot1 which) value l w = refl
port_set-front (port.Pot2 which) value l w = refl

applied-front : (entries : List TapeEntry) (l : Recorded) (w : Peripherals) → applied entries (front l w) ≡ front l (applied entries w)
unfolding applied
applied-front [] l w = refl
applied-front (entry ∷ entries) l w =
    ap (applied entries) (port_set-front entry.port entry.value l w) ∙ applied-front entries l (port_set entry.port entry.value w)

ticked-alike : (entries : List TapeEntry) (l : Recorded) (w : Peripherals) → DueAlike (ticked entries (front l w)) (ticked entries w)
unfolding ticked devices_ticked
ticked-alike entries l w =
    let same = applied-front (due_at w.clock entries) l w in
    record {
      divider = ap (λ (v : Peripherals). (devices_ticked v).divider) same;
      wired = ap (λ (v : Peripherals). (devices_ticked v).wired) same;
      sound1 = ap (λ (v : Peripherals). (devices_ticked v).sound1) same;
      sound2 = ap (λ (v : Peripherals). (devices_ticked v).sound2) same;
    }

due-alike : (c : CpuValue) (w v : Peripherals) → DueAlike w v → sequence_due c w ≡ sequence_due c v
unfolding line_of
due-alike c w v alike = rw (alike.divider, alike.wired, alike.sound1, alike.sound2) refl

sequence-behind : (entries : List TapeEntry) (mid : Option MidValue) (c : CpuValue) (l : Recorded) (w : Peripherals)
    → sequence_at mid c (ticked entries (front l w)) ≡ sequence_at mid c (ticked entries w)
sequence-behind entries None c l w = due-alike c (ticked entries (front l w)) (ticked entries w) (ticked-alike entries l w)
sequence-behind entries (Some mid) c l w = refl

-- so that the trace of the next turn is the same
pub trace-behind : (entries : List TapeEntry) (l : Recorded) (b : Board) → step_trace entries (behind l b) ≡ step_trace entries b
unfolding step_trace trace_of
trace-behind entries l b =
    let n = boundary_steps entries (b.peripherals.clock + 1) b in
    let steps : boundary_steps entries (b.peripherals.clock + 1) (behind l b) ≡ n = boundary_steps-behind entries (b.peripherals.clock + 1) l b in
    let access : access_in entries (behind l b) ≡ access_in entries b = access_in-behind entries l b in
    let sequence : sequence_at b.cpu.mid b.cpu (ticked entries (front l b.peripherals)) ≡ sequence_at b.cpu.mid b.cpu (ticked entries b.peripherals) =
    sequence-behind entries b.cpu.mid b.cpu l b.peripherals in
    let accesses : accesses_of entries n (behind l b) ≡ accesses_of entries n b = accesses-behind entries n l b in
    let observed : trace_of entries (boundary_steps entries (b.peripherals.clock + 1) (behind l b)) (behind l b) ≡ trace_of entries n b =
    ap (λ k. trace_of entries k (behind l b)) steps ∙ rw (sequence, access, accesses) refl in
    ap (λ (t : TraceValue). if is_jammed b then no_trace else t) observed
