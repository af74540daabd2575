-- What is noted of the accesses of an instruction is the note of its trace.
use Rattle.std.proofs.Common.{◌≡◌, ℕ, ◌+◌, ◌-◌, ◌<◌, ◌≤◌, get_or, Bool, true, false, List, [], ◌∷◌, ◌++◌, length, take, drop, replicate}
use Rattle.std.proofs.Common.{length-append, append-nil, append_assoc, add-zero, zero-add, Option, None, refl, sym, ap, ◌∙◌, arith, if◌then◌else◌}
use Rattle.std.specs.Int.{from_bool}
use Rattle.std.specs.List.{count_by, filter, filter_map}
use Rattle.std.proofs.Math.Nat.{add_assoc}
use Rattle.std.proofs.Math.Seq.{take-append_seam}
use Rattle.std.proofs.lemmas.List.{take_more}
use Rattle.std.proofs.lemmas.List.Elements.{filter-append, filter_map-append}
use Rattle.std.proofs.lemmas.List.Sums.{count_by-le-length, length-filter}
use Rattle.board_base.specs.declared.cpu.Sequence.{Sequence}
use Rattle.board_base.specs.declared.cpu.Sequence.TheVariants.{Opcode}
use Rattle.board_base.specs.Cpu.{CpuValue}
use Rattle.board_base.specs.Mid.{MidValue}
use Rattle.cpu_core.specs.BusCycles as cycles
use Rattle.cpu_core.specs.Registers.{RegistersValue, registers_of}
use Rattle.cpu_core.specs.Sequences.{Moves, Runs, next_of, start_of}
use Rattle.tape_ports.specs.declared.entry.TapeEntry.{TapeEntry}
use Rattle.tape_ports.specs.Tape.{TapeValue}
use Rattle.lockstep_board.specs.Budget.{reaches_device}
use Rattle.lockstep_board.specs.Lockstep.{access_in, due_access, made_by, sequence_due}
use Rattle.lockstep_board.specs.Peripherals.{byte_read, ticked}
use Rattle.catchup_engine.specs.declared.trace.Access.{Access}
use Rattle.catchup_engine.specs.Bus.{Accepts, BusStep, BusValue}
use Rattle.catchup_engine.specs.Notes.{NotedStep, NotedValue, ReachedValue, nothing_reached, noting, reached_by, with_reached}
use Rattle.catchup_engine.specs.Starts.{mark_of, marks_of, starts_generator}
use Rattle.catchup_engine.specs.Runs.{over_bus}
use Rattle.catchup_engine.specs.Trace.{TraceValue, TracedStep, access_at, byte_of, first_byte, first_value, made_of, no_access, sequence_at, seven_of, trace_of, traced}
use Rattle.catchup_engine.specs.Turn.{ReadsOpcode, TurnedBus}
use Rattle.catchup_engine.proofs.Seen.{moves-seen, runs-seen}
use Rattle.catchup_engine.proofs.Steps.{moves-length}
use Rattle.catchup_engine.proofs.TapeLaws.{ticked-quiet}
use Rattle.catchup_engine.proofs.Traces.{fetch-byte, of_accesses, opcode-observed, pushed-is, trace-named}
use Rattle.catchup_engine.proofs.Turns.{opcode-turn}

-- what was reached, and what more accesses reach
abbrev pub reached_then : ReachedValue → List Access → ReachedValue
reached_then r made = record { accesses = r.accesses + (reached_by made).accesses; starts = r.starts ++ (reached_by made).starts }

pub reached-none : (r : ReachedValue) → r ≡ reached_then r []
unfolding marks_of
reached-none r = let none : r.starts ++ [] ≡ r.starts = append-nil r.starts in let all : r.accesses + 0 ≡ r.accesses = add-zero r.accesses in rw (none, all) refl

-- they are no more than the accesses
start-one : (a : Access) (t : Bool) → starts_generator a ≡ t → length (marks_of (a ∷ [])) ≤ 1
unfolding marks_of
start-one a true is = rw is (omega arith)
start-one a false is = rw is (omega arith)

pub starts-few : (made : List Access) → length (marks_of made) ≤ length made
unfolding marks_of
starts-few [] = omega arith
starts-few (a ∷ made) =
    let one = start-one a (starts_generator a) refl in
    let few = starts-few made in
    let both = ap (λ (l : List ℕ). length l) (filter_map-append mark_of (a ∷ []) made) in
    let sum = length-append (filter_map mark_of (a ∷ [])) (filter_map mark_of made) in
    omega (arith, one, few, both, sum)

pub accesses-few : (made : List Access) → (reached_by made).accesses ≤ length made
accesses-few made = count_by-le-length (λ access. reaches_device (made_of access)) made

-- one access more
count-more : (made : List Access) (a : Access) → (reached_by (made ++ a ∷ [])).accesses ≡ (reached_by made).accesses + from_bool (reaches_device (made_of a))
count-more made a =
    sym (length-filter reaches (made ++ a ∷ []))
    ∙ ap (λ (l : List Access). length l) (filter-append reaches made (a ∷ []))
    ∙ length-append (filter reaches made) (filter reaches (a ∷ []))
    ∙ ap (λ k. k + length (filter reaches (a ∷ []))) (length-filter reaches made)
    ∙ ap (λ k. count_by reaches made + k) (one (reaches a) refl)
  where
    reaches : Access → Bool
    reaches access = reaches_device (made_of access)

    one : (t : Bool) → reaches a ≡ t → length (filter reaches (a ∷ [])) ≡ from_bool t
    one true is = rw is refl
    one false is = rw is refl

starts-more : (l : List ℕ) (made : List Access) (a : Access) (s : Bool) → starts_generator a ≡ s
    → (if s then (l ++ marks_of made) ++ a.clock ∷ [] else l ++ marks_of made) ≡ l ++ marks_of (made ++ a ∷ [])
unfolding marks_of
starts-more l made a true is =
    append_assoc l (filter_map mark_of made) (a.clock ∷ []) ∙ ap (λ k. l ++ k) (sym (filter_map-append mark_of made (a ∷ []) ∙ rw is refl))
starts-more l made a false is = ap (λ k. l ++ k) (sym (filter_map-append mark_of made (a ∷ []) ∙ rw is (append-nil (filter_map mark_of made))))

pub reached-more : (r : ReachedValue) (made : List Access) (a : Access) → with_reached (reached_then r made) a ≡ reached_then r (made ++ a ∷ [])
reached-more r made a =
    let reach = from_bool (reaches_device (made_of a)) in
    ap (λ k. let m : ReachedValue = record { accesses = k; starts = (with_reached (reached_then r made) a).starts } in m)
    (add_assoc r.accesses (reached_by made).accesses reach ∙ ap (λ k. r.accesses + k) (sym (count-more made a)))
    ∙ ap (λ l. let m : ReachedValue = record { accesses = r.accesses + (reached_by (made ++ a ∷ [])).accesses; starts = l } in m)
    (starts-more r.starts made a (starts_generator a) refl)

pub reached-first : (made : List Access) → reached_then nothing_reached made ≡ reached_by made
reached-first made = ap (λ k. let m : ReachedValue = record { accesses = k; starts = marks_of made } in m) (zero-add (reached_by made).accesses)

-- and one of a list more
pub reached-next : (items : List Access) (k : ℕ) (d : Access) (r more : ReachedValue) (reaches starts : Bool) → k < length items → r ≡ reached_by (take k items)
    → reaches ≡ reaches_device (made_of (get_or items k d)) → starts ≡ starts_generator (get_or items k d)
    → more ≡ (let m : ReachedValue = record { accesses = r.accesses + from_bool reaches; starts = if starts then r.starts ++ (get_or items k d).clock ∷ [] else r.starts } in m)
    → more ≡ reached_by (take (k + 1) items)
unfolding marks_of
reached-next items k d r more reaches starts below is reach start grown =
    let a = get_or items k d in
    let one : with_reached (reached_by (take k items)) a ≡ reached_by (take k items ++ a ∷ []) =
    ap (λ m. with_reached m a) (sym (reached-first (take k items))) ∙ reached-more nothing_reached (take k items) a ∙ reached-first (take k items ++ a ∷ []) in
    grown
    ∙ ap (λ b. let m : ReachedValue = record { accesses = r.accesses + from_bool b; starts = if starts then r.starts ++ a.clock ∷ [] else r.starts } in m) reach
    ∙ ap (λ b. let m : ReachedValue = record { accesses = r.accesses + from_bool (reaches_device (made_of a)); starts = if b then r.starts ++ a.clock ∷ [] else r.starts } in m) start
    ∙ ap (λ m. with_reached m a) is
    ∙ one
    ∙ ap reached_by (sym (take_more items k d below))

noted-more : (entries : List TapeEntry) (x : cycles.Access) (s t : NotedValue) (r : ReachedValue) (made : List Access) → NotedStep entries x s t → s.reached ≡ reached_then r made
    → t.reached ≡ reached_then r (made ++ access_at (t.bus.peripherals.clock - 1) x ∷ [])
noted-more entries x s t r made did is =
    let a = access_at (t.bus.peripherals.clock - 1) x in did.reached ∙ ap (λ l. with_reached l a) is ∙ reached-more r made a

-- a bus that notes makes the accesses of one that traces
record IsLifted (entries : List TapeEntry) (r : RegistersValue) (q : Sequence) (bytes more : List ℕ) (s t : NotedValue) (first : ReachedValue) (before : List Access) : Type 0 where
  made : List Access
  moves : Moves (TracedStep entries) r q bytes more (traced s.bus (of_accesses before)) (traced t.bus (of_accesses made))
  noted : t.reached ≡ reached_then first made

lift : (entries : List TapeEntry) (r : RegistersValue) (q : Sequence) (bytes more : List ℕ) (s t : NotedValue) (first : ReachedValue) (before : List Access)
    → Moves (NotedStep entries) r q bytes more s t → s.reached ≡ reached_then first before → length before + length more ≤ 7 → IsLifted entries r q bytes more s t first before
lift entries r q bytes [] s t first before same is few = record {
  made = before;
  moves = ap (λ (k : NotedValue). traced k.bus (of_accesses before)) same;
  noted = ap (λ (k : NotedValue). k.reached) same ∙ is;
}
lift entries r q bytes (v ∷ more) s t first before (x, m, is, did, rest) at few =
    let a = access_at (m.bus.peripherals.clock - 1) x in
    let longer = length-append before (a ∷ []) in
    let others = lift entries r q (bytes ++ v ∷ []) more m t first (before ++ a ∷ []) rest (noted-more entries x s m first before did at) (omega arith) in
    record {
      made = others.made;
      moves = (x, traced m.bus (of_accesses (before ++ a ∷ [])), is, (did.step, sym (pushed-is before a (omega arith))), others.moves);
      noted = others.noted;
    }

-- An instruction over a bus that notes it is a turn. Its trace has the opcode that is at pc in the
-- clock of its first access, and its accesses reached what is noted more.
pub record IsNotedTurn (entries : List TapeEntry) (c : CpuValue) (s : BusValue) (r : ReachedValue) (t : NotedValue) (e : CpuValue) : Type 0 where
  pub turned : TurnedBus entries 7 c s t.bus e
  pub trace : TraceValue
  pub is : trace ≡ trace_of entries (t.bus.peripherals.clock - s.peripherals.clock) (over_bus c s)
  pub sequence : trace.sequence ≡ Opcode
  pub opcode : trace.opcode ≡ byte_read c.pc (ticked entries s.peripherals)
  pub count : trace.count ≡ t.bus.peripherals.clock - s.peripherals.clock
  pub reached : t.reached ≡ reached_then r (take trace.count trace.accesses)
  pub few : t.bus.peripherals.clock - s.peripherals.clock ≤ 7

-- the first byte of an instruction is the one at pc
opcode-byte : (entries : List TapeEntry) (c : CpuValue) (s : BusValue) → c.mid ≡ None → Opcode ≡ sequence_due c (ticked entries s.peripherals)
    → first_byte (over_bus c s).cpu.mid (access_in entries (over_bus c s)) ≡ byte_read c.pc (ticked entries s.peripherals)
unfolding access_in next_of
opcode-byte entries c s boundary due =
    let w = ticked entries s.peripherals in
    ap (λ (mid : Option MidValue). first_byte mid (due_access mid c w)) boundary ∙ ap (λ (q : Sequence). byte_of (made_by (next_of (start_of q c) q []) w)) (sym due)

count-of : (entries : List TapeEntry) (n : ℕ) (c : CpuValue) (s : BusValue) (trace : TraceValue) → trace ≡ trace_of entries n (over_bus c s) → trace.count ≡ n
unfolding trace_of
count-of entries n c s trace is = ap (λ (k : TraceValue). k.count) is

pub noted-turn : (tape : TapeValue) (c : CpuValue) (s : BusValue) (r : ReachedValue) (t : NotedValue) (e : CpuValue) → ReadsOpcode c s → s.clock_open ≡ false → Accepts tape s
    → Runs (NotedStep tape.entries) (registers_of c) Opcode (noting s r) t e → e.mid ≡ None → IsNotedTurn tape.entries c s r t e
noted-turn tape c s r t e reads between accepts runs boundary =
    let entries = tape.entries in
    let registers = registers_of c in
    let start = noting s r in
    let bus = (runs-seen (BusStep entries) (λ (k : NotedValue). k.bus) (λ k. 0) (λ x a b h. (refl, h.step)) registers Opcode start t e runs).1 in
    let moves = (moves-seen (BusStep entries) (λ (k : NotedValue). k.bus) (λ k. 0) (λ x a b h. (refl, h.step)) registers Opcode [] runs.bytes start t runs.moves).1 in
    let few = moves-length entries registers Opcode [] runs.bytes s t.bus moves (omega arith) in
    let lifted = lift entries registers Opcode [] runs.bytes start t r [] runs.moves (reached-none r) few in
    let due : Opcode ≡ sequence_due c (ticked entries s.peripherals) = sym (ap (sequence_due c) (ticked-quiet tape s accepts reads.no_event) ∙ reads.due) in
    let full = traced t.bus (of_accesses lifted.made) in
    let observed = opcode-observed entries c s full e reads.boundary between due (record { bytes = runs.bytes; moves = lifted.moves; ends = runs.ends }) in
    let o = first_value (seven_of lifted.made) in
    let byte = fetch-byte entries c s full reads.boundary observed in
    let trace : TraceValue = record (of_accesses lifted.made) { sequence = Opcode; opcode = o } in
    let is =
    trace-named entries (over_bus c s) full Opcode o observed (due ∙ sym (ap (λ (mid : Option MidValue). sequence_at mid c (ticked entries s.peripherals)) reads.boundary)) byte in
    let turned = opcode-turn tape c s t.bus e reads between accepts bus boundary in
    record {
      turned = turned;
      trace = trace;
      is = is;
      sequence = refl;
      opcode = byte ∙ opcode-byte entries c s reads.boundary due;
      count = count-of entries (t.bus.peripherals.clock - s.peripherals.clock) c s trace is;
      reached = lifted.noted ∙ ap (reached_then r) (sym (take-append_seam lifted.made (drop (length lifted.made) (replicate 7 no_access))));
      few = (let most = turned.at_most in omega (arith, most));
    }
