-- The accesses of a sequence, as they are traced.
use Rattle.std.proofs.Common.{◌≡◌, ◌≢◌, ℕ, ◌+◌, ◌-◌, ◌^◌, ◌≤◌, ◌<◌, ◌&&◌, is_some, is_none, true, false, List, [], ◌∷◌, ◌++◌, length, append-nil, length-append}
use Rattle.std.proofs.Common.{Option, Some, None, IfSome, refl, sym, ap, ◌∙◌, subst, arith, rules, suc, slice_index, slice_set, nat_le, append_assoc, if◌then◌else◌}
use Rattle.std.proofs.lemmas.Bool.{or_parts}
use Rattle.board_base.specs.declared.cpu.Sequence.{Sequence}
use Rattle.board_base.specs.declared.cpu.Sequence.TheVariants.{Opcode, Interrupt, Reset}
use Rattle.board_base.specs.Cpu.{CpuValue}
use Rattle.board_base.specs.Mid.{MidValue}
use Rattle.cpu_core.specs.declared.replay.Next.{Next}
use Rattle.cpu_core.specs.declared.replay.Next.TheVariants.{Read, Write, End}
use Rattle.cpu_core.specs.BusCycles as cycles
use Rattle.cpu_core.specs.BusCycles.{read_of, write_of}
use Rattle.cpu_core.specs.Registers.{RegistersValue, registers_of}
use Rattle.cpu_core.specs.Sequences.{next_of, start_of, IsAccess, IsEnd, Moves, Runs}
use Rattle.cpu_core.specs.Places.{paused, standing, given_by, Advances, IsPlace, IsMiddle}
use Rattle.cpu_core.proofs.PlaceLemmas.{given_paused, place_due}
use Rattle.tape_ports.specs.declared.entry.TapeEntry.{TapeEntry}
use Rattle.catchup_engine.specs.declared.trace.Access.{Access}
use Rattle.catchup_engine.specs.Bus.{BusStep, BusValue, at_clock, done_clock, in_clock, room_of}
use Rattle.catchup_engine.specs.EngineValue.{Rooms}
use Rattle.lockstep_board.specs.Lockstep.{Board, access_in, due_access, made_by, sequence_due, step}
use Rattle.lockstep_board.specs.Run.{boundary_steps, is_over}
use Rattle.catchup_engine.specs.Runs.{over_bus, BoundaryRun, IsInRange}
use Rattle.catchup_engine.specs.Trace.{TracedReset, TracedStep, TracedValue, TraceValue, access_at, accesses_in, accesses_of, byte_of, first_byte}
use Rattle.catchup_engine.specs.Trace.{first_value, no_trace, opcode_by, pushed, sequence_at, seven_of, step_trace, trace_of, traced}
use Rattle.catchup_engine.specs.Turn.{Goes, TurnedBus}
use Rattle.lockstep_board.specs.Peripherals.{Peripherals, ticked}
use Rattle.lockstep_board.proofs.Clocks.{step-clock}
use Rattle.lockstep_board.proofs.Runs.{steps_until-is, through-reached}
use Rattle.catchup_engine.proofs.RunsOn.{boundary-ends, boundary-starts, none-is, open-at, open-before, over-at, turn-ended, turn-runs}
use Rattle.catchup_engine.proofs.Seen.{advances-seen, moves-seen, runs-seen}
use Rattle.catchup_engine.proofs.Steps.{board_after, in_clock-between, moves-length, moves-went, paused-is, stays-of, step-access}
use Rattle.catchup_engine.proofs.Turns.{Begins, First, HasEffects, ResetStarted, clock-some, due-clock, effects-by, fetch-first, given-some, in_clock-open}
use Rattle.catchup_engine.proofs.Turns.{next-first, opcode-first, reset-started, reset-first, reset-turn, resets-more, resume-first, resume-turn, standing-paused, turned-clock}

-- the access that was made is the one that the board makes
made_by-is : (entries : List TapeEntry) (next : Next) (v : ℕ) (x : cycles.Access) (s t : BusValue) → IsAccess next v x → BusStep entries x s t
    → made_by next (in_clock entries s.clock_open s.peripherals) ≡ Some x
made_by-is entries (Read a) v x s t is did =
    let d = subst (λ y. BusStep entries y s t) is did in
    ap (λ b. Some (read_of a b)) (sym d.0) ∙ ap (λ (y : cycles.Access). Some y) (sym is)
made_by-is entries (Write a w) v x s t is did = ap (λ b. Some (write_of a b)) (sym is.0) ∙ ap (λ (y : cycles.Access). Some y) (sym is.1)
made_by-is entries (End e) v x s t is did = absurd is

access-resumed : (entries : List TapeEntry) (c : CpuValue) (m : MidValue) (v : ℕ) (x : cycles.Access) (s t : BusValue) → c.mid ≡ Some m → s.clock_open ≡ false
    → IsAccess (next_of (registers_of c) m.sequence (given_by m)) v x → BusStep entries x s t → access_in entries (over_bus c s) ≡ Some x
unfolding access_in
access-resumed entries c m v x s t inside between is did =
    ap (λ (mid : Option MidValue). due_access mid c (ticked entries s.peripherals)) inside
    ∙ ap (made_by (next_of (registers_of c) m.sequence (given_by m))) (sym (in_clock-between entries s between))
    ∙ made_by-is entries (next_of (registers_of c) m.sequence (given_by m)) v x s t is did

access-fetched : (entries : List TapeEntry) (c : CpuValue) (q : Sequence) (v : ℕ) (x : cycles.Access) (s b t : BusValue) → c.mid ≡ None
    → Begins entries s b → q ≡ sequence_due c b.peripherals → IsAccess (next_of (start_of q c) q []) v x → BusStep entries x b t
    → access_in entries (over_bus c s) ≡ Some x
unfolding access_in
access-fetched entries c q v x s b t boundary begins due is did =
    let w = ticked entries s.peripherals in
    let due_then : q ≡ sequence_due c w = due ∙ ap (sequence_due c) begins.peripherals ∙ due-clock c w in
    ap (λ (mid : Option MidValue). due_access mid c w) boundary
    ∙ ap (λ (p : Sequence). made_by (next_of (start_of p c) p []) w) (sym due_then)
    ∙ ap (made_by (next_of (start_of q c) q [])) (sym (in_clock-open entries s b begins))
    ∙ made_by-is entries (next_of (start_of q c) q []) v x b t is did

-- one access more
seven-push : (made : List Access) (a : Access) → length made ≤ 6 → slice_set (seven_of made) (length made) a ≡ seven_of (made ++ a ∷ [])
seven-push [] a few = refl
seven-push (x0 ∷ []) a few = refl
seven-push (x0 ∷ (x1 ∷ [])) a few = refl
seven-push (x0 ∷ (x1 ∷ (x2 ∷ []))) a few = refl
seven-push (x0 ∷ (x1 ∷ (x2 ∷ (x3 ∷ [])))) a few = refl
seven-push (x0 ∷ (x1 ∷ (x2 ∷ (x3 ∷ (x4 ∷ []))))) a few = refl
seven-push (x0 ∷ (x1 ∷ (x2 ∷ (x3 ∷ (x4 ∷ (x5 ∷ [])))))) a few = refl
seven-push (x0 ∷ (x1 ∷ (x2 ∷ (x3 ∷ (x4 ∷ (x5 ∷ (x6 ∷ more))))))) a few = absurd (omega arith)

-- a trace of these accesses, whose sequence isn't known yet
abbrev pub of_accesses : List Access → TraceValue
of_accesses made = record { sequence = Opcode; opcode = 0; count = length made; accesses = seven_of made }

pub pushed-is : (made : List Access) (a : Access) → length made ≤ 6 → pushed (of_accesses made) a ≡ of_accesses (made ++ a ∷ [])
pushed-is made a few =
    ap (λ (l : List Access). let t : TraceValue = record { sequence = Opcode; opcode = 0; count = length made + 1; accesses = l } in t) (seven-push made a few)
    ∙ ap (λ n. let t : TraceValue = record { sequence = Opcode; opcode = 0; count = n; accesses = seven_of (made ++ a ∷ []) } in t) (sym (length-append made (a ∷ [])))

-- the bus of a traced one makes the same accesses
pub bus-moves : (entries : List TapeEntry) (r : RegistersValue) (q : Sequence) (bytes more : List ℕ) (s t : TracedValue)
    → Moves (TracedStep entries) r q bytes more s t → Moves (BusStep entries) r q bytes more s.bus t.bus
bus-moves entries r q bytes more s t moves =
    (moves-seen (BusStep entries) (λ (k : TracedValue). k.bus) (λ k. 0) (λ x a b h. (refl, h.0)) r q bytes more s t moves).1

pub bus-advances : (entries : List TapeEntry) (r : RegistersValue) (q : Sequence) (given : List ℕ) (clocks made : ℕ) (s t : TracedValue) (e : CpuValue)
    → Advances (TracedStep entries) r q given clocks made s t e → Advances (BusStep entries) r q given clocks made s.bus t.bus e
bus-advances entries r q given clocks made s t e a =
    (advances-seen (BusStep entries) (λ (k : TracedValue). k.bus) (λ k. 0) (λ x a b h. (refl, h.0)) r q given clocks made s t e a).1

-- the access of a board inside a sequence
access-paused : (entries : List TapeEntry) (r : RegistersValue) (q : Sequence) (bytes : List ℕ) (w : Peripherals)
    → access_in entries (record { cpu = paused r q bytes; peripherals = w }) ≡ made_by (next_of r q bytes) (ticked entries w)
unfolding access_in
access-paused entries r q bytes w = rw (given_paused bytes) refl

access-inside : (entries : List TapeEntry) (r : RegistersValue) (q : Sequence) (bytes : List ℕ) (v : ℕ) (x : cycles.Access) (s t : BusValue)
    → IsAccess (next_of r q bytes) v x → BusStep entries x s t → s.clock_open ≡ false → access_in entries (board_after r q bytes s.peripherals) ≡ Some x
access-inside entries r q bytes v x s t is did between =
    ap (λ (c : CpuValue). access_in entries (record { cpu = c; peripherals = s.peripherals })) (paused-is (next_of r q bytes) r q bytes v x is)
    ∙ access-paused entries r q bytes s.peripherals
    ∙ ap (made_by (next_of r q bytes)) (sym (in_clock-between entries s between))
    ∙ made_by-is entries (next_of r q bytes) v x s t is did

-- the trace has n clocks of a board, after the accesses that were there
pub record IsTold (entries : List TapeEntry) (n : ℕ) (b : Board) (before : List Access) (trace : TraceValue) : Type 0 where
  pub trace_is : trace ≡ of_accesses (before ++ accesses_of entries n b)
  pub full : length (accesses_of entries n b) ≡ n

-- the accesses of the next clock, and then those of the others
observed-more : (entries : List TapeEntry) (n : ℕ) (b next : Board) (a : Access) (before : List Access) (trace : TraceValue) → step entries b ≡ next
    → accesses_in b.peripherals.clock (access_in entries b) ≡ a ∷ [] → IsTold entries n next (before ++ a ∷ []) trace → IsTold entries (suc n) b before trace
unfolding accesses_of
observed-more entries n b next a before trace steps one rest =
    let whole : accesses_of entries (suc n) b ≡ a ∷ accesses_of entries n next =
    ap (λ (k : Board). accesses_in b.peripherals.clock (access_in entries b) ++ accesses_of entries n k) steps
    ∙ ap (λ (l : List Access). l ++ accesses_of entries n next) one in
    record {
      trace_is =
          rest.trace_is
          ∙ ap of_accesses (append_assoc before (a ∷ []) (accesses_of entries n next) ∙ ap (λ (l : List Access). before ++ l) (sym whole));
      full = ap (λ (l : List Access). length l) whole ∙ (let e : suc (length (accesses_of entries n next)) ≡ suc n = omega arith in e);
    }

-- what is left of a sequence is traced clock by clock
moves-observed : (entries : List TapeEntry) (r : RegistersValue) (q : Sequence) (bytes more : List ℕ) (s t : TracedValue)
    → Moves (TracedStep entries) r q bytes more s t → s.bus.clock_open ≡ false → (before : List Access) → s.trace ≡ of_accesses before
    → length before + length more ≤ 7 → IsTold entries (length more) (board_after r q bytes s.bus.peripherals) before t.trace
unfolding accesses_of
moves-observed entries r q bytes [] s t same between before is few = record {
  trace_is = ap (λ (k : TracedValue). k.trace) same ∙ is ∙ ap of_accesses (sym (append-nil before));
  full = refl;
}
moves-observed entries r q bytes (v ∷ more) s t (x, m, is, did, rest) between before at few =
    let b = board_after r q bytes s.bus.peripherals in
    let next = step-access entries r q bytes v x s.bus m.bus is did.0 between in
    let clock = step-clock entries b in
    let clock_then : m.bus.peripherals.clock ≡ (step entries b).peripherals.clock = ap (λ (k : Board). k.peripherals.clock) (sym next) in
    let now : m.bus.peripherals.clock - 1 ≡ s.bus.peripherals.clock = omega arith in
    let a = access_at s.bus.peripherals.clock x in
    let one : accesses_in b.peripherals.clock (access_in entries b) ≡ a ∷ [] =
    ap (accesses_in s.bus.peripherals.clock) (access-inside entries r q bytes v x s.bus m.bus is did.0 between) in
    let longer = length-append before (a ∷ []) in
    let observed : m.trace ≡ of_accesses (before ++ a ∷ []) =
    did.1
    ∙ ap (λ (k : TraceValue). pushed k (access_at (m.bus.peripherals.clock - 1) x)) at
    ∙ ap (λ n. pushed (of_accesses before) (access_at n x)) now
    ∙ pushed-is before a (omega arith) in
    observed-more entries (length more) b (board_after r q (bytes ++ v ∷ []) m.bus.peripherals) a before t.trace next one
    (moves-observed entries r q (bytes ++ v ∷ []) more m t rest (stays-of entries x s.bus m.bus did.0).clock_open (before ++ a ∷ []) observed (omega arith))

-- a turn that is traced: so many clocks of it are in the trace
pub record IsTraced (entries : List TapeEntry) (b : Board) (t : TracedValue) : Type 0 where
  pub count : ℕ
  pub clock : t.bus.peripherals.clock ≡ b.peripherals.clock + count
  pub some : 1 ≤ count
  pub observed : IsTold entries count b [] t.trace
  pub byte : first_value t.trace.accesses ≡ byte_of (access_in entries b)

value-at : (clock : ℕ) (x : cycles.Access) → (access_at clock x).value ≡ byte_of (Some x)
value-at clock (read_of a v) = refl
value-at clock (write_of a v) = refl

-- the byte of the first access
first-byte : (entries : List TapeEntry) (n : ℕ) (b : Board) (x : cycles.Access) (trace : TraceValue) → access_in entries b ≡ Some x
    → trace ≡ of_accesses (accesses_of entries (suc n) b) → first_value trace.accesses ≡ byte_of (access_in entries b)
unfolding accesses_of
first-byte entries n b x trace access is =
    let rest = accesses_of entries n (step entries b) in
    ap (λ (t : TraceValue). first_value t.accesses) is
    ∙ ap (λ (y : Option cycles.Access). first_value (seven_of (accesses_in b.peripherals.clock y ++ rest))) access
    ∙ value-at b.peripherals.clock x
    ∙ ap byte_of (sym access)

-- the first clock, and then the others
turn-observed : (entries : List TapeEntry) (b : Board) (r : RegistersValue) (q : Sequence) (bytes more : List ℕ) (s : BusValue) (m t : TracedValue) (x : cycles.Access)
    → First entries b r q bytes s m.bus → access_in entries b ≡ Some x → m.trace ≡ of_accesses (access_at (m.bus.peripherals.clock - 1) x ∷ [])
    → Moves (TracedStep entries) r q bytes more m t → length more ≤ 6 → IsTraced entries b t
turn-observed entries b r q bytes more s m t x first access observed moves few =
    let clock = step-clock entries b in
    let clock_then : m.bus.peripherals.clock ≡ (step entries b).peripherals.clock = ap (λ (k : Board). k.peripherals.clock) (sym first.step) in
    let now : m.bus.peripherals.clock - 1 ≡ b.peripherals.clock = omega arith in
    let a = access_at b.peripherals.clock x in
    let at : m.trace ≡ of_accesses (a ∷ []) = observed ∙ ap (λ n. of_accesses (access_at n x ∷ [])) now in
    let whole = observed-more entries (length more) b (board_after r q bytes m.bus.peripherals) a [] t.trace first.step (ap (accesses_in b.peripherals.clock) access)
    (moves-observed entries r q bytes more m t moves first.goes.between (a ∷ []) at (omega arith)) in
    record {
      count = suc (length more);
      clock =
          turned-clock entries b r q bytes more s m.bus t.bus first
          (moves-went entries r q bytes more m.bus t.bus (bus-moves entries r q bytes more m t moves) first.goes.between);
      some = omega arith;
      observed = whole;
      byte = first-byte entries (length more) b x t.trace access whole.trace_is;
    }

pub bus-runs : (entries : List TapeEntry) (r : RegistersValue) (q : Sequence) (s t : TracedValue) (e : CpuValue)
    → Runs (TracedStep entries) r q s t e → Runs (BusStep entries) r q s.bus t.bus e
bus-runs entries r q s t e runs =
    (runs-seen (BusStep entries) (λ (k : TracedValue). k.bus) (λ k. 0) (λ x a b h. (refl, h.0)) r q s t e runs).1

-- a whole instruction or interrupt
pub whole-observed : (entries : List TapeEntry) (c : CpuValue) (q : Sequence) (s b : BusValue) (t : TracedValue) (e : CpuValue) → c.mid ≡ None
    → Begins entries s b → q ≡ sequence_due c b.peripherals → q ≢ Reset → Runs (TracedStep entries) (start_of q c) q (traced b no_trace) t e
    → IsTraced entries (over_bus c s) t
whole-observed entries c q s b t e boundary begins due other runs = by_bytes runs.bytes runs.moves runs.ends
  where
    r : RegistersValue
    r = start_of q c

    by_bytes : (bytes : List ℕ) → Moves (TracedStep entries) r q [] bytes (traced b no_trace) t → next_of r q bytes ≡ End e → IsTraced entries (over_bus c s) t
    by_bytes [] moves ends = absurd (next-first r q (rw ends tt))
    by_bytes (v ∷ more) (x, m, is, did, rest) ends =
        let few = moves-length entries r q (v ∷ []) more m.bus t.bus (bus-moves entries r q (v ∷ []) more m t rest) (omega arith) in
        turn-observed entries (over_bus c s) r q (v ∷ []) more s m t x (fetch-first entries c q s b m.bus v x boundary begins due other is did.0)
        (access-fetched entries c q v x s b m.bus boundary begins due is did.0)
        (did.1 ∙ pushed-is [] (access_at (m.bus.peripherals.clock - 1) x) (omega arith)) rest (omega arith)

-- an instruction in whose first clock no event is due
access-opcode : (entries : List TapeEntry) (c : CpuValue) (v : ℕ) (x : cycles.Access) (s t : BusValue) → c.mid ≡ None → s.clock_open ≡ false
    → Opcode ≡ sequence_due c (ticked entries s.peripherals) → IsAccess (next_of (start_of Opcode c) Opcode []) v x → BusStep entries x s t
    → access_in entries (over_bus c s) ≡ Some x
unfolding access_in
access-opcode entries c v x s t boundary between due is did =
    let w = ticked entries s.peripherals in
    ap (λ (mid : Option MidValue). due_access mid c w) boundary
    ∙ ap (λ (p : Sequence). made_by (next_of (start_of p c) p []) w) (sym due)
    ∙ ap (made_by (next_of (start_of Opcode c) Opcode [])) (sym (in_clock-between entries s between))
    ∙ made_by-is entries (next_of (start_of Opcode c) Opcode []) v x s t is did

pub opcode-observed : (entries : List TapeEntry) (c : CpuValue) (s : BusValue) (t : TracedValue) (e : CpuValue) → c.mid ≡ None → s.clock_open ≡ false
    → Opcode ≡ sequence_due c (ticked entries s.peripherals) → Runs (TracedStep entries) (registers_of c) Opcode (traced s no_trace) t e
    → IsTraced entries (over_bus c s) t
opcode-observed entries c s t e boundary between due runs = by_bytes runs.bytes runs.moves runs.ends
  where
    r : RegistersValue
    r = registers_of c

    by_bytes : (bytes : List ℕ) → Moves (TracedStep entries) r Opcode [] bytes (traced s no_trace) t → next_of r Opcode bytes ≡ End e → IsTraced entries (over_bus c s) t
    by_bytes [] moves ends = absurd (next-first r Opcode (rw ends tt))
    by_bytes (v ∷ more) (x, m, is, did, rest) ends =
        let few = moves-length entries r Opcode (v ∷ []) more m.bus t.bus (bus-moves entries r Opcode (v ∷ []) more m t rest) (omega arith) in
        turn-observed entries (over_bus c s) r Opcode (v ∷ []) more s m t x (opcode-first entries c s m.bus v x boundary between due is did.0)
        (access-opcode entries c v x s m.bus boundary between due is did.0)
        (did.1 ∙ pushed-is [] (access_at (m.bus.peripherals.clock - 1) x) (omega arith)) rest (omega arith)

-- what is left of a sequence
pub rest-observed : (entries : List TapeEntry) (c : CpuValue) (m : MidValue) (made : ℕ) (s : BusValue) (t : TracedValue) (e : CpuValue) → c.mid ≡ Some m
    → IfSome c.mid (λ _. IsMiddle c) → length m.bytes ≡ 6 → s.clock_open ≡ false
    → Advances (TracedStep entries) (registers_of c) m.sequence (given_by m) 7 made (traced s no_trace) t e → IsTraced entries (over_bus c s) t
rest-observed entries c m made s t e inside middle six between a = by_more a.more a.moves a.count a.full
  where
    r : RegistersValue
    r = registers_of c

    place : IsPlace r m
    place = (rw inside at middle).1

    by_more : (more : List ℕ) → Moves (TracedStep entries) r m.sequence (given_by m) more (traced s no_trace) t → length more ≡ made
        → ((IsEnd (next_of r m.sequence (given_by m ++ more)) → ⊥) → made ≡ 7) → IsTraced entries (over_bus c s) t
    by_more [] moves count full =
        let all : made ≡ 7 = full (rw (append-nil (given_by m)) (place_due r m place)) in
        absurd (omega arith)
    by_more (v ∷ more) (x, k, is, did, rest) count full =
        let given = given-some m place.started place.short six in
        let short = place.short in
        let longer : length (given_by m ++ v ∷ []) ≡ length (given_by m) + 1 = length-append (given_by m) (v ∷ []) in
        let few = moves-length entries r m.sequence (given_by m ++ v ∷ []) more k.bus t.bus
        (bus-moves entries r m.sequence (given_by m ++ v ∷ []) more k t rest) (omega arith) in
        turn-observed entries (over_bus c s) r m.sequence (given_by m ++ v ∷ []) more s k t x (resume-first entries c m s k.bus v x inside between is did.0)
        (access-resumed entries c m v x s k.bus inside between is did.0)
        (did.1 ∙ pushed-is [] (access_at (k.bus.peripherals.clock - 1) x) (omega arith)) rest (omega arith)

-- what is left of a sequence is a turn, and it is traced
pub record IsRest (entries : List TapeEntry) (c : CpuValue) (m : MidValue) (s : BusValue) (t : TracedValue) (e : CpuValue) : Type 0 where
  pub turned : TurnedBus entries 7 c s t.bus e
  pub traced : IsTraced entries (over_bus c s) t
  pub inside : c.mid ≡ Some m

pub middle-observed : (entries : List TapeEntry) (c : CpuValue) (m : MidValue) (s : BusValue) (t : TracedValue) (e : CpuValue) → c.mid ≡ Some m
    → IfSome c.mid (λ _. IsMiddle c) → length m.bytes ≡ 6 → s.clock_open ≡ false
    → IfSome c.mid (λ p. (made : ℕ) × Advances (TracedStep entries) (registers_of c) p.sequence (given_by p) 7 made (traced s no_trace) t e)
    → IsRest entries c m s t e
middle-observed entries c m s t e inside middle six between advances =
    let a : (made : ℕ) × Advances (TracedStep entries) (registers_of c) m.sequence (given_by m) 7 made (traced s no_trace) t e =
    subst (λ (mid : Option MidValue). IfSome mid (λ p. (made : ℕ) × Advances (TracedStep entries) (registers_of c) p.sequence (given_by p) 7 made (traced s no_trace) t e)) inside advances in
    record {
      turned =
          resume-turn entries c m 7 a.0 s t.bus e inside middle six between (omega arith)
          (subst (λ (mid : Option MidValue). IfSome mid (λ p. Advances (BusStep entries) (registers_of c) p.sequence (given_by p) 7 a.0 s t.bus e)) (sym inside)
          (bus-advances entries (registers_of c) m.sequence (given_by m) 7 a.0 (traced s no_trace) t e a.1));
      traced = rest-observed entries c m a.0 s t e inside middle six between a.1;
      inside = inside;
    }

-- the sequence and the first byte of a sequence under way
pub middle-sequence : (entries : List TapeEntry) (c : CpuValue) (m : MidValue) (s : BusValue) → c.mid ≡ Some m
    → m.sequence ≡ sequence_at (over_bus c s).cpu.mid (over_bus c s).cpu (ticked entries (over_bus c s).peripherals)
middle-sequence entries c m s inside = sym (ap (λ (mid : Option MidValue). sequence_at mid c (ticked entries s.peripherals)) inside)

pub middle-byte : (entries : List TapeEntry) (c : CpuValue) (m : MidValue) (s : BusValue) → c.mid ≡ Some m
    → slice_index m.bytes 0 ≡ first_byte (over_bus c s).cpu.mid (access_in entries (over_bus c s))
middle-byte entries c m s inside = sym (ap (λ (mid : Option MidValue). first_byte mid (access_in entries (over_bus c s))) inside)

-- a reset over a bus is one, and it is traced
pub record IsReset (entries : List TapeEntry) (c : CpuValue) (s : BusValue) (t : TracedValue) (e : CpuValue) : Type 0 where
  pub turned : TurnedBus entries 7 c s t.bus e
  pub traced : IsTraced entries (over_bus c s) t

-- the rest of a reset after its read
reset-rest : (entries : List TapeEntry) (c k : CpuValue) (v : ℕ) (s t : TracedValue) (e : CpuValue) → k ≡ paused (start_of Reset c) Reset (v ∷ [])
    → IfSome k.mid (λ m. (made : ℕ) × Advances (TracedStep entries) (registers_of k) m.sequence (given_by m) 6 made s t e)
    → (made : ℕ) × Advances (TracedStep entries) (start_of Reset c) Reset (v ∷ []) 6 made s t e
reset-rest entries c k v s t e stands rest =
    subst (λ (j : CpuValue). IfSome j.mid (λ m. (made : ℕ) × Advances (TracedStep entries) (registers_of j) m.sequence (given_by m) 6 made s t e)) stands rest

-- from the move of its read
reset-of : (entries : List TapeEntry) (c : CpuValue) (s b : BusValue) (m t : TracedValue) (k e : CpuValue) (v : ℕ) (x : cycles.Access) → c.mid ≡ None
    → Begins entries s b → Reset ≡ sequence_due c b.peripherals → IsAccess (next_of (start_of Reset c) Reset []) v x → TracedStep entries x (traced b no_trace) m
    → k ≡ paused (start_of Reset c) Reset (v ∷ []) → (taken : BusValue) → HasEffects m.bus taken
    → IfSome k.mid (λ p. (made : ℕ) × Advances (TracedStep entries) (registers_of k) p.sequence (given_by p) 6 made (traced taken m.trace) t e)
    → IsReset entries c s t e
reset-of entries c s b m t k e v x boundary begins due is did stands taken effects rest =
    let r = start_of Reset c in
    let between = (stays-of entries x b m.bus did.0).clock_open in
    let started : ResetStarted entries c b m.bus k = record {
      value = v;
      moves = (x, m.bus, is, did.0, refl);
      stands = stands;
      clock = clock-some entries x b m.bus did.0;
      between = between;
    } in
    let goes : Goes m.bus taken = record { more = effects.more; rooms = effects.rooms; until = effects.until; between = effects.between ∙ between } in
    let same : taken.peripherals.clock ≡ m.bus.peripherals.clock = ap (λ (w : Peripherals). w.clock) effects.peripherals in
    let a = reset-rest entries c k v (traced taken m.trace) t e stands rest in
    let moves = bus-moves entries r Reset (v ∷ []) a.1.more (traced taken m.trace) t a.1.moves in
    let few = moves-length entries r Reset (v ∷ []) a.1.more taken t.bus moves (omega arith) in
    record {
      turned =
          reset-turn entries c 7 s b t.bus e boundary begins due (omega arith)
          (resets-more entries c 7 a.0 b m.bus taken t.bus k e started effects
          (subst (λ (j : CpuValue). IfSome j.mid (λ p. Advances (BusStep entries) (registers_of j) p.sequence (given_by p) 6 a.0 taken t.bus e)) (sym stands)
          (bus-advances entries r Reset (v ∷ []) 6 a.0 (traced taken m.trace) t e a.1)));
      traced =
          turn-observed entries (over_bus c s) r Reset (v ∷ []) a.1.more s (traced taken m.trace) t x
          (reset-first entries c s b m.bus taken v x boundary begins due is did.0 effects.peripherals effects.calls goes)
          (access-fetched entries c Reset v x s b m.bus boundary begins due is did.0)
          (did.1 ∙ pushed-is [] (access_at (m.bus.peripherals.clock - 1) x) (omega arith) ∙ ap (λ n. of_accesses (access_at (n - 1) x ∷ [])) (sym same))
          a.1.moves (omega arith);
    }

pub reset-observed : (entries : List TapeEntry) (c : CpuValue) (s b : BusValue) (t : TracedValue) (e : CpuValue) → c.mid ≡ None
    → Begins entries s b → Reset ≡ sequence_due c b.peripherals → TracedReset entries c b t e → IsReset entries c s t e
reset-observed entries c s b t e boundary begins due reset = by_more one.more one.moves one.count one.full one.stands
  where
    r : RegistersValue
    r = start_of Reset c

    one : Advances (TracedStep entries) r Reset [] 1 reset.begins.0 (traced b no_trace) reset.read reset.inside
    one = reset.begins.1

    by_more : (more : List ℕ) → Moves (TracedStep entries) r Reset [] more (traced b no_trace) reset.read → length more ≡ reset.begins.0
        → ((IsEnd (next_of r Reset more) → ⊥) → reset.begins.0 ≡ 1) → reset.inside ≡ standing r Reset more → IsReset entries c s t e
    by_more [] moves count full stands =
        let all : reset.begins.0 ≡ 1 = full (next-first r Reset) in
        absurd (omega arith)
    by_more (v ∷ (u ∷ more)) moves count full stands = let few = one.few in absurd (omega arith)
    by_more (v ∷ []) (x, m, is, did, same) count full stands =
        reset-of entries c s b reset.read t reset.inside e v x boundary begins due is
        (subst (λ (k : TracedValue). TracedStep entries x (traced b no_trace) k) (sym same) did) (stands ∙ standing-paused r v)
        reset.taken (effects-by reset.read.bus reset.taken reset.effects) reset.rest

-- a reset has started in its first clock
pub reset-starts : (entries : List TapeEntry) (c k : CpuValue) (b : BusValue) (m : TracedValue)
    → ((made : ℕ) × Advances (TracedStep entries) (start_of Reset c) Reset [] 1 made (traced b no_trace) m k) → ResetStarted entries c b m.bus k
reset-starts entries c k b m (made, a) =
    reset-started entries c b m.bus k (made, bus-advances entries (start_of Reset c) Reset [] 1 made (traced b no_trace) m k a)

-- its trace has one access
pub reset-one : (entries : List TapeEntry) (c k : CpuValue) (b : BusValue) (m : TracedValue)
    → ((made : ℕ) × Advances (TracedStep entries) (start_of Reset c) Reset [] 1 made (traced b no_trace) m k) → m.trace.count ≤ 1
reset-one entries c k b m (made, a) = by_more a.more a.moves a.count
  where
    by_more : (more : List ℕ) → Moves (TracedStep entries) (start_of Reset c) Reset [] more (traced b no_trace) m → length more ≡ made → m.trace.count ≤ 1
    by_more [] same count = let none : m.trace.count ≡ 0 = ap (λ (k : TracedValue). k.trace.count) same in omega arith
    by_more (v ∷ []) (x, n, is, did, same) count =
        let one : m.trace.count ≡ 1 = ap (λ (k : TracedValue). k.trace.count) same ∙ ap (λ (k : TraceValue). k.count) did.1 in
        omega arith
    by_more (v ∷ (u ∷ more)) moves count = let few = a.few in absurd (omega arith)

-- and leaves room for all others
pub first-room : (entries : List TapeEntry) (c k : CpuValue) (b : BusValue) (trace : TraceValue) (m : TracedValue) → b.clock_open ≡ true
    → ((made : ℕ) × Advances (TracedStep entries) (start_of Reset c) Reset [] 1 made (traced b trace) m k) → room_of b ≤ room_of m.bus + 1
unfolding next_of in_clock
first-room entries c k b trace m clock_open (made, a) = by_more a.more a.moves a.count
  where
    read-room : (v : ℕ) (x : cycles.Access) (t : BusValue) → IsAccess (next_of (start_of Reset c) Reset []) v x → BusStep entries x b t → room_of b ≤ room_of t + 1
    read-room v x t is did =
        let d = subst (λ y. BusStep entries y b t) is did in
        let peripherals = d.1 ∙ ap (λ f. done_clock (if f then at_clock (b.peripherals.clock - 1) b.peripherals else ticked entries b.peripherals)) clock_open in
        let written = ap (λ (w : Peripherals). length w.written) peripherals in
        let clock = ap (λ (w : Peripherals). w.clock) peripherals in
        let rooms = ap (λ (r : Rooms). r.board) (stays-of entries x b t did).rooms in
        let until = (stays-of entries x b t did).until in
        omega arith

    by_more : (more : List ℕ) → Moves (TracedStep entries) (start_of Reset c) Reset [] more (traced b trace) m → length more ≡ made → room_of b ≤ room_of m.bus + 1
    by_more [] same count = let e : m.bus ≡ b = ap (λ (k : TracedValue). k.bus) same in rw e (omega arith)
    by_more (v ∷ []) (x, n, is, did, same) count =
        let e : m.bus ≡ n.bus = ap (λ (k : TracedValue). k.bus) same in rw e (read-room v x n.bus is did.0)
    by_more (v ∷ (u ∷ more)) moves count = let few = a.few in absurd (omega arith)

-- the trace with its sequence
pub trace-named : (entries : List TapeEntry) (b : Board) (t : TracedValue) (q : Sequence) (o : ℕ) → IsTraced entries b t
    → q ≡ sequence_at b.cpu.mid b.cpu (ticked entries b.peripherals) → o ≡ opcode_by q (first_byte b.cpu.mid (access_in entries b))
    → (let r : TraceValue = record t.trace { sequence = q; opcode = o } in r) ≡ trace_of entries (t.bus.peripherals.clock - b.peripherals.clock) b
unfolding trace_of
trace-named entries b t q o at is opcode =
    let n = at.count in
    let same : t.bus.peripherals.clock - b.peripherals.clock ≡ n = omega arith in
    let whole = λ (p : Sequence) (code k : ℕ) (l : List Access). (let r : TraceValue = record { sequence = p; opcode = code; count = k; accesses = l } in r) in
    let made = accesses_of entries n b in
    let there = sequence_at b.cpu.mid b.cpu (ticked entries b.peripherals) in
    ap (λ (k : TraceValue). let r : TraceValue = record k { sequence = q; opcode = o } in r) at.observed.trace_is
    ∙ ap (λ code. whole q code (length made) (seven_of made)) opcode
    ∙ ap (λ (p : Sequence). whole p (opcode_by p (first_byte b.cpu.mid (access_in entries b))) (length made) (seven_of made)) is
    ∙ ap (λ k. whole there (opcode_by there (first_byte b.cpu.mid (access_in entries b))) k (seven_of made)) at.observed.full
    ∙ ap (λ k. whole there (opcode_by there (first_byte b.cpu.mid (access_in entries b))) k (seven_of (accesses_of entries k b))) (sym same)

-- a reset has no opcode
pub reset-opcode : (q : Sequence) (x y : ℕ) → q ≡ Reset → opcode_by q x ≡ opcode_by q y
reset-opcode Opcode x y is = cc
reset-opcode Interrupt x y is = refl
reset-opcode Reset x y is = refl

-- what a fetch begins is the sequence of the next clock
pub fetch-sequence : (entries : List TapeEntry) (c : CpuValue) (q : Sequence) (s b : BusValue) → c.mid ≡ None → Begins entries s b → q ≡ sequence_due c b.peripherals
    → q ≡ sequence_at (over_bus c s).cpu.mid (over_bus c s).cpu (ticked entries (over_bus c s).peripherals)
fetch-sequence entries c q s b boundary begins due =
    due
    ∙ ap (sequence_due c) begins.peripherals
    ∙ due-clock c (ticked entries s.peripherals)
    ∙ sym (ap (λ (mid : Option MidValue). sequence_at mid c (ticked entries s.peripherals)) boundary)

-- and its byte is that of the first access
pub fetch-byte : (entries : List TapeEntry) (c : CpuValue) (s : BusValue) (t : TracedValue) → c.mid ≡ None → IsTraced entries (over_bus c s) t
    → first_value t.trace.accesses ≡ first_byte (over_bus c s).cpu.mid (access_in entries (over_bus c s))
fetch-byte entries c s t boundary at =
    at.byte ∙ sym (ap (λ (mid : Option MidValue). first_byte mid (access_in entries (over_bus c s))) boundary)

-- a board at which a run isn't over: it isn't jammed, and at a boundary it is before the limit
pub record IsRunning (limit : ℕ) (b : Board) : Type 0 where
  pub running : b.cpu.jam ≡ None
  pub before : b.cpu.mid ≡ None → b.peripherals.clock < limit

pub over-running : (limit : ℕ) (b : Board) → is_over limit b ≡ false → IsRunning limit b
over-running limit b open_yet = record {
  running = none-is b.cpu.jam (or_parts (is_some b.cpu.jam) (is_none b.cpu.mid && nat_le limit b.peripherals.clock) open_yet).0;
  before = λ boundary. (open-before limit b boundary open_yet).clock;
}

-- a turn over the bus ends where the board's does, and its trace is that of the board's
turn-over : (entries : List TapeEntry) (c : CpuValue) (s t : BusValue) (e : CpuValue) → TurnedBus entries 7 c s t e
    → is_over (s.peripherals.clock + 1) (over_bus e t) ≡ true
turn-over entries c s t e turned =
    over-at (s.peripherals.clock + 1) (over_bus e t) (turn-ended entries c s t e turned) (omega arith)

-- a turn takes as many clocks as the run that it is
turn-steps : (entries : List TapeEntry) (c : CpuValue) (s t : BusValue) (e : CpuValue) → c.jam ≡ None → TurnedBus entries 7 c s t e
    → boundary_steps entries (s.peripherals.clock + 1) (over_bus c s) ≡ t.peripherals.clock - s.peripherals.clock
turn-steps entries c s t e running turned =
    let limit = s.peripherals.clock + 1 in
    let n = turned.turned.count in
    let reached = through-reached entries limit n (step entries (over_bus c s)) (over_bus e t) turned.turned.through in
    let count : t.peripherals.clock - s.peripherals.clock ≡ suc n = omega arith in
    steps_until-is entries (is_over limit) (suc n) ((limit - s.peripherals.clock) + 6) (over_bus c s) (over_bus e t) (open-at limit (over_bus c s) running (omega arith), reached)
    (turn-over entries c s t e turned) (omega arith)
    ∙ sym count

pub trace-observed : (entries : List TapeEntry) (c : CpuValue) (s t : BusValue) (e : CpuValue) (trace : TraceValue) → c.jam ≡ None → TurnedBus entries 7 c s t e
    → trace ≡ trace_of entries (t.peripherals.clock - s.peripherals.clock) (over_bus c s) → trace ≡ step_trace entries (over_bus c s)
unfolding step_trace
trace-observed entries c s t e trace running turned is =
    is
    ∙ ap (λ n. trace_of entries n (over_bus c s)) (sym (turn-steps entries c s t e running turned))
    ∙ sym (ap (λ (jam : Option ℕ). if is_some jam then no_trace else trace_of entries (boundary_steps entries (s.peripherals.clock + 1) (over_bus c s)) (over_bus c s)) running)

-- a turn of a processor that isn't jammed is the run that it is
early-of : (c : CpuValue) (s : BusValue) → IsInRange c s → (c.mid ≡ None → s.peripherals.clock < 2 ^ 48) → s.peripherals.clock ≤ 2 ^ 48
early-of c s range early = by_mid c.mid refl
  where
    by_mid : (mid : Option MidValue) → c.mid ≡ mid → s.peripherals.clock ≤ 2 ^ 48
    by_mid None is = omega (arith, early is)
    by_mid (Some m) is = range.middle (rw is (search rules))

pub trace-ends : (entries : List TapeEntry) (c : CpuValue) (s t : BusValue) (e : CpuValue) → c.jam ≡ None → IsInRange c s
    → (c.mid ≡ None → s.peripherals.clock < 2 ^ 48) → TurnedBus entries 7 c s t e → BoundaryRun entries (s.peripherals.clock + 1) c s t e
trace-ends entries c s t e running range early turned =
    let limit = s.peripherals.clock + 1 in
    let n = turned.turned.count in
    let first = early-of c s range early in
    let boundary = turn-ended entries c s t e turned in
    let reached = through-reached entries limit n (step entries (over_bus c s)) (over_bus e t) turned.turned.through in
    boundary-ends entries limit c s t e
    (record {
      run = turn-runs entries (is_over limit) false 7 c e s t (open-at limit (over_bus c s) running (omega arith)) turned reached;
      few = omega arith;
      boundary = boundary;
      range = record { clock = omega arith; middle = λ some. cc (rw boundary at some) };
    })
    (turn-over entries c s t e turned)

pub jammed-boundary : (c : CpuValue) → is_some c.jam ≡ true → IfSome c.mid (λ _. IsMiddle c) → c.mid ≡ None
jammed-boundary c jammed middle = by_mid c.mid middle
  where
    by_mid : (mid : Option MidValue) → IfSome mid (λ _. IsMiddle c) → mid ≡ None
    by_mid None middle = refl
    by_mid (Some m) middle = cc (jammed, ap (λ (jam : Option ℕ). is_some jam) middle.0)

-- a board that is jammed makes no access
pub jammed-run : (entries : List TapeEntry) (c : CpuValue) (s : BusValue) → s.clock_open ≡ false → is_some c.jam ≡ true
    → IfSome c.mid (λ _. IsMiddle c) → IsInRange c s → BoundaryRun entries (s.peripherals.clock + 1) c s s c
jammed-run entries c s between jammed middle range =
    let limit = s.peripherals.clock + 1 in
    let over : is_over limit (over_bus c s) ≡ true = rw jammed refl in
    boundary-ends entries limit c s s c (boundary-starts entries limit c s between (jammed-boundary c jammed middle) range) over

pub jammed-observed : (entries : List TapeEntry) (c : CpuValue) (s : BusValue) → is_some c.jam ≡ true → no_trace ≡ step_trace entries (over_bus c s)
unfolding step_trace
jammed-observed entries c s jammed = rw jammed refl
