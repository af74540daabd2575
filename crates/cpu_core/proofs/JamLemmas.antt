-- Only an undocumented opcode jams the processor.
use Rattle.std.proofs.Common.{◌≡◌, ◌≢◌, ◌≤◌, ◌+◌, ◌%◌, ◌/◌, ◌==◌, ◌++◌, ◌||◌, ℕ, zero, suc, Bool, true, false, nat_lt, if◌then◌else◌, List}
use Rattle.std.proofs.Common.{[], ◌∷◌, length, take, slice_index, Option, Some, None, MatchOption, refl, sym, ap, subst, ◌∙◌, arith}
use Rattle.std.proofs.lemmas.List.{length-append, length-take-le}
use Rattle.board_base.specs.Cpu.{CpuValue}
use Rattle.board_base.specs.Mid.{MidValue}
use Rattle.board_base.specs.declared.cpu.Sequence.{Sequence}
use Rattle.board_base.specs.declared.cpu.Sequence.TheVariants.{Opcode, Interrupt, Reset}
use Rattle.cpu_table.specs.declared.instruction.Op.{Op}
use Rattle.cpu_table.specs.declared.instruction.Mode.{Mode}
use Rattle.cpu_table.specs.declared.instruction.Mode.TheVariants.{Immediate, ZeroPage, ZeroPageX, ZeroPageY, Absolute, AbsoluteX, AbsoluteY, Indirect, IndirectX, IndirectY}
use Rattle.cpu_table.specs.Opcodes.{row_of}
use Rattle.cpu_core.specs.declared.operations.Kind.{Kind}
use Rattle.cpu_core.specs.declared.operations.Kind.TheVariants.{Load, Store, ReadModifyWrite, Implied, Branch, Jump, Call, Return, ReturnFromInterrupt, Push, Pull, Break}
use Rattle.cpu_core.specs.Kinds.{kind_of}
use Rattle.cpu_core.specs.declared.replay.Next.{Next}
use Rattle.cpu_core.specs.declared.replay.Next.TheVariants.{Read, Write, End}
use Rattle.cpu_core.specs.Registers.{RegistersValue, registers_of, at_boundary, jammed_on}
use Rattle.cpu_core.specs.BusCycles.{Access, read_of, BusCycles, finish, read, write, EndsRunning}
use Rattle.cpu_core.specs.Operations.{is_taken}
use Rattle.cpu_core.specs.Patterns.{address_of, ends_with, dummy_read, landed, target_of, indexed, directly_addressed, addressed}
use Rattle.cpu_core.specs.Patterns.{is_accumulator, executed_by, row_cycles, modify_a_cycles, read_modify_write_cycles}
use Rattle.cpu_core.specs.Sequences.{start_of, cycles_of, after, head_of, next_of, IsAccess, Moves}
use Rattle.cpu_core.specs.Places.{IsPlace, given_by, stopped, standing, Gone, Fetches, BeginsWith}

either_ends : (b : Bool) (c d : BusCycles) → EndsRunning c → EndsRunning d → EndsRunning (if b then c else d)
either_ends true c d h k = h
either_ends false c d h k = k

indexed_ends : (low high index : ℕ) (always : Bool) (k : ℕ → BusCycles) → ((a : ℕ) → EndsRunning (k a)) → EndsRunning (indexed low high index always k)
indexed_ends low high index always k h = either_ends (always || nat_lt 255 (low + index)) _ _ (λ _. h _) (h _)

abbrev fetched_once : RegistersValue → RegistersValue
fetched_once r = record r { pc = (r.pc + 1) % 65536 }

abbrev fetched_twice : RegistersValue → RegistersValue
fetched_twice r = fetched_once (fetched_once r)

direct_ends : (mode : Mode) (always : Bool) (r : RegistersValue) (k : RegistersValue → ℕ → BusCycles)
    → ((s : RegistersValue) (a : ℕ) → EndsRunning (k s a)) → EndsRunning (directly_addressed mode always r k)
direct_ends Immediate always r k h = h _ _
direct_ends ZeroPage always r k h = λ _. h _ _
direct_ends ZeroPageX always r k h = λ _ _. h _ _
direct_ends ZeroPageY always r k h = λ _ _. h _ _
direct_ends Absolute always r k h = λ _ _. h _ _
direct_ends AbsoluteX always r k h = λ low high. indexed_ends low high r.x always (k (fetched_twice r)) (h (fetched_twice r))
direct_ends AbsoluteY always r k h = λ low high. indexed_ends low high r.y always (k (fetched_twice r)) (h (fetched_twice r))
direct_ends _ always r k h = h _ _

addressed_ends : (mode : Mode) (always : Bool) (r : RegistersValue) (k : RegistersValue → ℕ → BusCycles)
    → ((s : RegistersValue) (a : ℕ) → EndsRunning (k s a)) → EndsRunning (addressed mode always r k)
addressed_ends IndirectX always r k h = λ _ _ _ _. h _ _
addressed_ends IndirectY always r k h = λ _ low high. indexed_ends low high r.y always (k (fetched_once r)) (h (fetched_once r))
addressed_ends mode always r k h = direct_ends mode always r k h

jump_ends : (op : Op) (mode : Mode) (r : RegistersValue) → EndsRunning (executed_by Jump op mode r)
jump_ends op Indirect r = λ _ _ _ _. refl
jump_ends op _ r = λ _ _. refl

branch_ends : (op : Op) (r : RegistersValue) (offset : ℕ)
    → EndsRunning (if is_taken op r.p then dummy_read r.pc (landed r (target_of r.pc offset)) else ends_with r)
branch_ends op r offset =
    either_ends (is_taken op r.p) (dummy_read r.pc (landed r (target_of r.pc offset))) (ends_with r)
    (λ _. either_ends (target_of r.pc offset / 256 == r.pc / 256) (ends_with (record r { pc = target_of r.pc offset }))
    (read (address_of (target_of r.pc offset % 256) (r.pc / 256)) (λ _. ends_with (record r { pc = target_of r.pc offset }))) refl (λ _. refl)) refl

executed_ends : (kind : Kind) (op : Op) (mode : Mode) (r : RegistersValue) → EndsRunning (executed_by kind op mode r)
executed_ends Load op mode r = addressed_ends mode false r _ (λ _ _ _. refl)
executed_ends Store op mode r = addressed_ends mode true r _ (λ _ _. refl)
executed_ends ReadModifyWrite op mode r =
    either_ends (is_accumulator mode) (modify_a_cycles op r) (read_modify_write_cycles op mode r) (λ _. refl)
    (direct_ends mode true r _ (λ _ _ _. refl))
executed_ends Implied op mode r = λ _. refl
executed_ends Branch op mode r = λ offset. branch_ends op (fetched_once r) offset
executed_ends Jump op mode r = jump_ends op mode r
executed_ends Call op mode r = λ _ _ _. refl
executed_ends Return op mode r = λ _ _ _ _ _. refl
executed_ends ReturnFromInterrupt op mode r = λ _ _ _ _ _. refl
executed_ends Push op mode r = λ _. refl
executed_ends Pull op mode r = λ _ _ _. refl
executed_ends Break op mode r = λ _ _ _. refl

-- a documented opcode doesn't jam
row_ends : (r : RegistersValue) (o : ℕ) (row : Option (Op × Mode)) → row ≢ None → EndsRunning (row_cycles r o row)
row_ends r o None h = absurd (h refl)
row_ends r o (Some row) h = executed_ends (kind_of row.0) row.0 row.1 _

after_ends : (c : BusCycles) (bytes : List ℕ) → EndsRunning c → EndsRunning (after c bytes)
after_ends c [] h = h
after_ends (finish e) (b ∷ bytes) h = h
after_ends (read a k) (b ∷ bytes) h = after_ends (k b) bytes (h b)
after_ends (write a v c) (b ∷ bytes) h = after_ends c bytes h

head_ends : (c : BusCycles) (e : CpuValue) → EndsRunning c → head_of c ≡ End e → e.jam ≡ None
head_ends (finish f) e h k = let same : f ≡ e = cc in subst (λ (x : CpuValue). x.jam ≡ None) same h
head_ends (read a k) e h p = absurd (cc)
head_ends (write a v c) e h p = absurd (cc)

-- where a sequence doesn't begin with an undocumented opcode, it doesn't end by a jam
ends_running : (r : RegistersValue) (q : Sequence) (bytes : List ℕ) → 1 ≤ length bytes → (q ≡ Opcode → row_of (slice_index bytes 0) ≢ None)
    → (e : CpuValue) → next_of r q bytes ≡ End e → e.jam ≡ None
unfolding next_of
ends_running r q [] started h e k = absurd (omega arith)
ends_running r Opcode (o ∷ bytes) started h e k =
    head_ends (after (row_cycles r o (row_of o)) bytes) e (after_ends _ bytes (row_ends r o (row_of o) (h refl))) k
ends_running r Interrupt (o ∷ bytes) started h e k =
    head_ends (after (cycles_of r Interrupt) (o ∷ bytes)) e (after_ends (cycles_of r Interrupt) (o ∷ bytes) (λ _ _ _ _. refl)) k
ends_running r Reset (o ∷ bytes) started h e k =
    head_ends (after (cycles_of r Reset) (o ∷ bytes)) e (after_ends (cycles_of r Reset) (o ∷ bytes) (λ _ _ _ _ _ _ _. refl)) k

stopped_running : (r : RegistersValue) (q : Sequence) (bytes : List ℕ) (n : Next) → ((e : CpuValue) → n ≡ End e → e.jam ≡ None)
    → (stopped r q bytes n).jam ≡ None
stopped_running r q bytes (Read a) h = refl
stopped_running r q bytes (Write a v) h = refl
stopped_running r q bytes (End e) h = h e refl

-- after a first byte that is no undocumented opcode the processor isn't jammed
pub standing_running : (r : RegistersValue) (q : Sequence) (bytes : List ℕ) → 1 ≤ length bytes → (q ≡ Opcode → row_of (slice_index bytes 0) ≢ None)
    → (standing r q bytes).jam ≡ None
standing_running r q bytes started h = stopped_running r q bytes (next_of r q bytes) (ends_running r q bytes started h)

first_of_taken : (n : ℕ) (bytes more : List ℕ) → 1 ≤ length (take n bytes) → slice_index (take n bytes ++ more) 0 ≡ slice_index bytes 0
first_of_taken zero bytes more h = absurd (omega arith)
first_of_taken (suc n) [] more h = absurd (omega arith)
first_of_taken (suc n) (b ∷ bytes) more h = refl

-- a sequence that is gone on with doesn't jam
pub resumed_running : (r : RegistersValue) (m : MidValue) (more : List ℕ) → IsPlace r m → length m.bytes ≡ 6
    → (standing r m.sequence (given_by m ++ more)).jam ≡ None
resumed_running r m more place six =
    let started : 1 ≤ length (take m.count m.bytes) =
    let short : m.count ≤ length m.bytes = omega (arith, place.short) in
    omega (arith, length-take-le m.count m.bytes short, place.started) in
    let first : slice_index (given_by m ++ more) 0 ≡ slice_index m.bytes 0 = first_of_taken m.count m.bytes more started in
    standing_running r m.sequence (given_by m ++ more)
    (rw length-append (omega arith))
    (λ e. subst (λ (o : ℕ). row_of o ≢ None) (sym first) (place.documented e))

pub resumed_jam : {S : Type 0} (step : Access → S → S → Type 0) (r : RegistersValue) (m : MidValue) (now : List ℕ) (made : ℕ) (s t : S) (e : CpuValue)
    → IsPlace r m → length m.bytes ≡ 6 → Gone step r m.sequence (given_by m) now made s t → e ≡ standing r m.sequence now → e.jam ≡ None
resumed_jam step r m now made s t e place six g h =
    ap (λ (x : CpuValue). x.jam) (h ∙ ap (standing r m.sequence) g.seen) ∙ resumed_running r m g.more place six

-- an undocumented opcode is the only access
jammed_at : {S : Type 0} (step : Access → S → S → Type 0) (r : RegistersValue) (o : ℕ) (rest : List ℕ) (s t : S) (e : CpuValue)
    → next_of r Opcode (o ∷ []) ≡ End (jammed_on r o) → Moves step r Opcode (o ∷ []) rest s t → e ≡ standing r Opcode (o ∷ rest)
    → (t ≡ s) × (e ≡ jammed_on r o)
jammed_at step r o [] s t e n moves h = (moves, h ∙ ap (stopped r Opcode (o ∷ [])) n)
jammed_at step r o (v ∷ rest) s t e n moves h = absurd (subst (λ (x : Next). IsAccess x v moves.0) n moves.2)

outcome_of : {S : Type 0} (step : Access → S → S → Type 0) (r : RegistersValue) (o : ℕ) (rest : List ℕ) (s t : S) (e : CpuValue) (row : Option (Op × Mode))
    → row_of o ≡ row → (row ≡ None → next_of r Opcode (o ∷ []) ≡ End (jammed_on r o))
    → Moves step r Opcode (o ∷ []) rest s t → e ≡ standing r Opcode (o ∷ rest)
    → MatchOption row ((t ≡ s) × (e ≡ jammed_on r o)) (λ _. e.jam ≡ None)
outcome_of step r o rest s t e None k n moves h = jammed_at step r o rest s t e (n refl) moves h
outcome_of step r o rest s t e (Some row) k n moves h =
    ap (λ (x : CpuValue). x.jam) h
    ∙ standing_running r Opcode (o ∷ rest) (omega arith) (λ _ none. some_not_none row (sym k ∙ none))
  where
    some_not_none : (row : Op × Mode) → Some row ≡ None → ⊥
    some_not_none row h = cc

next_jam : (r : RegistersValue) (o : ℕ) → row_of o ≡ None → next_of r Opcode (o ∷ []) ≡ End (jammed_on r o)
unfolding next_of
next_jam r o h = ap (λ (row : Option (Op × Mode)). head_of (row_cycles r o row)) h

first_read : {S : Type 0} (step : Access → S → S → Type 0) (r : RegistersValue) (o : ℕ) (x : Access) (s m : S)
    → IsAccess (next_of r Opcode []) o x → step x s m → step (read_of r.pc o) s m
unfolding next_of
first_read step r o x s m a st = subst (λ (x : Access). step x s m) a st

fetches_by : {S : Type 0} (step : Access → S → S → Type 0) (r : RegistersValue) (more : List ℕ) (s t : S) (e : CpuValue)
    → 1 ≤ length more → Moves step r Opcode [] more s t → e ≡ standing r Opcode more → Fetches step (at_boundary r) s t e
fetches_by step r [] s t e some moves h = absurd (omega arith)
fetches_by step r (o ∷ rest) s t e some moves h =
    record {
      opcode = o;
      next = moves.1;
      access = first_read step r o moves.0 s moves.1 moves.2 moves.3;
      outcome = outcome_of step r o rest moves.1 t e (row_of o) refl (next_jam r o) moves.4 h;
    }

-- a processor between two sequences is its registers
at_rest : (c : CpuValue) → c.jam ≡ None → c.mid ≡ None → at_boundary (registers_of c) ≡ c
at_rest c jam mid =
    ap (λ (j : Option ℕ). record (at_boundary (registers_of c)) { jam = j }) (sym jam)
    ∙ ap (λ (m : Option MidValue). record (at_boundary (registers_of c)) { jam = c.jam; mid = m }) (sym mid)

-- how a sequence begins from these registers
started_jam : {S : Type 0} (step : Access → S → S → Type 0) (q : Sequence) (r : RegistersValue) (now : List ℕ) (made : ℕ) (s t : S) (e : CpuValue)
    → 1 ≤ length now → Gone step r q [] now made s t → e ≡ standing r q now → BeginsWith step q (at_boundary r) s t e
started_jam step Opcode r now made s t e some g h =
    fetches_by step r g.more s t e (subst (λ (xs : List ℕ). 1 ≤ length xs) g.seen some) g.moves (h ∙ ap (standing r Opcode) g.seen)
started_jam step Interrupt r now made s t e some g h =
    ap (λ (x : CpuValue). x.jam) h ∙ standing_running r Interrupt now some (λ h. absurd (cc))
started_jam step Reset r now made s t e some g h =
    ap (λ (x : CpuValue). x.jam) h ∙ standing_running r Reset now some (λ h. absurd (cc))

pub begins_by : {S : Type 0} (step : Access → S → S → Type 0) (q : Sequence) (r : RegistersValue) (given now bytes : List ℕ) (made : ℕ) (s t : S) (e : CpuValue)
    → Gone step r q given now made s t → e ≡ standing r q bytes → given ≡ [] → bytes ≡ now → 1 ≤ length now → BeginsWith step q (at_boundary r) s t e
begins_by step q r given now bytes made s t e g h eg eb some =
    started_jam step q r now made s t e some (subst (λ (xs : List ℕ). Gone step r q xs now made s t) eg g) (h ∙ ap (standing r q) eb)

pub begins_at_rest : {S : Type 0} (step : Access → S → S → Type 0) (q : Sequence) (c : CpuValue) (r : RegistersValue) (s t : S) (e : CpuValue)
    → BeginsWith step q (at_boundary r) s t e → r ≡ start_of q c → c.jam ≡ None → c.mid ≡ None → BeginsWith step q c s t e
begins_at_rest step Opcode c r s t e b h jam mid =
    subst (λ (d : CpuValue). Fetches step d s t e) (ap (λ (x : RegistersValue). at_boundary x) h ∙ at_rest c jam mid) b
begins_at_rest step Interrupt c r s t e b h jam mid = b
begins_at_rest step Reset c r s t e b h jam mid = b

pub resumes_by : {S : Type 0} (step : Access → S → S → Type 0) (m : MidValue) (r : RegistersValue) (given now bytes : List ℕ) (made : ℕ) (s t : S) (e : CpuValue)
    → Gone step r m.sequence given now made s t → e ≡ standing r m.sequence bytes → given ≡ given_by m → bytes ≡ now → IsPlace r m → length m.bytes ≡ 6
    → e.jam ≡ None
resumes_by step m r given now bytes made s t e g h eg eb place six =
    resumed_jam step r m now made s t e place six (subst (λ (xs : List ℕ). Gone step r m.sequence xs now made s t) eg g)
    (h ∙ ap (standing r m.sequence) eb)
