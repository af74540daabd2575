-- How many accesses a sequence has: at most 7, and at least 2 unless it ends by a jam.
use Rattle.std.proofs.Common.{◌<◌, ◌+◌, ◌/◌, ◌%◌, ◌==◌, ℕ, zero, suc, Bool, true, false, List, [], ◌∷◌, length, Option, Some, None, if◌then◌else◌, ◌||◌, nat_lt, refl, arith}
use Rattle.board_base.specs.declared.cpu.Sequence.{Sequence}
use Rattle.board_base.specs.declared.cpu.Sequence.TheVariants.{Opcode, Interrupt, Reset}
use Rattle.cpu_table.specs.declared.instruction.Op.{Op}
use Rattle.cpu_table.specs.declared.instruction.Mode.{Mode}
use Rattle.cpu_table.specs.declared.instruction.Mode.TheVariants.{Immediate, ZeroPage, ZeroPageX, ZeroPageY, Absolute, AbsoluteX, AbsoluteY, Indirect, IndirectX, IndirectY}
use Rattle.cpu_table.specs.Opcodes.{row_of}
use Rattle.cpu_core.specs.declared.operations.Kind.{Kind}
use Rattle.cpu_core.specs.declared.operations.Kind.TheVariants.{Load, Store, ReadModifyWrite, Implied, Branch, Jump, Call, Return, ReturnFromInterrupt, Push, Pull, Break}
use Rattle.cpu_core.specs.Kinds.{kind_of}
use Rattle.cpu_core.specs.Registers.{RegistersValue}
use Rattle.cpu_core.specs.BusCycles.{BusCycles, finish, read, write, AtMost, AtLeast}
use Rattle.cpu_core.specs.Operations.{is_taken}
use Rattle.cpu_core.specs.Patterns.{address_of, load_cycles, store_cycles, indexed, directly_addressed, addressed, is_accumulator, executed_by}
use Rattle.cpu_core.specs.Patterns.{row_cycles, modify_a_cycles, read_modify_write_cycles, landed, target_of, ends_with, dummy_read}
use Rattle.cpu_core.specs.Sequences.{cycles_of, after, head_of, next_of, IsEnd}

-- a bound may be raised
weaken : (n : ℕ) (c : BusCycles) → AtMost n c → AtMost (suc n) c
weaken n (finish e) h = tt
weaken zero (read a k) h = absurd h
weaken (suc n) (read a k) h = λ v. weaken n (k v) (h v)
weaken zero (write a v c) h = absurd h
weaken (suc n) (write a v c) h = weaken n c h

weaken3 : (n : ℕ) (c : BusCycles) → AtMost n c → AtMost (suc (suc (suc n))) c
weaken3 n c h = weaken (suc (suc n)) c (weaken (suc n) c (weaken n c h))

either_short : (b : Bool) (n : ℕ) (c d : BusCycles) → AtMost n c → AtMost n d → AtMost n (if b then c else d)
either_short true n c d h k = h
either_short false n c d h k = k

indexed_short : (low high index : ℕ) (always : Bool) (k : ℕ → BusCycles) (n : ℕ) → ((a : ℕ) → AtMost n (k a)) → AtMost (suc n) (indexed low high index always k)
indexed_short low high index always k n h =
    either_short (always || nat_lt 255 (low + index)) (suc n) _ _ (λ _. h _) (weaken n _ (h _))

direct_short : (mode : Mode) (always : Bool) (r : RegistersValue) (k : RegistersValue → ℕ → BusCycles) (n : ℕ)
    → ((s : RegistersValue) (a : ℕ) → AtMost n (k s a)) → AtMost (suc (suc (suc n))) (directly_addressed mode always r k)
direct_short Immediate always r k n h = weaken3 n _ (h _ _)
direct_short ZeroPage always r k n h = λ _. weaken (suc n) _ (weaken n _ (h _ _))
direct_short ZeroPageX always r k n h = λ _ _. weaken n _ (h _ _)
direct_short ZeroPageY always r k n h = λ _ _. weaken n _ (h _ _)
direct_short Absolute always r k n h = λ _ _. weaken n _ (h _ _)
direct_short AbsoluteX always r k n h = λ low high. indexed_short low high _ always _ n (h _)
direct_short AbsoluteY always r k n h = λ low high. indexed_short low high _ always _ n (h _)
direct_short _ always r k n h = weaken3 n _ (h _ _)

addressed_short : (mode : Mode) (always : Bool) (r : RegistersValue) (k : RegistersValue → ℕ → BusCycles) (n : ℕ)
    → ((s : RegistersValue) (a : ℕ) → AtMost n (k s a)) → AtMost (suc (suc (suc (suc n)))) (addressed mode always r k)
addressed_short IndirectX always r k n h = λ _ _ _ _. h _ _
addressed_short IndirectY always r k n h = λ b low high. indexed_short low high _ always _ n (h _)
addressed_short mode always r k n h = weaken (suc (suc (suc n))) (directly_addressed mode always r k) (direct_short mode always r k n h)

modify_short : (op : Op) (mode : Mode) (r : RegistersValue) → AtMost 6 (executed_by ReadModifyWrite op mode r)
modify_short op mode r =
    either_short (is_accumulator mode) 6 (modify_a_cycles op r) (read_modify_write_cycles op mode r) (λ _. tt)
    (direct_short mode true r _ 3 (λ _ _ _. tt))

landed_short : (r : RegistersValue) (target : ℕ) → AtMost 4 (landed r target)
landed_short r target =
    either_short (target / 256 == r.pc / 256) 4 (ends_with (record r { pc = target }))
    (read (address_of (target % 256) (r.pc / 256)) (λ _. ends_with (record r { pc = target }))) tt (λ _. tt)

branch_short : (op : Op) (mode : Mode) (r : RegistersValue) → AtMost 6 (executed_by Branch op mode r)
branch_short op mode r = λ offset.
    let s : RegistersValue = record r { pc = (r.pc + 1) % 65536 } in
    either_short (is_taken op r.p) 5 (dummy_read s.pc (landed s (target_of s.pc offset))) (ends_with s)
    (λ _. landed_short s (target_of s.pc offset)) tt

jump_short : (op : Op) (mode : Mode) (r : RegistersValue) → AtMost 6 (executed_by Jump op mode r)
jump_short op Indirect r = λ _ _ _ _. tt
jump_short op _ r = λ _ _. tt

executed_short : (kind : Kind) (op : Op) (mode : Mode) (r : RegistersValue) → AtMost 6 (executed_by kind op mode r)
executed_short Load op mode r = weaken 5 (load_cycles op mode r) (addressed_short mode false r _ 1 (λ _ _ _. tt))
executed_short Store op mode r = weaken 5 (store_cycles op mode r) (addressed_short mode true r _ 1 (λ _ _. tt))
executed_short ReadModifyWrite op mode r = modify_short op mode r
executed_short Implied op mode r = λ _. tt
executed_short Branch op mode r = branch_short op mode r
executed_short Jump op mode r = jump_short op mode r
executed_short Call op mode r = λ _ _ _. tt
executed_short Return op mode r = λ _ _ _ _ _. tt
executed_short ReturnFromInterrupt op mode r = λ _ _ _ _ _. tt
executed_short Push op mode r = λ _. tt
executed_short Pull op mode r = λ _ _ _. tt
executed_short Break op mode r = λ _ _ _. tt

row_short : (r : RegistersValue) (o : ℕ) (row : Option (Op × Mode)) → AtMost 6 (row_cycles r o row)
row_short r o None = tt
row_short r o (Some row) = executed_short (kind_of row.0) row.0 row.1 _

-- no sequence has more than 7 accesses
pub at_most_seven : (r : RegistersValue) (q : Sequence) → AtMost 7 (cycles_of r q)
at_most_seven r Opcode = λ o. row_short r o (row_of o)
at_most_seven r Interrupt = λ _ _ _ _. tt
at_most_seven r Reset = λ _ _ _ _ _ _ _. tt

-- before the end fewer bytes are seen than there may be bus cycles
due_short : (n : ℕ) (c : BusCycles) (bytes : List ℕ) → AtMost n c → (IsEnd (head_of (after c bytes)) → ⊥) → length bytes < n
due_short n (finish e) [] h due = absurd (due tt)
due_short n (finish e) (b ∷ bytes) h due = absurd (due tt)
due_short zero (read a k) bytes h due = absurd h
due_short (suc n) (read a k) [] h due = omega arith
due_short (suc n) (read a k) (b ∷ bytes) h due = omega (arith, due_short n (k b) bytes (h b) due)
due_short zero (write a v c) bytes h due = absurd h
due_short (suc n) (write a v c) [] h due = omega arith
due_short (suc n) (write a v c) (b ∷ bytes) h due = omega (arith, due_short n c bytes h due)

-- where an access is still due, at most six were made
pub six_before_end : (r : RegistersValue) (q : Sequence) (bytes : List ℕ) → (IsEnd (next_of r q bytes) → ⊥) → length bytes < 7
unfolding next_of
six_before_end r q bytes due = due_short 7 (cycles_of r q) bytes (at_most_seven r q) due

either_long : (b : Bool) (n : ℕ) (c d : BusCycles) → AtLeast n c → AtLeast n d → AtLeast n (if b then c else d)
either_long true n c d h k = h
either_long false n c d h k = k

direct_long : (mode : Mode) (always : Bool) (r : RegistersValue) (k : RegistersValue → ℕ → BusCycles)
    → ((s : RegistersValue) (a : ℕ) → AtLeast 1 (k s a)) → AtLeast 1 (directly_addressed mode always r k)
direct_long Immediate always r k h = h _ _
direct_long ZeroPage always r k h = λ _. tt
direct_long ZeroPageX always r k h = λ _. tt
direct_long ZeroPageY always r k h = λ _. tt
direct_long Absolute always r k h = λ _. tt
direct_long AbsoluteX always r k h = λ _. tt
direct_long AbsoluteY always r k h = λ _. tt
direct_long _ always r k h = h _ _

addressed_long : (mode : Mode) (always : Bool) (r : RegistersValue) (k : RegistersValue → ℕ → BusCycles)
    → ((s : RegistersValue) (a : ℕ) → AtLeast 1 (k s a)) → AtLeast 1 (addressed mode always r k)
addressed_long IndirectX always r k h = λ _. tt
addressed_long IndirectY always r k h = λ _. tt
addressed_long mode always r k h = direct_long mode always r k h

jump_long : (op : Op) (mode : Mode) (r : RegistersValue) → AtLeast 1 (executed_by Jump op mode r)
jump_long op Indirect r = λ _. tt
jump_long op _ r = λ _. tt

executed_long : (kind : Kind) (op : Op) (mode : Mode) (r : RegistersValue) → AtLeast 1 (executed_by kind op mode r)
executed_long Load op mode r = addressed_long mode false r _ (λ _ _ _. tt)
executed_long Store op mode r = addressed_long mode true r _ (λ _ _. tt)
executed_long ReadModifyWrite op mode r =
    either_long (is_accumulator mode) 1 (modify_a_cycles op r) (read_modify_write_cycles op mode r) (λ _. tt)
    (direct_long mode true r _ (λ _ _ _. tt))
executed_long Implied op mode r = λ _. tt
executed_long Branch op mode r = λ _. tt
executed_long Jump op mode r = jump_long op mode r
executed_long Call op mode r = λ _. tt
executed_long Return op mode r = λ _. tt
executed_long ReturnFromInterrupt op mode r = λ _. tt
executed_long Push op mode r = λ _. tt
executed_long Pull op mode r = λ _. tt
executed_long Break op mode r = λ _. tt

row_long : (r : RegistersValue) (o : ℕ) (row : Option (Op × Mode)) → AtLeast 1 (row_cycles r o row)
row_long r o None = (o, refl)
row_long r o (Some row) = executed_long (kind_of row.0) row.0 row.1 _

-- a sequence has at least 2 accesses, unless it ends by a jam
pub at_least_two : (r : RegistersValue) (q : Sequence) → AtLeast 2 (cycles_of r q)
at_least_two r Opcode = λ o. row_long r o (row_of o)
at_least_two r Interrupt = λ _ _. tt
at_least_two r Reset = λ _ _. tt

pub ruleset lengths = (at_least_two, at_most_seven)
