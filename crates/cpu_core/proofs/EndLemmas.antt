-- Each sequence ends between two sequences, or by a jam.
use Rattle.std.proofs.Common.{◌≡◌, ◌+◌, ◌/◌, ◌%◌, ◌==◌, ℕ, Bool, true, false, List, [], ◌∷◌, Option, Some, None, if◌then◌else◌, ◌||◌, nat_lt, refl, subst}
use Rattle.board_base.specs.declared.cpu.Sequence.{Sequence}
use Rattle.board_base.specs.declared.cpu.Sequence.TheVariants.{Opcode, Interrupt, Reset}
use Rattle.board_base.specs.Cpu.{CpuValue}
use Rattle.cpu_table.specs.declared.instruction.Op.{Op}
use Rattle.cpu_table.specs.declared.instruction.Mode.{Mode}
use Rattle.cpu_table.specs.declared.instruction.Mode.TheVariants.{Immediate, ZeroPage, ZeroPageX, ZeroPageY, Absolute, AbsoluteX, AbsoluteY, Indirect, IndirectX, IndirectY}
use Rattle.cpu_table.specs.Opcodes.{row_of}
use Rattle.cpu_core.specs.declared.operations.Kind.{Kind}
use Rattle.cpu_core.specs.declared.operations.Kind.TheVariants.{Load, Store, ReadModifyWrite, Implied, Branch, Jump, Call, Return, ReturnFromInterrupt, Push, Pull, Break}
use Rattle.cpu_core.specs.Kinds.{kind_of}
use Rattle.cpu_core.specs.declared.replay.Next.TheVariants.{End}
use Rattle.cpu_core.specs.Registers.{RegistersValue}
use Rattle.cpu_core.specs.BusCycles.{BusCycles, finish, read, write}
use Rattle.cpu_core.specs.Operations.{is_taken}
use Rattle.cpu_core.specs.Patterns.{address_of, indexed, directly_addressed, addressed, is_accumulator, executed_by, row_cycles}
use Rattle.cpu_core.specs.Patterns.{modify_a_cycles, read_modify_write_cycles, landed, target_of, ends_with, dummy_read}
use Rattle.cpu_core.specs.Sequences.{cycles_of, after, head_of, next_of}

-- whatever the bytes are, the processor is inside no sequence after the last bus cycle
abbrev Closes : BusCycles → Type 0
Closes (finish e) = e.mid ≡ None
Closes (read a k) = (v : ℕ) → Closes (k v)
Closes (write a v c) = Closes c

either_closes : (b : Bool) (c d : BusCycles) → Closes c → Closes d → Closes (if b then c else d)
either_closes true c d h k = h
either_closes false c d h k = k

indexed_closes : (low high index : ℕ) (always : Bool) (k : ℕ → BusCycles) → ((a : ℕ) → Closes (k a)) → Closes (indexed low high index always k)
indexed_closes low high index always k h = either_closes (always || nat_lt 255 (low + index)) _ _ (λ _. h _) (h _)

abbrev raised : RegistersValue → RegistersValue
raised r = record r { pc = (r.pc + 1) % 65536 }

abbrev twice_raised : RegistersValue → RegistersValue
twice_raised r = raised (raised r)

direct_closes : (mode : Mode) (always : Bool) (r : RegistersValue) (k : RegistersValue → ℕ → BusCycles)
    → ((s : RegistersValue) (a : ℕ) → Closes (k s a)) → Closes (directly_addressed mode always r k)
direct_closes Immediate always r k h = h _ _
direct_closes ZeroPage always r k h = λ _. h _ _
direct_closes ZeroPageX always r k h = λ _ _. h _ _
direct_closes ZeroPageY always r k h = λ _ _. h _ _
direct_closes Absolute always r k h = λ _ _. h _ _
direct_closes AbsoluteX always r k h = λ low high. indexed_closes low high r.x always (k (twice_raised r)) (h (twice_raised r))
direct_closes AbsoluteY always r k h = λ low high. indexed_closes low high r.y always (k (twice_raised r)) (h (twice_raised r))
direct_closes _ always r k h = h _ _

addressed_closes : (mode : Mode) (always : Bool) (r : RegistersValue) (k : RegistersValue → ℕ → BusCycles)
    → ((s : RegistersValue) (a : ℕ) → Closes (k s a)) → Closes (addressed mode always r k)
addressed_closes IndirectX always r k h = λ _ _ _ _. h _ _
addressed_closes IndirectY always r k h = λ b low high. indexed_closes low high r.y always (k (raised r)) (h (raised r))
addressed_closes mode always r k h = direct_closes mode always r k h

modify_closes : (op : Op) (mode : Mode) (r : RegistersValue) → Closes (executed_by ReadModifyWrite op mode r)
modify_closes op mode r =
    either_closes (is_accumulator mode) (modify_a_cycles op r) (read_modify_write_cycles op mode r) (λ _. refl) (direct_closes mode true r _ (λ _ _ _. refl))

landed_closes : (r : RegistersValue) (target : ℕ) → Closes (landed r target)
landed_closes r target =
    either_closes (target / 256 == r.pc / 256) (ends_with (record r { pc = target }))
    (read (address_of (target % 256) (r.pc / 256)) (λ _. ends_with (record r { pc = target }))) refl (λ _. refl)

branch_closes : (op : Op) (mode : Mode) (r : RegistersValue) → Closes (executed_by Branch op mode r)
branch_closes op mode r = λ offset.
    let s : RegistersValue = record r { pc = (r.pc + 1) % 65536 } in
    either_closes (is_taken op r.p) (dummy_read s.pc (landed s (target_of s.pc offset))) (ends_with s)
    (λ _. landed_closes s (target_of s.pc offset)) refl

jump_closes : (op : Op) (mode : Mode) (r : RegistersValue) → Closes (executed_by Jump op mode r)
jump_closes op Indirect r = λ _ _ _ _. refl
jump_closes op _ r = λ _ _. refl

executed_closes : (kind : Kind) (op : Op) (mode : Mode) (r : RegistersValue) → Closes (executed_by kind op mode r)
executed_closes Load op mode r = addressed_closes mode false r _ (λ _ _ _. refl)
executed_closes Store op mode r = addressed_closes mode true r _ (λ _ _. refl)
executed_closes ReadModifyWrite op mode r = modify_closes op mode r
executed_closes Implied op mode r = λ _. refl
executed_closes Branch op mode r = branch_closes op mode r
executed_closes Jump op mode r = jump_closes op mode r
executed_closes Call op mode r = λ _ _ _. refl
executed_closes Return op mode r = λ _ _ _ _ _. refl
executed_closes ReturnFromInterrupt op mode r = λ _ _ _ _ _. refl
executed_closes Push op mode r = λ _. refl
executed_closes Pull op mode r = λ _ _ _. refl
executed_closes Break op mode r = λ _ _ _. refl

row_closes : (r : RegistersValue) (o : ℕ) (row : Option (Op × Mode)) → Closes (row_cycles r o row)
row_closes r o None = refl
row_closes r o (Some row) = executed_closes (kind_of row.0) row.0 row.1 _

cycles_closes : (r : RegistersValue) (q : Sequence) → Closes (cycles_of r q)
cycles_closes r Opcode = λ o. row_closes r o (row_of o)
cycles_closes r Interrupt = λ _ _ _ _. refl
cycles_closes r Reset = λ _ _ _ _ _ _ _. refl

after_closes : (c : BusCycles) (bytes : List ℕ) → Closes c → Closes (after c bytes)
after_closes c [] h = h
after_closes (finish e) (b ∷ bytes) h = h
after_closes (read a k) (b ∷ bytes) h = after_closes (k b) bytes (h b)
after_closes (write a v c) (b ∷ bytes) h = after_closes c bytes h

head_closes : (c : BusCycles) (e : CpuValue) → Closes c → head_of c ≡ End e → e.mid ≡ None
head_closes (finish f) e h is = let same : f ≡ e = cc in subst (λ (k : CpuValue). k.mid ≡ None) same h
head_closes (read a k) e h is = cc
head_closes (write a v c) e h is = cc

-- a processor at the end of a sequence stands inside none
pub end-closes : (r : RegistersValue) (q : Sequence) (bytes : List ℕ) (e : CpuValue) → next_of r q bytes ≡ End e → e.mid ≡ None
unfolding next_of
end-closes r q bytes e is = head_closes (after (cycles_of r q) bytes) e (after_closes (cycles_of r q) bytes (cycles_closes r q)) is
