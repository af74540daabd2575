-- The accesses of each instruction and sequence, clock by clock (MCS6500 Hardware Manual,
-- appendix A). That an undocumented opcode stops the processor, and that a reset reads pc five
-- times before the vector, are this project's own choice. The operation is a parameter of each
-- pattern.
use Rattle.std.specs.Prelude.{◌+◌, ◌*◌, ◌/◌, ◌%◌, ◌==◌, ◌||◌, ℕ, Bool, true, false, nat_lt, if◌then◌else◌, Option, Some, None}
use Rattle.cpu_table.specs.declared.instruction.Op.{Op}
use Rattle.cpu_table.specs.declared.instruction.Mode.{Mode}
use Rattle.cpu_table.specs.declared.instruction.Mode.TheVariants.{Accumulator, Immediate, ZeroPage, ZeroPageX, ZeroPageY, Absolute, AbsoluteX, AbsoluteY, Indirect, IndirectX, IndirectY}
use Rattle.cpu_table.specs.Opcodes.{row_of}
use Rattle.cpu_core.specs.declared.operations.Kind.{Kind}
use Rattle.cpu_core.specs.declared.operations.Kind.TheVariants.{Load, Store, ReadModifyWrite, Implied, Branch, Jump, Call, Return, ReturnFromInterrupt, Push, Pull, Break}
use Rattle.cpu_core.specs.Kinds.{kind_of}
use Rattle.cpu_core.specs.Registers.{RegistersValue, at_boundary, jammed_on, stack_address}
use Rattle.cpu_core.specs.BusCycles.{BusCycles, finish, read, write}
use Rattle.cpu_core.specs.Operations.{loaded, stored, modified, worked_alone, is_taken, flags_by_program, flags_by_interrupt, pushed, pulled_flags, pulled, masked}

-- the address with this low and this high byte
abbrev pub address_of : ℕ → ℕ → ℕ
address_of low high = low + 256 * high

-- the end of an instruction or a sequence
abbrev pub ends_with : RegistersValue → BusCycles
ends_with r = finish (at_boundary r)

-- the byte at pc is read, and pc raised
abbrev pub fetched : RegistersValue → (RegistersValue → ℕ → BusCycles) → BusCycles
fetched r k = read r.pc (λ b. k (record r { pc = (r.pc + 1) % 65536 }) b)

-- the byte at an address is read and dropped
abbrev pub dummy_read : ℕ → BusCycles → BusCycles
dummy_read address c = read address (λ _. c)

-- a byte is written at the stack pointer, which is lowered
abbrev pub pushing : RegistersValue → ℕ → (RegistersValue → BusCycles) → BusCycles
pushing r v k = write (stack_address r) v (k (record r { s = (r.s + 255) % 256 }))

-- the stack pointer is raised, and the byte there read
abbrev pub pulling : RegistersValue → (RegistersValue → ℕ → BusCycles) → BusCycles
pulling r k = read (256 + (r.s + 1) % 256) (λ v. k (record r { s = (r.s + 1) % 256 }) v)

-- the two bytes of an address in the zero page, which has no carry out of it
abbrev pub pointed : ℕ → (ℕ → ℕ → BusCycles) → BusCycles
pointed b k = read b (λ low. read ((b + 1) % 256) (λ high. k low high))

-- an address plus an index: where the page is crossed, or always, the byte at the address with the
-- old page is read and dropped first
abbrev pub indexed : ℕ → ℕ → ℕ → Bool → (ℕ → BusCycles) → BusCycles
indexed low high index always k =
    if always || nat_lt 255 (low + index)
    then dummy_read (address_of ((low + index) % 256) high) (k ((address_of low high + index) % 65536))
    else k ((address_of low high + index) % 65536)

-- the address of the operand, in the modes without a pointer; an immediate operand is the byte at
-- pc
abbrev pub directly_addressed : Mode → Bool → RegistersValue → (RegistersValue → ℕ → BusCycles) → BusCycles
directly_addressed Immediate always r k = k (record r { pc = (r.pc + 1) % 65536 }) r.pc
directly_addressed ZeroPage always r k = fetched r k
directly_addressed ZeroPageX always r k =
    fetched r (λ r1 b. dummy_read b (k r1 ((b + r1.x) % 256)))
directly_addressed ZeroPageY always r k =
    fetched r (λ r1 b. dummy_read b (k r1 ((b + r1.y) % 256)))
directly_addressed Absolute always r k =
    fetched r (λ r1 low. fetched r1 (λ r2 high. k r2 (address_of low high)))
directly_addressed AbsoluteX always r k =
    fetched r (λ r1 low. fetched r1 (λ r2 high. indexed low high r2.x always (k r2)))
directly_addressed AbsoluteY always r k =
    fetched r (λ r1 low. fetched r1 (λ r2 high. indexed low high r2.y always (k r2)))
directly_addressed _ always r k = k r 0

-- the address of the operand; a store or a change of the operand makes the dropped read always
abbrev pub addressed : Mode → Bool → RegistersValue → (RegistersValue → ℕ → BusCycles) → BusCycles
addressed IndirectX always r k =
    fetched r (λ r1 b. dummy_read b (pointed ((b + r1.x) % 256) (λ low high. k r1 (address_of low high))))
addressed IndirectY always r k =
    fetched r (λ r1 b. pointed b (λ low high. indexed low high r1.y always (k r1)))
addressed mode always r k = directly_addressed mode always r k

-- the operand is read
abbrev pub load_cycles : Op → Mode → RegistersValue → BusCycles
load_cycles op mode r = addressed mode false r (λ r1 address. read address (λ m. ends_with (loaded op m r1)))

-- a register is written
abbrev pub store_cycles : Op → Mode → RegistersValue → BusCycles
store_cycles op mode r = addressed mode true r (λ r1 address. write address (stored op r1) (ends_with r1))

-- A is changed
abbrev pub modify_a_cycles : Op → RegistersValue → BusCycles
modify_a_cycles op r =
    dummy_read r.pc (ends_with (record r { a = (modified op r.a r.p).0; p = (modified op r.a r.p).1 }))

-- a byte of memory is changed; the old byte is written before the new one
abbrev pub read_modify_write_cycles : Op → Mode → RegistersValue → BusCycles
read_modify_write_cycles op mode r =
    directly_addressed mode true r (λ r1 address. read address (λ m. write address m
    (write address (modified op m r1.p).0 (ends_with (record r1 { p = (modified op m r1.p).1 })))))

-- an operation on registers alone
abbrev pub implied_cycles : Op → RegistersValue → BusCycles
implied_cycles op r = dummy_read r.pc (ends_with (worked_alone op r))

-- where a branch goes: the offset is signed
abbrev pub target_of : ℕ → ℕ → ℕ
target_of pc offset = (pc + offset + (if nat_lt offset 128 then 0 else 65280)) % 65536

-- a jump within the page of pc, or to another page, with one dropped read more
abbrev pub landed : RegistersValue → ℕ → BusCycles
landed r target =
    if target / 256 == r.pc / 256
    then ends_with (record r { pc = target })
    else dummy_read (address_of (target % 256) (r.pc / 256)) (ends_with (record r { pc = target }))

-- the offset is read; the jump goes from the pc after it
abbrev pub branch_cycles : Op → RegistersValue → BusCycles
branch_cycles op r = fetched r (λ r1 offset.
    if is_taken op r1.p then dummy_read r1.pc (landed r1 (target_of r1.pc offset)) else ends_with r1)

-- a jump; the second byte of the pointer of an indirect one is in the page of the first
abbrev pub jump_cycles : Mode → RegistersValue → BusCycles
jump_cycles Indirect r = fetched r (λ r1 low. fetched r1 (λ r2 high.
    read (address_of low high) (λ target_low. read (address_of ((low + 1) % 256) high) (λ target_high.
    ends_with (record r2 { pc = address_of target_low target_high })))))
jump_cycles _ r = fetched r (λ r1 low. read r1.pc (λ high. ends_with (record r1 { pc = address_of low high })))

-- JSR: the address of its own last byte is pushed before that byte is read
abbrev pub jsr_cycles : RegistersValue → BusCycles
jsr_cycles r = fetched r (λ r1 low. dummy_read (stack_address r1)
    (pushing r1 (r1.pc / 256) (λ r2. pushing r2 (r2.pc % 256) (λ r3.
    read r3.pc (λ high. ends_with (record r3 { pc = address_of low high }))))))

-- RTS: execution goes on after the address pulled
abbrev pub rts_cycles : RegistersValue → BusCycles
rts_cycles r = dummy_read r.pc (dummy_read (stack_address r)
    (pulling r (λ r1 low. pulling r1 (λ r2 high.
    dummy_read (address_of low high) (ends_with (record r2 { pc = (address_of low high + 1) % 65536 }))))))

-- RTI: the flags come before the address
abbrev pub rti_cycles : RegistersValue → BusCycles
rti_cycles r = dummy_read r.pc (dummy_read (stack_address r)
    (pulling r (λ r1 flags. pulling (record r1 { p = pulled_flags flags }) (λ r2 low. pulling r2 (λ r3 high.
    ends_with (record r3 { pc = address_of low high }))))))

-- PHA and PHP
abbrev pub push_cycles : Op → RegistersValue → BusCycles
push_cycles op r = dummy_read r.pc (pushing r (pushed op r) ends_with)

-- PLA and PLP
abbrev pub pull_cycles : Op → RegistersValue → BusCycles
pull_cycles op r = dummy_read r.pc (dummy_read (stack_address r) (pulling r (λ r1 m. ends_with (pulled op m r1))))

-- pc comes from the two bytes at an address
abbrev pub vectored : ℕ → RegistersValue → BusCycles
vectored at r = read at (λ low. read (at + 1) (λ high. ends_with (record r { pc = address_of low high })))

-- pc and these flags are pushed, interrupts are masked, and pc comes from the vector at FFFE
abbrev pub interrupted : ℕ → RegistersValue → BusCycles
interrupted flags r =
    pushing r (r.pc / 256) (λ r1. pushing r1 (r1.pc % 256) (λ r2. pushing r2 flags (λ r3.
    vectored 65534 (record r3 { p = masked r3.p }))))

-- BRK: the byte after the opcode is read and dropped, and the pc after it is pushed
abbrev pub brk_cycles : RegistersValue → BusCycles
brk_cycles r = fetched r (λ r1 _. interrupted (flags_by_program r1.p) r1)

-- the operand is A
abbrev pub is_accumulator : Mode → Bool
is_accumulator Accumulator = true
is_accumulator _ = false

-- what follows the opcode of a documented instruction
abbrev pub executed_by : Kind → Op → Mode → RegistersValue → BusCycles
executed_by Load op mode r = load_cycles op mode r
executed_by Store op mode r = store_cycles op mode r
executed_by ReadModifyWrite op mode r = if is_accumulator mode then modify_a_cycles op r else read_modify_write_cycles op mode r
executed_by Implied op mode r = implied_cycles op r
executed_by Branch op mode r = branch_cycles op r
executed_by Jump op mode r = jump_cycles mode r
executed_by Call op mode r = jsr_cycles r
executed_by Return op mode r = rts_cycles r
executed_by ReturnFromInterrupt op mode r = rti_cycles r
executed_by Push op mode r = push_cycles op r
executed_by Pull op mode r = pull_cycles op r
executed_by Break op mode r = brk_cycles r

-- what follows an opcode: an undocumented one stops the processor, with pc at the opcode
abbrev pub row_cycles : RegistersValue → ℕ → Option (Op × Mode) → BusCycles
row_cycles r o None = finish (jammed_on r o)
row_cycles r o (Some row) = executed_by (kind_of row.0) row.0 row.1 (record r { pc = (r.pc + 1) % 65536 })

-- an instruction
abbrev pub instruction_cycles : RegistersValue → BusCycles
instruction_cycles r = read r.pc (λ o. row_cycles r o (row_of o))

-- the interrupt: two dropped reads at pc, and then as BRK with its bit clear
abbrev pub interrupt_cycles : RegistersValue → BusCycles
interrupt_cycles r = dummy_read r.pc (dummy_read r.pc (interrupted (flags_by_interrupt r.p) r))

-- the reset: five dropped reads at pc, and then pc comes from the vector at FFFC
abbrev pub reset_cycles : RegistersValue → BusCycles
reset_cycles r = dummy_read r.pc (dummy_read r.pc (dummy_read r.pc (dummy_read r.pc (dummy_read r.pc (vectored 65532 r)))))
