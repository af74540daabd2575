-- The processor stays in its range, sequence by sequence: so do the bus cycles of each, whatever
-- bytes they read.
use Rattle.std.proofs.Common.{◌≡◌, ◌≤◌, ◌<◌, ◌+◌, ◌-◌, ◌*◌, ◌/◌, ◌%◌, ◌==◌, ◌||◌, ℕ, Bool, true, false, nat_lt, if◌then◌else◌, List, [], ◌∷◌}
use Rattle.std.proofs.Common.{length, Option, Some, None, IfSome, All, ℤ, pos, negsuc, bit_and, bit_or, bit_xor, refl, ap, subst, arith}
use Rattle.std.specs.Int.{from_bool}
use Rattle.std.proofs.lemmas.Nat.{and_le_l, or_lt, xor_lt}
use Rattle.std.proofs.lemmas.List.{length-append, length-drop}
use Rattle.std.proofs.lemmas.List.Elements.{All-append, All-drop, All-head, All-replicate, All-tail}
use Rattle.board_base.specs.Cpu.{CpuValue}
use Rattle.board_base.specs.declared.cpu.Sequence.{Sequence}
use Rattle.board_base.specs.declared.cpu.Sequence.TheVariants.{Opcode, Interrupt, Reset}
use Rattle.cpu_alu.specs.declared.flags.Flags.{Flags}
use Rattle.cpu_alu.specs.Arithmetic.{adc_of, binary_adc, compare_of, sbc_of}
use Rattle.cpu_alu.specs.Decimal.{decimal_adc, decimal_sbc, modulo}
use Rattle.cpu_alu.specs.Flags.{byte_of, flags_of, is_masked}
use Rattle.cpu_alu.specs.Logic.{bit_of, nz_of}
use Rattle.cpu_alu.specs.Shifts.{asl_of, left_by, lsr_of, right_by, rol_of, ror_of, shifted}
use Rattle.cpu_alu.proofs.Bytes.{left_with_one, left_with_zero, right_with_one, right_with_zero}
use Rattle.cpu_alu.proofs.StatusLemmas.{flags_of_byte}
use Rattle.cpu_table.specs.declared.instruction.Op.{Op}
use Rattle.cpu_table.specs.declared.instruction.Op.TheVariants.{Adc, And, Asl, Bit, Clc, Cld, Cli, Clv, Cmp, Cpx, Cpy, Dec, Dex, Dey, Eor, Inc, Inx, Iny, Lda, Ldx}
use Rattle.cpu_table.specs.declared.instruction.Op.TheVariants.{Ldy, Lsr, Ora, Php, Plp, Rol, Ror, Sbc, Sec, Sed, Sei, Stx, Sty, Tax, Tay, Tsx, Txa, Txs, Tya}
use Rattle.cpu_table.specs.declared.instruction.Mode.{Mode}
use Rattle.cpu_table.specs.declared.instruction.Mode.TheVariants.{Immediate, ZeroPage, ZeroPageX, ZeroPageY, Absolute, AbsoluteX, AbsoluteY, Indirect, IndirectX, IndirectY}
use Rattle.cpu_table.specs.Opcodes.{row_of}
use Rattle.cpu_core.specs.declared.operations.Kind.{Kind}
use Rattle.cpu_core.specs.declared.operations.Kind.TheVariants.{Load, Store, ReadModifyWrite, Implied, Branch, Jump, Call, Return, ReturnFromInterrupt, Push, Pull, Break}
use Rattle.cpu_core.specs.Kinds.{kind_of}
use Rattle.cpu_core.specs.declared.replay.Next.{Next}
use Rattle.cpu_core.specs.declared.replay.Next.TheVariants.{Read, Write, End}
use Rattle.cpu_core.specs.Registers.{RegistersValue, registers_of}
use Rattle.cpu_core.specs.BusCycles.{BusCycles, finish, read, write}
use Rattle.cpu_core.specs.Operations.{flags_by_interrupt, flags_by_program, is_taken, loaded, masked, modified, pulled, pulled_flags, pushed, stored, worked_alone}
use Rattle.cpu_core.specs.Patterns.{address_of, directly_addressed, addressed, dummy_read, ends_with, executed_by, indexed, interrupted}
use Rattle.cpu_core.specs.Patterns.{is_accumulator, landed, modify_a_cycles, read_modify_write_cycles, row_cycles, target_of}
use Rattle.cpu_core.specs.Sequences.{after, cycles_of, head_of, next_of, start_of, IsEnd}
use Rattle.cpu_core.specs.Places.{padded, paused, standing, stopped}
use Rattle.cpu_core.proofs.EndLemmas.{end-closes}
use Rattle.cpu_core.proofs.LengthLemmas.{six_before_end}
use Rattle.cpu_core.proofs.PlaceLemmas.{paused_processor}
use Rattle.cpu_core.specs.Ranges.{IsByte, AreRegistersInRange, IsProcessorInRange, WritesByte}

-- a status byte: bits 4 and 5 are clear
record IsStatus (p : ℕ) : Type 0 where
  byte : IsByte p
  clear : p / 16 % 4 ≡ 0

status_in : (f : Flags) → IsStatus (byte_of f)
unfolding byte_of
status_in f =
    let n = at_most_one f.negative in
    let v = at_most_one f.overflow in
    let d = at_most_one f.decimal in
    let i = at_most_one f.interrupt in
    let z = at_most_one f.zero in
    let c = at_most_one f.carry in
    record { byte = omega arith; clear = digits _ _ _ _ _ _ n v d i z c }
  where
    at_most_one : (b : Bool) → from_bool b ≤ 1
    at_most_one true = omega arith
    at_most_one false = omega arith

    digits : (n v d i z c : ℕ) → n ≤ 1 → v ≤ 1 → d ≤ 1 → i ≤ 1 → z ≤ 1 → c ≤ 1 → (n * 128 + v * 64 + d * 8 + i * 4 + z * 2 + c) / 16 % 4 ≡ 0
    digits n v d i z c hn hv hd hi hz hc = omega arith

nz_in : (v p : ℕ) → IsStatus (nz_of v p)
unfolding nz_of
nz_in v p = status_in _

compare_in : (r m p : ℕ) → IsStatus (compare_of r m p)
unfolding compare_of
compare_in r m p = status_in _

bit_in : (a m p : ℕ) → IsStatus (bit_of a m p)
unfolding bit_of
bit_in a m p = status_in _

masked_in : (p : ℕ) → IsStatus (masked p)
unfolding masked
masked_in p = status_in _

pulled_in : (m : ℕ) → IsStatus (pulled_flags m)
unfolding pulled_flags
pulled_in m = status_in _

-- a byte and a status byte
record IsResult (r : ℕ × ℕ) : Type 0 where
  byte : IsByte r.0
  status : IsStatus r.1

adc_in : (a m p : ℕ) → IsResult (adc_of a m p)
unfolding adc_of decimal_adc binary_adc
adc_in a m p = record { byte = by_mode (flags_of p).decimal; status = status_in _ }
  where
    by_mode : (d : Bool) → IsByte (if d then decimal_adc a m (flags_of p) else binary_adc a m (flags_of p)).0
    by_mode true = omega arith
    by_mode false = omega arith

modulo_below : (z : ℤ) → modulo z 256 < 256
modulo_below (pos n) = omega arith
modulo_below (negsuc n) = omega arith

sbc_in : (a m p : ℕ) → IsResult (sbc_of a m p)
unfolding sbc_of decimal_sbc binary_adc
sbc_in a m p = record { byte = by_mode (flags_of p).decimal; status = status_in _ }
  where
    by_mode : (d : Bool) → IsByte (if d then decimal_sbc a m (flags_of p).carry else (binary_adc a (255 - m) (flags_of p)).0)
    by_mode true = modulo_below _
    by_mode false = omega arith

left_in : (low : Bool) (m : ℕ) → IsByte m → IsByte (left_by low m)
left_in false m b = let same = left_with_zero m b in omega arith
left_in true m b = let same = left_with_one m b in omega arith

right_in : (high : Bool) (m : ℕ) → IsByte m → IsByte (right_by high m)
right_in false m b = let same = right_with_zero m b in omega arith
right_in true m b = let same = right_with_one m b in omega arith

shifted_in : (r : ℕ) (lost : Bool) (f : Flags) → IsByte r → IsResult (shifted r lost f)
unfolding shifted
shifted_in r lost f h = record { byte = h; status = status_in _ }

asl_in : (m p : ℕ) → IsByte m → IsResult (asl_of m p)
unfolding asl_of
asl_in m p b = shifted_in _ _ _ (left_in _ m b)

lsr_in : (m p : ℕ) → IsByte m → IsResult (lsr_of m p)
unfolding lsr_of
lsr_in m p b = shifted_in _ _ _ (right_in _ m b)

rol_in : (m p : ℕ) → IsByte m → IsResult (rol_of m p)
unfolding rol_of
rol_in m p b = shifted_in _ _ _ (left_in _ m b)

ror_in : (m p : ℕ) → IsByte m → IsResult (ror_of m p)
unfolding ror_of
ror_in m p b = shifted_in _ _ _ (right_in _ m b)

status_of : (r : RegistersValue) → AreRegistersInRange r → IsStatus r.p
status_of r h = record { byte = h.p; clear = h.flags.flags }

-- with other flags, or another byte and other flags
flags_in : (r : RegistersValue) (p : ℕ) → IsStatus p → AreRegistersInRange r → AreRegistersInRange (record r { p = p })
flags_in r p k h = record { pc = h.pc; a = h.a; x = h.x; y = h.y; s = h.s; p = k.byte; flags = record { flags = k.clear } }

a_in : (r : RegistersValue) (v p : ℕ) → IsByte v → IsStatus p → AreRegistersInRange r → AreRegistersInRange (record r { a = v; p = p })
a_in r v p b k h = record { pc = h.pc; a = b; x = h.x; y = h.y; s = h.s; p = k.byte; flags = record { flags = k.clear } }

x_in : (r : RegistersValue) (v p : ℕ) → IsByte v → IsStatus p → AreRegistersInRange r → AreRegistersInRange (record r { x = v; p = p })
x_in r v p b k h = record { pc = h.pc; a = h.a; x = b; y = h.y; s = h.s; p = k.byte; flags = record { flags = k.clear } }

y_in : (r : RegistersValue) (v p : ℕ) → IsByte v → IsStatus p → AreRegistersInRange r → AreRegistersInRange (record r { y = v; p = p })
y_in r v p b k h = record { pc = h.pc; a = h.a; x = h.x; y = b; s = h.s; p = k.byte; flags = record { flags = k.clear } }

s_in : (r : RegistersValue) (v : ℕ) → IsByte v → AreRegistersInRange r → AreRegistersInRange (record r { s = v })
s_in r v b h = record { pc = h.pc; a = h.a; x = h.x; y = h.y; s = b; p = h.p; flags = record { flags = h.flags.flags } }

pc_in : (r : RegistersValue) (v : ℕ) → v < 65536 → AreRegistersInRange r → AreRegistersInRange (record r { pc = v })
pc_in r v b h = record { pc = b; a = h.a; x = h.x; y = h.y; s = h.s; p = h.p; flags = record { flags = h.flags.flags } }

loaded_in : (op : Op) (m : ℕ) (r : RegistersValue) → IsByte m → AreRegistersInRange r → AreRegistersInRange (loaded op m r)
unfolding loaded
loaded_in Adc m r b h = let k = adc_in r.a m r.p in a_in r _ _ k.byte k.status h
loaded_in And m r b h = a_in r (bit_and r.a m) _ (let a = h.a in omega (arith, and_le_l r.a m)) (nz_in _ r.p) h
loaded_in Bit m r b h = flags_in r _ (bit_in r.a m r.p) h
loaded_in Cmp m r b h = flags_in r _ (compare_in r.a m r.p) h
loaded_in Cpx m r b h = flags_in r _ (compare_in r.x m r.p) h
loaded_in Cpy m r b h = flags_in r _ (compare_in r.y m r.p) h
loaded_in Eor m r b h = a_in r (bit_xor r.a m) _ (xor_lt 8 r.a m h.a b) (nz_in _ r.p) h
loaded_in Lda m r b h = a_in r m _ b (nz_in m r.p) h
loaded_in Ldx m r b h = x_in r m _ b (nz_in m r.p) h
loaded_in Ldy m r b h = y_in r m _ b (nz_in m r.p) h
loaded_in Ora m r b h = a_in r (bit_or r.a m) _ (or_lt 8 r.a m h.a b) (nz_in _ r.p) h
loaded_in Sbc m r b h = let k = sbc_in r.a m r.p in a_in r _ _ k.byte k.status h
loaded_in _ m r b h = h

stored_in : (op : Op) (r : RegistersValue) → AreRegistersInRange r → IsByte (stored op r)
unfolding stored
stored_in Stx r h = h.x
stored_in Sty r h = h.y
stored_in _ r h = h.a

modified_in : (op : Op) (m p : ℕ) → IsByte m → IsStatus p → IsResult (modified op m p)
unfolding modified
modified_in Asl m p b k = asl_in m p b
modified_in Dec m p b k = record { byte = omega arith; status = nz_in _ p }
modified_in Inc m p b k = record { byte = omega arith; status = nz_in _ p }
modified_in Lsr m p b k = lsr_in m p b
modified_in Rol m p b k = rol_in m p b
modified_in Ror m p b k = ror_in m p b
modified_in _ m p b k = record { byte = b; status = k }

worked_in : (op : Op) (r : RegistersValue) → AreRegistersInRange r → AreRegistersInRange (worked_alone op r)
unfolding worked_alone
worked_in Clc r h = flags_in r _ (status_in _) h
worked_in Cld r h = flags_in r _ (status_in _) h
worked_in Cli r h = flags_in r _ (status_in _) h
worked_in Clv r h = flags_in r _ (status_in _) h
worked_in Sec r h = flags_in r _ (status_in _) h
worked_in Sed r h = flags_in r _ (status_in _) h
worked_in Sei r h = flags_in r _ (status_in _) h
worked_in Dex r h = x_in r ((r.x + 255) % 256) _ (omega arith) (nz_in _ r.p) h
worked_in Dey r h = y_in r ((r.y + 255) % 256) _ (omega arith) (nz_in _ r.p) h
worked_in Inx r h = x_in r ((r.x + 1) % 256) _ (omega arith) (nz_in _ r.p) h
worked_in Iny r h = y_in r ((r.y + 1) % 256) _ (omega arith) (nz_in _ r.p) h
worked_in Tax r h = x_in r r.a _ h.a (nz_in _ r.p) h
worked_in Tay r h = y_in r r.a _ h.a (nz_in _ r.p) h
worked_in Tsx r h = x_in r r.s _ h.s (nz_in _ r.p) h
worked_in Txa r h = a_in r r.x _ h.x (nz_in _ r.p) h
worked_in Txs r h = s_in r r.x h.x h
worked_in Tya r h = a_in r r.y _ h.y (nz_in _ r.p) h
worked_in _ r h = h

by_program_in : (p : ℕ) → IsStatus p → IsByte (flags_by_program p)
unfolding flags_by_program
by_program_in p k = let small = k.byte in let clear = k.clear in omega arith

by_interrupt_in : (p : ℕ) → IsStatus p → IsByte (flags_by_interrupt p)
unfolding flags_by_interrupt
by_interrupt_in p k = let small = k.byte in let clear = k.clear in omega arith

pushed_in : (op : Op) (r : RegistersValue) → AreRegistersInRange r → IsByte (pushed op r)
unfolding pushed
pushed_in Php r h = by_program_in r.p (status_of r h)
pushed_in _ r h = h.a

pulled_registers_in : (op : Op) (m : ℕ) (r : RegistersValue) → IsByte m → AreRegistersInRange r → AreRegistersInRange (pulled op m r)
unfolding pulled
pulled_registers_in Plp m r b h = flags_in r _ (pulled_in m) h
pulled_registers_in _ m r b h = a_in r m _ b (nz_in m r.p) h

-- a processor at the end of a sequence
record EndsInRange (e : CpuValue) : Type 0 where
  registers : AreRegistersInRange (registers_of e)
  jam : IfSome e.jam (λ o. IsByte o × (row_of o ≡ None))

-- whatever the bytes read are, those written are bytes too, and the processor at the end is in
-- range
abbrev StaysInRange : BusCycles → Type 0
StaysInRange (finish e) = EndsInRange e
StaysInRange (read a k) = (v : ℕ) → IsByte v → StaysInRange (k v)
StaysInRange (write a v c) = IsByte v × StaysInRange c

ends_stays : (r : RegistersValue) → AreRegistersInRange r → StaysInRange (ends_with r)
ends_stays r h = record { registers = h; jam = tt }

either_stays : (b : Bool) (c d : BusCycles) → StaysInRange c → StaysInRange d → StaysInRange (if b then c else d)
either_stays true c d h k = h
either_stays false c d h k = k

indexed_stays : (low high index : ℕ) (always : Bool) (k : ℕ → BusCycles) → ((a : ℕ) → StaysInRange (k a)) → StaysInRange (indexed low high index always k)
indexed_stays low high index always k h = either_stays (always || nat_lt 255 (low + index)) _ _ (λ _ _. h _) (h _)

abbrev raised : RegistersValue → RegistersValue
raised r = record r { pc = (r.pc + 1) % 65536 }

abbrev twice_raised : RegistersValue → RegistersValue
twice_raised r = raised (raised r)

raised_in : (r : RegistersValue) → AreRegistersInRange r → AreRegistersInRange (raised r)
raised_in r h = pc_in r ((r.pc + 1) % 65536) (omega arith) h

twice_in : (r : RegistersValue) → AreRegistersInRange r → AreRegistersInRange (twice_raised r)
twice_in r h = raised_in (raised r) (raised_in r h)

direct_stays : (mode : Mode) (always : Bool) (r : RegistersValue) (k : RegistersValue → ℕ → BusCycles)
    → ((s : RegistersValue) (a : ℕ) → AreRegistersInRange s → StaysInRange (k s a)) → AreRegistersInRange r
    → StaysInRange (directly_addressed mode always r k)
direct_stays Immediate always r k h is = h _ _ (raised_in r is)
direct_stays ZeroPage always r k h is = λ _ _. h _ _ (raised_in r is)
direct_stays ZeroPageX always r k h is = λ _ _ _ _. h _ _ (raised_in r is)
direct_stays ZeroPageY always r k h is = λ _ _ _ _. h _ _ (raised_in r is)
direct_stays Absolute always r k h is = λ _ _ _ _. h _ _ (twice_in r is)
direct_stays AbsoluteX always r k h is =
    λ low _ high _. indexed_stays low high r.x always (k (twice_raised r)) (λ a. h (twice_raised r) a (twice_in r is))
direct_stays AbsoluteY always r k h is =
    λ low _ high _. indexed_stays low high r.y always (k (twice_raised r)) (λ a. h (twice_raised r) a (twice_in r is))
direct_stays _ always r k h is = h _ _ is

addressed_stays : (mode : Mode) (always : Bool) (r : RegistersValue) (k : RegistersValue → ℕ → BusCycles)
    → ((s : RegistersValue) (a : ℕ) → AreRegistersInRange s → StaysInRange (k s a)) → AreRegistersInRange r
    → StaysInRange (addressed mode always r k)
addressed_stays IndirectX always r k h is = λ _ _ _ _ _ _ _ _. h _ _ (raised_in r is)
addressed_stays IndirectY always r k h is =
    λ _ _ low _ high _. indexed_stays low high r.y always (k (raised r)) (λ a. h (raised r) a (raised_in r is))
addressed_stays mode always r k h is = direct_stays mode always r k h is

modify_a_stays : (op : Op) (r : RegistersValue) → AreRegistersInRange r → StaysInRange (modify_a_cycles op r)
modify_a_stays op r h = λ _ _.
    let k = modified_in op r.a r.p h.a (status_of r h) in
    ends_stays _ (a_in r _ _ k.byte k.status h)

modify_memory_stays : (op : Op) (mode : Mode) (r : RegistersValue) → AreRegistersInRange r → StaysInRange (read_modify_write_cycles op mode r)
modify_memory_stays op mode r h =
    direct_stays mode true r _
    (λ s a is m b.
    let k = modified_in op m s.p b (status_of s is) in
    (b, (k.byte, ends_stays _ (flags_in s _ k.status is)))) h

landed_stays : (r : RegistersValue) (target : ℕ) → target < 65536 → AreRegistersInRange r → StaysInRange (landed r target)
landed_stays r target small h =
    either_stays (target / 256 == r.pc / 256) (ends_with (record r { pc = target }))
    (read (address_of (target % 256) (r.pc / 256)) (λ _. ends_with (record r { pc = target })))
    (ends_stays _ (pc_in r target small h)) (λ _ _. ends_stays _ (pc_in r target small h))

branch_stays : (op : Op) (r : RegistersValue) (offset : ℕ) → AreRegistersInRange r
    → StaysInRange (if is_taken op r.p then dummy_read r.pc (landed r (target_of r.pc offset)) else ends_with r)
branch_stays op r offset h =
    either_stays (is_taken op r.p) (dummy_read r.pc (landed r (target_of r.pc offset))) (ends_with r)
    (λ _ _. landed_stays r (target_of r.pc offset) (omega arith) h) (ends_stays r h)

address_in : (low high : ℕ) → IsByte low → IsByte high → address_of low high < 65536
address_in low high h k = omega arith

jump_stays : (op : Op) (mode : Mode) (r : RegistersValue) → AreRegistersInRange r → StaysInRange (executed_by Jump op mode r)
jump_stays op Indirect r h = λ _ _ _ _ low l high k. ends_stays _ (pc_in (twice_raised r) (address_of low high) (address_in low high l k) (twice_in r h))
jump_stays op _ r h = λ low l high k. ends_stays _ (pc_in (raised r) (address_of low high) (address_in low high l k) (raised_in r h))

high_byte_in : (pc : ℕ) → pc < 65536 → IsByte (pc / 256)
high_byte_in pc h = omega arith

low_byte_in : (pc : ℕ) → IsByte (pc % 256)
low_byte_in pc = omega arith

-- the stack pointer lowered or raised so many times
lowered_in : (r : RegistersValue) → AreRegistersInRange r → AreRegistersInRange (record r { s = (r.s + 255) % 256 })
lowered_in r h = s_in r ((r.s + 255) % 256) (omega arith) h

lifted_in : (r : RegistersValue) → AreRegistersInRange r → AreRegistersInRange (record r { s = (r.s + 1) % 256 })
lifted_in r h = s_in r ((r.s + 1) % 256) (omega arith) h

call_stays : (op : Op) (mode : Mode) (r : RegistersValue) → AreRegistersInRange r → StaysInRange (executed_by Call op mode r)
call_stays op mode r h = λ low l _ _.
    let one = raised_in r h in (
      high_byte_in _ one.pc,
      (low_byte_in _, λ high k. ends_stays _ (pc_in _ (address_of low high) (address_in low high l k) (lowered_in _ (lowered_in _ one)))),
    )

return_stays : (op : Op) (mode : Mode) (r : RegistersValue) → AreRegistersInRange r → StaysInRange (executed_by Return op mode r)
return_stays op mode r h = λ _ _ _ _ low l high k _ _.
    ends_stays _ (pc_in _ ((address_of low high + 1) % 65536) (omega arith) (lifted_in _ (lifted_in r h)))

return_from_stays : (op : Op) (mode : Mode) (r : RegistersValue) → AreRegistersInRange r → StaysInRange (executed_by ReturnFromInterrupt op mode r)
return_from_stays op mode r h = λ _ _ _ _ flags f low l high k.
    ends_stays _
    (pc_in _ (address_of low high) (address_in low high l k)
    (lifted_in _ (lifted_in _ (flags_in _ (pulled_flags flags) (pulled_in flags) (lifted_in r h)))))

interrupted_stays : (flags : ℕ) (r : RegistersValue) → IsByte flags → AreRegistersInRange r → StaysInRange (interrupted flags r)
interrupted_stays flags r f h = (
  high_byte_in _ h.pc,
  (
    low_byte_in _,
    (
      f,
      λ low l high k.
          ends_stays _
          (pc_in _ (address_of low high) (address_in low high l k)
          (flags_in _ (masked r.p) (masked_in r.p) (lowered_in _ (lowered_in _ (lowered_in r h))))),
    ),
  ),
)

executed_stays : (kind : Kind) (op : Op) (mode : Mode) (r : RegistersValue) → AreRegistersInRange r → StaysInRange (executed_by kind op mode r)
executed_stays Load op mode r h = addressed_stays mode false r _ (λ s a is m b. ends_stays _ (loaded_in op m s b is)) h
executed_stays Store op mode r h = addressed_stays mode true r _ (λ s a is. (stored_in op s is, ends_stays s is)) h
executed_stays ReadModifyWrite op mode r h =
    either_stays (is_accumulator mode) (modify_a_cycles op r) (read_modify_write_cycles op mode r) (modify_a_stays op r h)
    (modify_memory_stays op mode r h)
executed_stays Implied op mode r h = λ _ _. ends_stays _ (worked_in op r h)
executed_stays Branch op mode r h = λ offset _. branch_stays op (raised r) offset (raised_in r h)
executed_stays Jump op mode r h = jump_stays op mode r h
executed_stays Call op mode r h = call_stays op mode r h
executed_stays Return op mode r h = return_stays op mode r h
executed_stays ReturnFromInterrupt op mode r h = return_from_stays op mode r h
executed_stays Push op mode r h = λ _ _. (pushed_in op r h, ends_stays _ (lowered_in r h))
executed_stays Pull op mode r h = λ _ _ _ _ m b. ends_stays _ (pulled_registers_in op m _ b (lifted_in r h))
executed_stays Break op mode r h = λ _ _.
    let one = raised_in r h in
    interrupted_stays (flags_by_program r.p) (raised r) (by_program_in r.p (status_of r h)) one

row_stays : (r : RegistersValue) (o : ℕ) (row : Option (Op × Mode)) → row_of o ≡ row → IsByte o → AreRegistersInRange r → StaysInRange (row_cycles r o row)
row_stays r o None is b h = record { registers = h; jam = (b, is) }
row_stays r o (Some row) is b h = executed_stays (kind_of row.0) row.0 row.1 (raised r) (raised_in r h)

cycles_stays : (r : RegistersValue) (q : Sequence) → AreRegistersInRange r → StaysInRange (cycles_of r q)
cycles_stays r Opcode h = λ o b. row_stays r o (row_of o) refl b h
cycles_stays r Interrupt h = λ _ _ _ _. interrupted_stays (flags_by_interrupt r.p) r (by_interrupt_in r.p (status_of r h)) h
cycles_stays r Reset h = λ _ _ _ _ _ _ _ _ _ _ low l high k. ends_stays _ (pc_in r (address_of low high) (address_in low high l k) h)

after_stays : (c : BusCycles) (bytes : List ℕ) → StaysInRange c → All IsByte bytes → StaysInRange (after c bytes)
after_stays c [] h all = h
after_stays (finish e) (b ∷ bytes) h all = h
after_stays (read a k) (b ∷ bytes) h all = after_stays (k b) bytes (h b (All-head IsByte b bytes all)) (All-tail IsByte b bytes all)
after_stays (write a v c) (b ∷ bytes) h all = after_stays c bytes h.1 (All-tail IsByte b bytes all)

-- what comes next is in range
abbrev IsNextInRange : Next → Type 0
IsNextInRange (Read a) = Unit {0}
IsNextInRange (Write a v) = IsByte v
IsNextInRange (End e) = EndsInRange e

head_in : (c : BusCycles) → StaysInRange c → IsNextInRange (head_of c)
head_in (finish e) h = h
head_in (read a k) h = tt
head_in (write a v c) h = h.0

next_in : (r : RegistersValue) (q : Sequence) (bytes : List ℕ) → AreRegistersInRange r → All IsByte bytes → IsNextInRange (next_of r q bytes)
unfolding next_of
next_in r q bytes h all = head_in (after (cycles_of r q) bytes) (after_stays (cycles_of r q) bytes (cycles_stays r q h) all)

writes_in : (n : Next) → IsNextInRange n → WritesByte n
writes_in (Read a) h = tt
writes_in (Write a v) h = h
writes_in (End e) h = tt

-- a byte that is written is one
pub written_in : (r : RegistersValue) (q : Sequence) (bytes : List ℕ) → AreRegistersInRange r → All IsByte bytes → WritesByte (next_of r q bytes)
written_in r q bytes h all = writes_in (next_of r q bytes) (next_in r q bytes h all)

jam_in : (jam : Option ℕ) → IfSome jam (λ o. IsByte o × (row_of o ≡ None)) → IfSome jam IsByte × IfSome jam (λ o. row_of o ≡ None)
jam_in None h = (tt, tt)
jam_in (Some o) h = (h.0, h.1)

-- a processor at the end of a sequence is in range
pub end_in : (r : RegistersValue) (q : Sequence) (bytes : List ℕ) (e : CpuValue) → next_of r q bytes ≡ End e → AreRegistersInRange r → All IsByte bytes
    → IsProcessorInRange e
end_in r q bytes e is h all =
    let ends : EndsInRange e = subst IsNextInRange is (next_in r q bytes h all) in
    let jams = jam_in e.jam ends.jam in
    let none : e.mid ≡ None = end-closes r q bytes e is in
    record {
      registers = ends.registers;
      jam = jams.0;
      mid = rw none tt;
      stands = record { undocumented = jams.1; place = rw none tt };
    }

zeros_in : All IsByte (0 ∷ 0 ∷ 0 ∷ 0 ∷ 0 ∷ 0 ∷ [])
zeros_in = All-replicate IsByte 6 0 (omega arith)

padded_long : (bytes : List ℕ) → length bytes ≤ 6 → length (padded bytes) ≡ 6
padded_long bytes short = rw (length-append, length-drop) (omega arith)

paused_in : (r : RegistersValue) (q : Sequence) (bytes : List ℕ) → AreRegistersInRange r → All IsByte bytes → 1 ≤ length bytes
    → (q ≡ Reset → is_masked r.p ≡ true) → ¬ IsEnd (next_of r q bytes) → IsProcessorInRange (paused r q bytes)
paused_in r q bytes h all started mask due =
    let six : length bytes < 7 = six_before_end r q bytes due in
    record {
      registers = h;
      jam = tt;
      mid = record {
        place = record { count = omega arith; bytes = padded_long bytes (omega arith) };
        bytes = All-append IsByte bytes _ all (All-drop IsByte (length bytes) _ zeros_in);
      };
      stands = paused_processor r q bytes started mask due;
    }

stopped_in : (n : Next) (r : RegistersValue) (q : Sequence) (bytes : List ℕ) → next_of r q bytes ≡ n → AreRegistersInRange r → All IsByte bytes
    → 1 ≤ length bytes → (q ≡ Reset → is_masked r.p ≡ true) → IsProcessorInRange (stopped r q bytes n)
stopped_in (End e) r q bytes is h all started mask = end_in r q bytes e is h all
stopped_in (Read a) r q bytes is h all started mask = paused_in r q bytes h all started mask (λ over. subst IsEnd is over)
stopped_in (Write a v) r q bytes is h all started mask = paused_in r q bytes h all started mask (λ over. subst IsEnd is over)

-- after some bytes of a sequence the processor is in range
pub standing_in : (r : RegistersValue) (q : Sequence) (bytes : List ℕ) → AreRegistersInRange r → All IsByte bytes → 1 ≤ length bytes
    → (q ≡ Reset → is_masked r.p ≡ true) → IsProcessorInRange (standing r q bytes)
standing_in r q bytes h all started mask = stopped_in (next_of r q bytes) r q bytes refl h all started mask

-- the registers with which a sequence starts
pub start_in : (q : Sequence) (c : CpuValue) → IsProcessorInRange c → AreRegistersInRange (start_of q c)
start_in Reset c h = flags_in _ (masked c.p) (masked_in c.p) (s_in (registers_of c) ((c.s + 253) % 256) (omega arith) h.registers)
start_in Interrupt c h = h.registers
start_in Opcode c h = h.registers

masked-masks : (p : ℕ) → is_masked (masked p) ≡ true
unfolding masked
masked-masks p = ap (λ (f : Flags). f.interrupt) (flags_of_byte (record (flags_of p) { interrupt = true }))

pub start_masks : (q : Sequence) (c : CpuValue) → q ≡ Reset → is_masked (start_of q c).p ≡ true
start_masks Reset c e = masked-masks c.p
start_masks Interrupt c e = absurd (cc)
start_masks Opcode c e = absurd (cc)

pub ruleset ranges = (start_in, written_in, standing_in)
