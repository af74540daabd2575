-- What the operations do to registers and bytes (MCS6500 Programming Manual, chapters 2 to 10);
-- nothing here speaks of the bus.
use Rattle.std.specs.Prelude.{◌+◌, ◌%◌, ℕ, Bool, true, false, not, bit_and, bit_or, bit_xor}
use Rattle.cpu_table.specs.declared.instruction.Op.{Op}
use Rattle.cpu_table.specs.declared.instruction.Op.TheVariants.{Adc, And, Asl, Bcc, Bcs, Beq, Bit, Bmi, Bne, Bpl, Bvc, Bvs, Clc, Cld, Cli, Clv, Cmp, Cpx, Cpy, Dec, Dex, Dey, Eor, Inc}
use Rattle.cpu_table.specs.declared.instruction.Op.TheVariants.{Inx, Iny, Lda, Ldx, Ldy, Lsr, Ora, Php, Plp, Rol, Ror, Sbc, Sec, Sed, Sei, Stx, Sty, Tax, Tay, Tsx, Txa, Txs, Tya}
use Rattle.cpu_alu.specs.declared.flags.Flags.{Flags}
use Rattle.cpu_alu.specs.Flags.{flags_of, byte_of}
use Rattle.cpu_alu.specs.Arithmetic.{adc_of, sbc_of, compare_of}
use Rattle.cpu_alu.specs.Shifts.{asl_of, lsr_of, rol_of, ror_of}
use Rattle.cpu_alu.specs.Logic.{bit_of, nz_of}
use Rattle.cpu_core.specs.Registers.{RegistersValue}

-- the byte v in A, in X or in Y, with N and Z after it
abbrev pub into_a : ℕ → RegistersValue → RegistersValue
into_a v r = record r { a = v; p = nz_of v r.p }

abbrev pub into_x : ℕ → RegistersValue → RegistersValue
into_x v r = record r { x = v; p = nz_of v r.p }

abbrev pub into_y : ℕ → RegistersValue → RegistersValue
into_y v r = record r { y = v; p = nz_of v r.p }

-- the registers after an operation that reads the byte m
unfoldable pub loaded : Op → ℕ → RegistersValue → RegistersValue
loaded Adc m r = record r { a = (adc_of r.a m r.p).0; p = (adc_of r.a m r.p).1 }
loaded And m r = into_a (bit_and r.a m) r
loaded Bit m r = record r { p = bit_of r.a m r.p }
loaded Cmp m r = record r { p = compare_of r.a m r.p }
loaded Cpx m r = record r { p = compare_of r.x m r.p }
loaded Cpy m r = record r { p = compare_of r.y m r.p }
loaded Eor m r = into_a (bit_xor r.a m) r
loaded Lda m r = into_a m r
loaded Ldx m r = into_x m r
loaded Ldy m r = into_y m r
loaded Ora m r = into_a (bit_or r.a m) r
loaded Sbc m r = record r { a = (sbc_of r.a m r.p).0; p = (sbc_of r.a m r.p).1 }
loaded _ m r = r

-- the byte that a store writes
unfoldable pub stored : Op → RegistersValue → ℕ
stored Stx r = r.x
stored Sty r = r.y
stored _ r = r.a

-- the new byte and the new flags of an operation that changes the byte m
unfoldable pub modified : Op → ℕ → ℕ → ℕ × ℕ
modified Asl m p = asl_of m p
modified Dec m p = ((m + 255) % 256, nz_of ((m + 255) % 256) p)
modified Inc m p = ((m + 1) % 256, nz_of ((m + 1) % 256) p)
modified Lsr m p = lsr_of m p
modified Rol m p = rol_of m p
modified Ror m p = ror_of m p
modified _ m p = (m, p)

-- the flags after an operation that sets or clears one of them
unfoldable pub flag_changed : Op → Flags → Flags
flag_changed Clc f = record f { carry = false }
flag_changed Cld f = record f { decimal = false }
flag_changed Cli f = record f { interrupt = false }
flag_changed Clv f = record f { overflow = false }
flag_changed Sec f = record f { carry = true }
flag_changed Sed f = record f { decimal = true }
flag_changed Sei f = record f { interrupt = true }
flag_changed _ f = f

-- the registers with these flags changed
abbrev pub into_p : Op → RegistersValue → RegistersValue
into_p op r = record r { p = byte_of (flag_changed op (flags_of r.p)) }

-- the registers after an operation that needs no byte
unfoldable pub worked_alone : Op → RegistersValue → RegistersValue
worked_alone Clc r = into_p Clc r
worked_alone Cld r = into_p Cld r
worked_alone Cli r = into_p Cli r
worked_alone Clv r = into_p Clv r
worked_alone Sec r = into_p Sec r
worked_alone Sed r = into_p Sed r
worked_alone Sei r = into_p Sei r
worked_alone Dex r = into_x ((r.x + 255) % 256) r
worked_alone Dey r = into_y ((r.y + 255) % 256) r
worked_alone Inx r = into_x ((r.x + 1) % 256) r
worked_alone Iny r = into_y ((r.y + 1) % 256) r
worked_alone Tax r = into_x r.a r
worked_alone Tay r = into_y r.a r
worked_alone Tsx r = into_x r.s r
worked_alone Txa r = into_a r.x r
worked_alone Txs r = record r { s = r.x }
worked_alone Tya r = into_a r.y r
worked_alone _ r = r

-- whether a branch is taken with these flags
unfoldable pub is_taken : Op → ℕ → Bool
is_taken Bcc p = not (flags_of p).carry
is_taken Bcs p = (flags_of p).carry
is_taken Beq p = (flags_of p).zero
is_taken Bmi p = (flags_of p).negative
is_taken Bne p = not (flags_of p).zero
is_taken Bpl p = not (flags_of p).negative
is_taken Bvc p = not (flags_of p).overflow
is_taken Bvs p = (flags_of p).overflow
is_taken _ p = false

-- the flags as BRK and PHP push them: bits 4 and 5, which are clear in p, are set
unfoldable pub flags_by_program : ℕ → ℕ
flags_by_program p = p + 48

-- the flags as an interrupt pushes them: of the two bits only bit 5 is set
unfoldable pub flags_by_interrupt : ℕ → ℕ
flags_by_interrupt p = p + 32

-- the byte that PHA or PHP pushes
unfoldable pub pushed : Op → RegistersValue → ℕ
pushed Php r = flags_by_program r.p
pushed _ r = r.a

-- the flags that a byte from the stack gives: bits 4 and 5 are left out
unfoldable pub pulled_flags : ℕ → ℕ
pulled_flags m = byte_of (flags_of m)

-- the registers after PLA or PLP has pulled the byte m
unfoldable pub pulled : Op → ℕ → RegistersValue → RegistersValue
pulled Plp m r = record r { p = pulled_flags m }
pulled _ m r = into_a m r

-- the flags with I set
unfoldable pub masked : ℕ → ℕ
masked p = byte_of (record (flags_of p) { interrupt = true })
