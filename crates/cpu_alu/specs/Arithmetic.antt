-- Sums and differences with their flags (MCS6500 Programming Manual, ADC, SBC and CMP).
use Rattle.std.specs.Prelude.{ℕ, ◌+◌, ◌-◌, ◌%◌, nat_lt, nat_le, Bool, true, false, not, ◌&&◌, if◌then◌else◌, pos, ◌-ℤ◌}
use Rattle.std.specs.Int.{from_bool}
use Rattle.cpu_alu.specs.declared.flags.Flags.{Flags}
use Rattle.bit_words.specs.Bits.{is_bit}
use Rattle.cpu_alu.specs.Decimal.{decimal_adc, decimal_sbc, modulo}
use Rattle.cpu_alu.specs.Flags.{byte_of, flags_of, with_result}

-- two bits are the same
abbrev pub agree : Bool → Bool → Bool
agree true b = b
agree false b = not b

-- V of a sum: two bytes agree in bit 7, and their sum doesn't (MCS6500 Programming Manual, the
-- overflow flag)
unfoldable pub overflows : ℕ → ℕ → ℕ → Bool
overflows a m sum = agree (is_bit a 7) (is_bit m 7) && not (agree (is_bit a 7) (is_bit sum 7))

-- the binary sum of A, an operand and C: its low byte and its flags; C is its ninth bit, and D and
-- I stay
unfoldable pub binary_adc : ℕ → ℕ → Flags → ℕ × Flags
binary_adc a m f =
    let s = a + m + from_bool f.carry in
    (s % 256, with_result (s % 256) (record f { overflow = overflows a m (s % 256); carry = nat_lt 255 s }))

-- a result, and its flags as a status byte
abbrev pub with_byte : ℕ × Flags → ℕ × ℕ
with_byte r = (r.0, byte_of r.1)

-- ADC: the result and the status byte, in decimal where D is set (MCS6500 Programming Manual, ADC)
unfoldable pub adc_of : ℕ → ℕ → ℕ → ℕ × ℕ
adc_of a m p =
    let f = flags_of p in
    with_byte (if f.decimal then decimal_adc a m f else binary_adc a m f)

-- SBC: the flags are those of the binary difference, which is the sum of A and FF less the operand
-- (MCS6500 Programming Manual, SBC)
unfoldable pub sbc_of : ℕ → ℕ → ℕ → ℕ × ℕ
sbc_of a m p =
    let f = flags_of p in
    let binary = binary_adc a (255 - m) f in
    with_byte (if f.decimal then decimal_sbc a m f.carry else binary.0, binary.1)

-- CMP, CPX and CPY: C says that the register is not below the operand; N and Z are those of their
-- difference (MCS6500 Programming Manual, CMP, CPX and CPY)
unfoldable pub compare_of : ℕ → ℕ → ℕ → ℕ
compare_of r m p =
    byte_of (with_result (modulo (pos r -ℤ pos m) 256) (record (flags_of p) { carry = nat_le m r }))
