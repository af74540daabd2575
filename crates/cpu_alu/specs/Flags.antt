-- The flags in a status byte.
use Rattle.std.specs.Prelude.{ℕ, ◌+◌, ◌*◌, ◌==◌, Bool}
use Rattle.std.specs.Int.{from_bool}
use Rattle.cpu_alu.specs.declared.flags.Flags.{Flags}
use Rattle.bit_words.specs.Bits.{is_bit}

-- the flags of a status byte: N is bit 7, V bit 6, D bit 3, I bit 2, Z bit 1 and C bit 0
-- (MCS6500 Programming Manual, the processor status register)
unfoldable pub flags_of : ℕ → Flags
flags_of p = record {
  negative = is_bit p 7;
  overflow = is_bit p 6;
  decimal = is_bit p 3;
  interrupt = is_bit p 2;
  zero = is_bit p 1;
  carry = is_bit p 0;
}

-- flag I is set, and an interrupt waits
abbrev pub is_masked : ℕ → Bool
is_masked p = (flags_of p).interrupt

-- the status byte with these flags, bits 4 and 5 being clear
unfoldable pub byte_of : Flags → ℕ
byte_of f =
    from_bool f.negative * 128 + from_bool f.overflow * 64 + from_bool f.decimal * 8
    + from_bool f.interrupt * 4 + from_bool f.zero * 2 + from_bool f.carry

-- N is bit 7 of a result, and Z says that it is 0; the other flags stay
unfoldable pub with_result : ℕ → Flags → Flags
with_result r f = record f { negative = is_bit r 7; zero = r == 0 }
