-- Shifts and rotations (MCS6500 Programming Manual, ASL, LSR, ROL and ROR).
use Rattle.std.specs.Prelude.{ℕ, Bool, false, [], ◌∷◌, ◌++◌, take, drop}
use Rattle.cpu_alu.specs.declared.flags.Flags.{Flags}
use Rattle.bit_words.specs.Bits.{bits, is_bit, number}
use Rattle.cpu_alu.specs.Flags.{byte_of, flags_of, with_result}

-- a byte whose bits move up by one place: the given one comes in at the low end, and bit 7 is lost
unfoldable pub left_by : Bool → ℕ → ℕ
left_by low m = number (low ∷ take 7 (bits 8 m))

-- a byte whose bits move down by one place: the given one comes in at the high end, and bit 0 is
-- lost
unfoldable pub right_by : Bool → ℕ → ℕ
right_by high m = number (drop 1 (bits 8 m) ++ high ∷ [])

-- a result of a shift, and the status byte: C is the bit that was lost; V, D and I stay
unfoldable pub shifted : ℕ → Bool → Flags → ℕ × ℕ
shifted r lost f = (r, byte_of (with_result r (record f { carry = lost })))

-- ASL: a 0 comes in (MCS6500 Programming Manual, ASL)
unfoldable pub asl_of : ℕ → ℕ → ℕ × ℕ
asl_of m p = shifted (left_by false m) (is_bit m 7) (flags_of p)

-- LSR: a 0 comes in (MCS6500 Programming Manual, LSR)
unfoldable pub lsr_of : ℕ → ℕ → ℕ × ℕ
lsr_of m p = shifted (right_by false m) (is_bit m 0) (flags_of p)

-- ROL: the old C comes in (MCS6500 Programming Manual, ROL)
unfoldable pub rol_of : ℕ → ℕ → ℕ × ℕ
rol_of m p = shifted (left_by (flags_of p).carry m) (is_bit m 7) (flags_of p)

-- ROR: the old C comes in (MCS6500 Programming Manual, ROR)
unfoldable pub ror_of : ℕ → ℕ → ℕ × ℕ
ror_of m p = shifted (right_by (flags_of p).carry m) (is_bit m 0) (flags_of p)
