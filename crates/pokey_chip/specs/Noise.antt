-- The noise in a move: the bits that leave the polynomial registers while none is written.
use Rattle.std.specs.Prelude.{◌≡◌, ℕ, ◌+◌, ◌%◌, ◌^◌, false, if◌then◌else◌}
use Rattle.bit_words.specs.Bits.{is_bit}
use Rattle.board_base.specs.Pokey.{PokeyValue}
use Rattle.board_base.specs.Ticks.{times}
use Rattle.pokey_poly.specs.declared.poly.TheConstants.{REACH}
use Rattle.pokey_poly.specs.declared.poly.Poly.{Poly}
use Rattle.pokey_poly.specs.declared.poly.Poly.TheVariants.{Four, Five, Nine, Seventeen}
use Rattle.pokey_poly.specs.Shift.{shifted, width_of, IsAhead}
use Rattle.pokey_chip.specs.declared.control.TheConstants.{NINE_BITS}
use Rattle.pokey_chip.specs.declared.noise.Noise.{Noise}
use Rattle.pokey_chip.specs.Tick.{is_held, long_register}

-- which register is the long one
abbrev pub long_poly : ℕ → Poly
long_poly audctl = if is_bit audctl NINE_BITS then Nine else Seventeen

-- a word begins with the register that a value has become by so many shifts, and goes on with what
-- leaves that register
pub record IsWord (poly : Poly) (r since word : ℕ) : Type 0 where
  pub ahead : IsAhead poly (word % 2 ^ width_of poly) (REACH + width_of poly) word
  pub start : word % 2 ^ width_of poly ≡ times (shifted poly) since r

-- a word of a register from one of its shifts on, which `k` shifts later is as after `n` in all
pub record IsWordFor (poly : Poly) (r word k n : ℕ) : Type 0 where
  pub since : ℕ
  pub is : IsWord poly r since word
  pub same : times (shifted poly) (since + k) r ≡ times (shifted poly) n r

-- the words of a POKEY's registers: those of 4 and 5 bits from the start of a move on, the long one
-- from a clock of it on; nothing is said of them while the registers are held
pub record IsNoise (p : PokeyValue) (noise : Noise) : Type 0 where
  pub four : is_held p.skctl ≡ false → IsWord Four p.poly4 0 noise.four
  pub five : is_held p.skctl ≡ false → IsWord Five p.poly5 0 noise.five
  pub long : is_held p.skctl ≡ false → IsWord (long_poly p.audctl) (long_register p) noise.since noise.long
