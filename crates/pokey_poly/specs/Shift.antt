-- The polynomial registers of the POKEY (C012294 data sheet; the bit order is this project's own
-- choice). Bit 0 of a register is its lowest and its output.
use Rattle.std.specs.Prelude.{◌≡◌, ℕ, ◌<◌, Bool, [], ◌∷◌, ◌++◌, drop}
use Rattle.std.proofs.Math.Bool.{xor}
use Rattle.std.specs.Int.{bit_at}
use Rattle.bit_words.specs.Bits.{bits, is_bit, number}
use Rattle.board_base.specs.Ticks.{times}
use Rattle.pokey_poly.specs.declared.poly.Poly.{Poly}
use Rattle.pokey_poly.specs.declared.poly.Poly.TheVariants.{Four, Five, Nine, Seventeen}

-- how many bits a register has
abbrev pub width_of : Poly → ℕ
width_of Four = 4
width_of Five = 5
width_of Nine = 9
width_of Seventeen = 17

-- the bit that goes with bit 0 into the new top bit
abbrev pub tap_of : Poly → ℕ
tap_of Four = 1
tap_of Five = 2
tap_of Nine = 4
tap_of Seventeen = 5

-- the bit that comes in at the top: the exclusive or of the tap and bit 0
abbrev pub incoming : ℕ → ℕ → Bool
incoming tap r = xor (is_bit r tap) (is_bit r 0)

-- a register whose bits move down by one place: bit 0 goes, and a bit comes in at the top
unfoldable pub moved : ℕ → ℕ → ℕ → ℕ
moved width tap r = number (drop 1 (bits width r) ++ incoming tap r ∷ [])

-- one shift of a register
unfoldable pub shifted : Poly → ℕ → ℕ
shifted poly r = moved (width_of poly) (tap_of poly) r

-- the bit that leaves a register at one of the shifts from now on, counted from 0
abbrev pub leaving : Poly → ℕ → ℕ → ℕ
leaving poly r j = bit_at (times (shifted poly) j r) 0

-- a word whose lowest bits, as many as are known, are those that leave a register from a value on
pub record IsAhead (poly : Poly) (r known word : ℕ) : Type 0 where
  pub bit : (j : ℕ) → j < known → bit_at word j ≡ leaving poly r j
