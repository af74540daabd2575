-- Words of the bits that leave a register, from one to the next.
use Rattle.std.proofs.Common.{◌≡◌, ℕ, ◌+◌, ◌-◌, ◌%◌, ◌^◌, ◌<◌, ◌≤◌, Bool, true, false, sym, ap, ◌∙◌, arith, zero-add}
use Rattle.bit_words.specs.Bits.{is_bit}
use Rattle.board_base.specs.Ticks.{times}
use Rattle.board_base.proofs.TickLaws.{times-add, times-zero}
use Rattle.board_base.specs.Pokey.{PokeyValue}
use Rattle.pokey_poly.specs.declared.poly.Poly.{Poly}
use Rattle.pokey_poly.specs.declared.poly.Poly.TheVariants.{Four, Five, Nine, Seventeen}
use Rattle.pokey_poly.specs.Shift.{shifted, width_of, IsAhead}
use Rattle.pokey_poly.proofs.TableLaws.{five-wraps, four-wraps}
use Rattle.pokey_chip.specs.declared.noise.Noise.{Noise}
use Rattle.pokey_chip.specs.Noise.{IsNoise, IsWord, IsWordFor, long_poly}
use Rattle.pokey_chip.specs.Tick.{is_held, long_register, rolled}
use Rattle.pokey_chip.proofs.RegisterLaws.{rolled-held}

-- the register some shifts after the first of a word
pub word-on : (poly : Poly) (r since word k : ℕ) → IsWord poly r since word
    → times (shifted poly) k (word % 2 ^ width_of poly) ≡ times (shifted poly) (since + k) r
word-on poly r since word k is = ap (times (shifted poly) k) is.start ∙ sym (times-add (shifted poly) since k r)

-- the word from there on
pub word-later : (poly : Poly) (r since word k s new : ℕ) → IsWord poly r since word → s ≡ times (shifted poly) k (word % 2 ^ width_of poly)
    → IsAhead poly s (47 + width_of poly) new → new % 2 ^ width_of poly ≡ s → IsWord poly r (since + k) new
word-later poly r since word k s new is value ahead start = record {
  ahead = rw start ahead;
  start = start ∙ value ∙ word-on poly r since word k is;
}

ones-odd : (poly : Poly) → is_bit (2 ^ width_of poly - 1) 0 ≡ true
ones-odd poly = grind arith

-- a register that is held
pub register-held : (held : Bool) (poly : Poly) (r n : ℕ) → held ≡ true → 1 ≤ n → 2 ^ width_of poly - 1 ≡ times (rolled held poly) n r
register-held held poly r n e some = grind (arith, rolled-held)

-- and one that runs
pub register-runs : (held : Bool) (poly : Poly) (r word k n : ℕ) → held ≡ false → (held ≡ false → IsWordFor poly r word k n)
    → times (shifted poly) k (word % 2 ^ width_of poly) ≡ times (rolled held poly) n r
register-runs held poly r word k n e is = let w : IsWordFor poly r word k n = is e in rw e (word-on poly r w.since word k w.is ∙ w.same)

-- their outputs
pub output-held : (held : Bool) (poly : Poly) (r n : ℕ) → held ≡ true → 1 ≤ n → held ≡ is_bit (times (rolled held poly) n r) 0
output-held held poly r n e some = e ∙ sym (ones-odd poly) ∙ ap (λ (m : ℕ). is_bit m 0) (register-held held poly r n e some)

pub output-runs : (held : Bool) (poly : Poly) (r word k n : ℕ) → held ≡ false → (held ≡ false → IsWordFor poly r word k n)
    → is_bit (times (shifted poly) k (word % 2 ^ width_of poly)) 0 ≡ is_bit (times (rolled held poly) n r) 0
output-runs held poly r word k n e is = ap (λ (m : ℕ). is_bit m 0) (register-runs held poly r word k n e is)

-- the word of a register itself
pub word-started : (poly : Poly) (r s word : ℕ) → s ≡ r → IsAhead poly s (47 + width_of poly) word → word % 2 ^ width_of poly ≡ s → IsWord poly r 0 word
word-started poly r s word e ahead start = record {
  ahead = rw start ahead;
  start = start ∙ e ∙ sym (times-zero (shifted poly) r);
}

-- the words of a POKEY's registers in a move
module _ {p : PokeyValue} {noise : Noise} (is : IsNoise p noise) (n : ℕ) (running : is_held p.skctl ≡ false) where
  pub four-for : p.poly4 < 16 → IsWordFor Four p.poly4 noise.four (n % 15) n
  four-for small = record { since = 0; is = is.four running; same = rw zero-add (four-wraps n p.poly4 small) }

  pub five-for : p.poly5 < 32 → IsWordFor Five p.poly5 noise.five (n % 31) n
  five-for small = record { since = 0; is = is.five running; same = rw zero-add (five-wraps n p.poly5 small) }

  pub long-for : noise.since ≤ n → IsWordFor (long_poly p.audctl) (long_register p) noise.long (n - noise.since) n
  long-for since =
      let whole : noise.since + (n - noise.since) ≡ n = omega arith in
      record { since = noise.since; is = is.long running; same = ap (λ (m : ℕ). times (shifted (long_poly p.audctl)) m (long_register p)) whole }

  pub nine-for : is_bit p.audctl 7 ≡ true → noise.since ≤ n → IsWordFor Nine p.poly9 noise.long (n - noise.since) n
  nine-for e since = rw e at (long-for since)

  pub seventeen-for : is_bit p.audctl 7 ≡ false → noise.since ≤ n → IsWordFor Seventeen p.poly17 noise.long (n - noise.since) n
  seventeen-for e since = rw e at (long-for since)

pub ruleset words = word-later
