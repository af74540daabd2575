-- A shift by arithmetic: half the number, and the new bit at the top; and what it says of each bit.
use Rattle.std.proofs.Common.{◌≡◌, ℕ, ◌+◌, ◌*◌, ◌/◌, ◌%◌, ◌^◌, ◌<◌, ◌≤◌, ◌==◌, Bool, zero, suc, bit_and, bit_or, bit_xor, [], ◌∷◌, ◌++◌, map, refl, arith, sym, ap, ◌∙◌, add-one, add_comm}
use Rattle.std.proofs.Math.Bool.{xor}
use Rattle.std.proofs.Math.Nat.{sub_self, two-pow-succ, div-div-eq-div-mul}
use Rattle.std.specs.Int.Bits.{or_shifted_r}
use Rattle.std.proofs.lemmas.Nat.{and_mask, pow_below}
use Rattle.std.proofs.lemmas.Bool.Decides.{nat_tests}
use Rattle.std.proofs.lemmas.Nat.Bits.{bit_at-lt, bit_at-suc, bit_at_cat_high, bit_at_cat_low, bit_at_lowest, bit_at_xor}
use Rattle.std.specs.Int.{bit_at, from_bool}
use Rattle.std.specs.List.{range_with_len}
use Rattle.bit_words.specs.Bits.{is_bit, number}
use Rattle.pokey_poly.specs.Shift.{incoming, moved}

-- a digit as a Bool and back
digit-bool : (d : ℕ) → d < 2 → from_bool (d == 1) ≡ d
digit-bool d two = grind (arith, nat_tests)

pub from-is_bit : (r k : ℕ) → from_bool (is_bit r k) ≡ bit_at r k
from-is_bit r k = digit-bool (bit_at r k) (bit_at-lt r k)

-- a bit further on, halved once more
halved : (r a : ℕ) → r / 2 ^ (a + 1) ≡ r / 2 ^ a / 2
halved r a =
    let doubled : 2 ^ (a + 1) ≡ 2 ^ a * 2 = rw add-one (omega (arith, two-pow-succ a)) in
    ap (λ (n : ℕ). r / n) doubled ∙ sym (div-div-eq-div-mul r (2 ^ a) 2)

-- the number with the bits of another from a place on, and one more at the top
number-from : (width a r : ℕ) (b : Bool) → r / 2 ^ a < 2 ^ width
    → number (map (is_bit r) (range_with_len a width) ++ b ∷ []) ≡ r / 2 ^ a + from_bool b * 2 ^ width
number-from zero a r b h = omega arith
number-from (suc width) a r b h =
    let doubled : 2 ^ suc width ≡ 2 ^ width + 2 ^ width = two-pow-succ width in
    let half : r / 2 ^ (a + 1) < 2 ^ width = rw (halved r a) (omega arith) in
    rw (from-is_bit r a, number-from width (a + 1) r b half, halved r a, doubled) (omega arith)

sum-xor : (a b : Bool) → from_bool (xor a b) ≡ (from_bool a + from_bool b) % 2
unfolding xor
sum-xor a b = grind arith

-- the bit that comes in
pub incoming-sum : (tap r : ℕ) → from_bool (incoming tap r) ≡ (bit_at r tap + bit_at r 0) % 2
incoming-sum tap r = rw (sum-xor (is_bit r tap) (is_bit r 0), from-is_bit r tap, from-is_bit r 0) refl

pub incoming-lt : (tap r : ℕ) → from_bool (incoming tap r) < 2
incoming-lt tap r = omega (arith, incoming-sum tap r)

-- the code takes it from the number by shifting and masking
masked : (r tap : ℕ) → bit_and (bit_xor (r / 2 ^ tap) r) 1 ≡ from_bool (incoming tap r)
masked r tap =
    and_mask (bit_xor (r / 2 ^ tap) r) 1
    ∙ sym (bit_at_lowest (bit_xor (r / 2 ^ tap) r))
    ∙ bit_at_xor (r / 2 ^ tap) r 0
    ∙ ap (λ (n : ℕ). (n + bit_at r 0) % 2) (bit_at_lowest (r / 2 ^ tap))
    ∙ sym (incoming-sum tap r)

pub moved-sum : (top tap r : ℕ) → r < 2 ^ (top + 1) → moved (top + 1) tap r ≡ r / 2 + from_bool (incoming tap r) * 2 ^ top
unfolding moved
moved-sum top tap r h =
    let doubled : 2 ^ suc top ≡ 2 ^ top + 2 ^ top = two-pow-succ top in
    let half : r / 2 ^ (0 + 1) < 2 ^ top = omega (arith, rw add-one at h) in
    let e : moved (suc top) tap r ≡ r / 2 ^ (0 + 1) + from_bool (incoming tap r) * 2 ^ top = number-from top (0 + 1) r (incoming tap r) half in
    rw add-one e

digit-times : (t p : ℕ) → t < 2 → t * p ≤ p
digit-times zero p two = omega arith
digit-times (suc zero) p two = omega arith
digit-times (suc (suc t)) p two = absurd (omega arith)

-- a digit at a place below 31 fits 32 bits
placed : (t p : ℕ) → t < 2 → p < 2 ^ 31 → t * p % 2 ^ 32 ≡ t * p
placed t p two small = omega (arith, digit-times t p two)

pub moved-lt : (top tap r : ℕ) → r < 2 ^ (top + 1) → moved (top + 1) tap r < 2 ^ (top + 1)
moved-lt top tap r h =
    let doubled : 2 ^ suc top ≡ 2 ^ top + 2 ^ top = two-pow-succ top in
    let half : r / 2 < 2 ^ top = omega (arith, rw add-one at h) in
    let few : from_bool (incoming tap r) * 2 ^ top ≤ 2 ^ top = digit-times (from_bool (incoming tap r)) (2 ^ top) (incoming-lt tap r) in
    rw (moved-sum top tap r h, add-one, doubled) (omega arith)

-- a shift, as the code computes it
pub moves : (top tap r : ℕ) → top < 31 → r < 2 ^ (top + 1) → bit_or (r / 2) (bit_and (bit_xor (r / 2 ^ tap) r) 1 * 2 ^ top % 2 ^ 32) ≡ moved (top + 1) tap r
moves top tap r low h =
    let doubled : 2 ^ suc top ≡ 2 ^ top + 2 ^ top = two-pow-succ top in
    let half : r / 2 < 2 ^ top = omega (arith, rw add-one at h) in
    let fits : from_bool (incoming tap r) * 2 ^ top % 2 ^ 32 ≡ from_bool (incoming tap r) * 2 ^ top = (placed (from_bool (incoming tap r)) (2 ^ top) (incoming-lt tap r) (pow_below top 31 low)) in
    let joined : bit_or (r / 2) (from_bool (incoming tap r) * 2 ^ top) ≡ from_bool (incoming tap r) * 2 ^ top + r / 2 = or_shifted_r (from_bool (incoming tap r)) top (r / 2) half in
    rw (masked r tap, fits, joined, moved-sum top tap r h) (omega arith)

-- bit k of the new register is bit k + 1 of the old one
pub moved-below : (top tap r k : ℕ) → r < 2 ^ (top + 1) → k < top → bit_at (moved (top + 1) tap r) k ≡ bit_at r (k + 1)
moved-below top tap r k h below =
    ap (λ (n : ℕ). bit_at n k) (moved-sum top tap r h ∙ add_comm (r / 2) (from_bool (incoming tap r) * 2 ^ top))
    ∙ bit_at_cat_low (from_bool (incoming tap r)) top (r / 2) k below
    ∙ rw add-one (sym (bit_at-suc r k))

digit : (t : ℕ) → t < 2 → bit_at t 0 ≡ t
digit t two = omega (arith, bit_at_lowest t)

-- the top bit of the new register is the exclusive or of the tap and bit 0
pub moved-top : (top tap r : ℕ) → r < 2 ^ (top + 1) → bit_at (moved (top + 1) tap r) top ≡ from_bool (incoming tap r)
moved-top top tap r h =
    let doubled : 2 ^ suc top ≡ 2 ^ top + 2 ^ top = two-pow-succ top in
    let half : r / 2 < 2 ^ top = omega (arith, rw add-one at h) in
    ap (λ (n : ℕ). bit_at n top) (moved-sum top tap r h ∙ add_comm (r / 2) (from_bool (incoming tap r) * 2 ^ top))
    ∙ bit_at_cat_high (from_bool (incoming tap r)) top (r / 2) top half (omega arith)
    ∙ ap (λ (k : ℕ). bit_at (from_bool (incoming tap r)) k) (sub_self top)
    ∙ digit (from_bool (incoming tap r)) (incoming-lt tap r)

bool-digit : (b : Bool) → (from_bool b == 1) ≡ b
bool-digit b = grind arith

-- as tests of a bit
pub is-below : (top tap r k : ℕ) → r < 2 ^ (top + 1) → k < top → is_bit (moved (top + 1) tap r) k ≡ is_bit r (k + 1)
is-below top tap r k h below = ap (λ (n : ℕ). n == 1) (moved-below top tap r k h below)

pub is-top : (top tap r : ℕ) → r < 2 ^ (top + 1) → is_bit (moved (top + 1) tap r) top ≡ incoming tap r
is-top top tap r h = ap (λ (n : ℕ). n == 1) (moved-top top tap r h) ∙ bool-digit (incoming tap r)

pub ruleset shifts = (moves, moved-lt, is-below, is-top)
