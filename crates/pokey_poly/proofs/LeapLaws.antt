-- Words made longer, bit by bit; and many shifts at once: a register is a window on the bits that
-- leave it from a value on.
use Rattle.std.proofs.Common.{◌≡◌, ℕ, ◌+◌, ◌*◌, ◌-◌, ◌/◌, ◌%◌, ◌^◌, ◌<◌, bit_and, bit_or, bit_xor, arith, pow_pos, sym, ap, ◌∙◌, ◌≤◌, ◌==◌, ◌⊎◌, inl, inr, zero, suc, add-one}
use Rattle.std.proofs.Math.Nat.{add-zero, div-div-eq-div-mul, mul-div_left, mul-mod_left}
use Rattle.std.proofs.lemmas.Nat.{and_mask, div-add-mod', mod-pow-add, pow-add, pow_below}
use Rattle.std.proofs.lemmas.Nat.Bits.{bit_at_xor, bit_at_cat_low, bit_at_cat_high, same_from_bits_below}
use Rattle.std.proofs.lemmas.Bool.{cases_lt}
use Rattle.std.specs.Int.{bit_at}
use Rattle.std.specs.Int.Bits.{or_shifted_r}
use Rattle.bit_words.specs.Bits.{is_bit}
use Rattle.board_base.specs.Ticks.{times}
use Rattle.board_base.proofs.TickLaws.{times-add, times-more, times-zero}
use Rattle.pokey_poly.specs.declared.poly.Poly.{Poly}
use Rattle.pokey_poly.specs.declared.poly.Poly.TheVariants.{Four, Five, Nine, Seventeen}
use Rattle.pokey_poly.specs.Shift.{leaving, moved, shifted, width_of, IsAhead}
use Rattle.pokey_poly.proofs.Moves.{incoming-sum, moved-below, moved-lt, moved-top}

-- a bit of a number that has moved down
pub further : (n k j : ℕ) → bit_at (n / 2 ^ k) j ≡ bit_at n (k + j)
further n k j =
    ap (λ (m : ℕ). m % 2) (div-div-eq-div-mul n (2 ^ k) (2 ^ j) ∙ ap (λ (p : ℕ). n / p) (sym (pow-add 2 k j)))

-- the lowest bits of a number
pub lowest : (n width j : ℕ) → j < width → bit_at (n % 2 ^ width) j ≡ bit_at n j
lowest n width j h =
    sym (bit_at_cat_low (n / 2 ^ width) width (n % 2 ^ width) j h) ∙ ap (λ (m : ℕ). bit_at m j) (div-add-mod' n (2 ^ width))

-- a number moved up in 64 bits
moved-up : (x place : ℕ) → place < 64 → x * 2 ^ place % 2 ^ 64 ≡ x % 2 ^ (64 - place) * 2 ^ place
moved-up x place few =
    let split : 64 ≡ (64 - place) + place = omega arith in
    let down : x * 2 ^ place / 2 ^ place ≡ x = mul-div_left x (pow_pos place) in
    ap (λ (n : ℕ). x * 2 ^ place % 2 ^ n) split
    ∙ mod-pow-add (x * 2 ^ place) (64 - place) place
    ∙ ap (λ (n : ℕ). n % 2 ^ (64 - place) * 2 ^ place + x * 2 ^ place % 2 ^ place) down
    ∙ ap (λ (n : ℕ). x % 2 ^ (64 - place) * 2 ^ place + n) (mul-mod_left x (2 ^ place))
    ∙ add-zero (x % 2 ^ (64 - place) * 2 ^ place)

module _ (word place tap : ℕ) (few : place < 64) where
  -- the bits that come in
  abbrev coming : ℕ
  coming = bit_xor word (word / 2 ^ tap)

  -- the word as the code computes it
  abbrev coded : ℕ
  coded = bit_or (bit_and word (1 * 2 ^ place % 2 ^ 64 - 1)) (coming * 2 ^ place % 2 ^ 64)

  -- as a sum of its two parts
  parts : coded ≡ coming % 2 ^ (64 - place) * 2 ^ place + word % 2 ^ place
  parts =
      let mask : 1 * 2 ^ place % 2 ^ 64 ≡ 2 ^ place = omega (arith, pow_below place 64 few) in
      rw (mask, and_mask word place, moved-up coming place few)
      (or_shifted_r (coming % 2 ^ (64 - place)) place (word % 2 ^ place) (omega (arith, pow_pos place)))

  pub longer-low : (j : ℕ) → j < place → bit_at coded j ≡ bit_at word j
  longer-low j below =
      ap (λ (n : ℕ). bit_at n j) parts
      ∙ bit_at_cat_low (coming % 2 ^ (64 - place)) place (word % 2 ^ place) j below
      ∙ lowest word place j below

  pub longer-high : (j : ℕ) → j + place < 64 → bit_at coded (j + place) ≡ (bit_at word j + bit_at word (j + tap)) % 2
  longer-high j below =
      let back : j + place - place ≡ j = omega arith in
      let other : tap + j ≡ j + tap = omega arith in
      ap (λ (n : ℕ). bit_at n (j + place)) parts
      ∙ bit_at_cat_high (coming % 2 ^ (64 - place)) place (word % 2 ^ place) (j + place) (omega (arith, pow_pos place)) (omega arith)
      ∙ ap (bit_at (coming % 2 ^ (64 - place))) back
      ∙ lowest coming (64 - place) j (omega arith)
      ∙ bit_at_xor word (word / 2 ^ tap) j
      ∙ ap (λ (d : ℕ). (bit_at word j + d) % 2) (further word tap j ∙ ap (bit_at word) other)

pub ruleset words = (longer-low, longer-high)

module _ (top tap r : ℕ) (small : r < 2 ^ (top + 1)) where
  -- the register after some shifts
  abbrev after : ℕ → ℕ
  after k = times (moved (top + 1) tap) k r

  -- the bit that leaves it then
  abbrev out : ℕ → ℕ
  out j = bit_at (after j) 0

  -- it keeps its width
  pub after-lt : (k : ℕ) → after k < 2 ^ (top + 1)
  after-lt zero = rw (times-zero (moved (top + 1) tap) r) small
  after-lt (suc k) = rw (← add-one k, times-more (moved (top + 1) tap) k r) (moved-lt top tap (after k) (after-lt k))

  -- each of its bits leaves it as many shifts later as it stands high
  pub leaves : (j k : ℕ) → j < top + 1 → bit_at (after k) j ≡ out (k + j)
  leaves zero k below =
      let first : k ≡ k + 0 = omega arith in
      ap out first
  leaves (suc j) k below =
      let place : k + 1 + j ≡ k + suc j = omega arith in
      ap (bit_at (after k)) (sym (add-one j))
      ∙ sym (moved-below top tap (after k) j (after-lt k) (omega arith))
      ∙ ap (λ (s : ℕ). bit_at s j) (sym (times-more (moved (top + 1) tap) k r))
      ∙ leaves j (k + 1) (omega arith)
      ∙ ap out place

  -- so its bits are those that leave it first
  pub starts : (j : ℕ) → j < top + 1 → bit_at r j ≡ out j
  starts j below =
      let first : 0 + j ≡ j = omega arith in
      ap (λ (s : ℕ). bit_at s j) (sym (times-zero (moved (top + 1) tap) r)) ∙ leaves j 0 below ∙ ap out first

  -- and a bit that leaves is the sum of two that left before
  pub sums : tap ≤ top → (m : ℕ) → out (m + (top + 1)) ≡ (out (m + tap) + out m) % 2
  sums inside m =
      let place : m + 1 + top ≡ m + (top + 1) = omega arith in
      sym (leaves top (m + 1) (omega arith) ∙ ap out place)
      ∙ ap (λ (s : ℕ). bit_at s top) (times-more (moved (top + 1) tap) m r)
      ∙ moved-top top tap (after m) (after-lt m)
      ∙ incoming-sum tap (after m)
      ∙ ap (λ (d : ℕ). (d + out m) % 2) (leaves tap m (omega arith))

  -- so it is a window on a word of them
  pub window : (word known k : ℕ) → ((j : ℕ) → j < known → bit_at word j ≡ out j) → k + (top + 1) ≤ known
      → word / 2 ^ k % 2 ^ (top + 1) ≡ after k
  window word known k ahead within =
      same_from_bits_below (top + 1) (word / 2 ^ k % 2 ^ (top + 1)) (after k) (omega (arith, pow_pos (top + 1))) (after-lt k)
      (λ j below. lowest (word / 2 ^ k) (top + 1) j below ∙ further word k j ∙ ahead (k + j) (omega arith) ∙ sym (leaves j k below))

-- each bit that leaves a register is the sum of two that left it before
pub record AreSums (poly : Poly) (r place tap : ℕ) : Type 0 where
  pub sum : (m : ℕ) → leaving poly r (m + place) ≡ (leaving poly r (m + tap) + leaving poly r m) % 2

-- and then also the sum of two twice as far back
pub doubled : {poly : Poly} {r place tap : ℕ} → AreSums poly r place tap → AreSums poly r (place + place) (tap + tap)
doubled {poly} {r} {place} {tap} sums = record { sum = λ m. twice m }
  where
    twice : (m : ℕ) → leaving poly r (m + (place + place)) ≡ (leaving poly r (m + (tap + tap)) + leaving poly r m) % 2
    twice m =
        let far : m + (place + place) ≡ m + place + place = omega arith in
        let crossed : m + place + tap ≡ m + tap + place = omega arith in
        let near : m + tap + tap ≡ m + (tap + tap) = omega arith in
        let first : leaving poly r (m + (place + place)) ≡ (leaving poly r (m + tap + place) + leaving poly r (m + place)) % 2
        = ap (leaving poly r) far ∙ sums.sum (m + place) ∙ ap (λ (k : ℕ). (leaving poly r k + leaving poly r (m + place)) % 2) crossed in
        let second : leaving poly r (m + tap + place) ≡ (leaving poly r (m + (tap + tap)) + leaving poly r (m + tap)) % 2
        = sums.sum (m + tap) ∙ ap (λ (k : ℕ). (leaving poly r k + leaving poly r (m + tap)) % 2) near in
        omega (arith, first, second, sums.sum m)

-- a word of bits that leave, made longer by such sums
pub longer : {poly : Poly} {r place tap known more word new : ℕ} → AreSums poly r place tap → IsAhead poly r known word
    → ((j : ℕ) → j < place → bit_at new j ≡ bit_at word j) → ((j : ℕ) → j + place < 64 → bit_at new (j + place) ≡ (bit_at word j + bit_at word (j + tap)) % 2)
    → (tap ≤ place) × (place ≤ known) × (more + tap ≤ known + place) × (more ≤ 64) → IsAhead poly r more new
longer {poly} {r} {place} {tap} {known} {more} {word} {new} sums ahead low high fits = record { bit = λ j below. longer-bit j below (cases_lt j place) }
  where
    longer-bit : (j : ℕ) → j < more → (j < place) ⊎ (place ≤ j) → bit_at new j ≡ leaving poly r j
    longer-bit j below (inl lower) = low j lower ∙ ahead.bit j (omega arith)
    longer-bit j below (inr higher) =
        let m : ℕ = j - place in
        let here : m + place ≡ j = omega arith in
        let whole : bit_at new (m + place) ≡ leaving poly r (m + place)
        = omega (arith, ahead.bit (m + tap) (omega arith), ahead.bit m (omega arith), high m (omega arith), sums.sum m) in
        ap (bit_at new) (sym here) ∙ whole ∙ ap (leaving poly r) here

-- the two long registers
pub nine-sums : (r : ℕ) → r < 2 ^ 9 → AreSums Nine r 9 4
unfolding shifted
nine-sums r small = record { sum = sums 8 4 r small (omega arith) }

pub nine-start : (r : ℕ) → r < 2 ^ 9 → IsAhead Nine r 9 r
unfolding shifted
nine-start r small = record { bit = starts 8 4 r small }

pub seventeen-sums : (r : ℕ) → r < 2 ^ 17 → AreSums Seventeen r 17 5
unfolding shifted
seventeen-sums r small = record { sum = sums 16 5 r small (omega arith) }

pub seventeen-start : (r : ℕ) → r < 2 ^ 17 → IsAhead Seventeen r 17 r
unfolding shifted
seventeen-start r small = record { bit = starts 16 5 r small }

-- of each register
pub poly-window : (poly : Poly) (r word known k : ℕ) → r < 2 ^ width_of poly → IsAhead poly r known word → k + width_of poly ≤ known
    → word / 2 ^ k % 2 ^ width_of poly ≡ times (shifted poly) k r
unfolding shifted
poly-window Four r word known k small ahead within = window 3 1 r small word known k ahead.bit within
poly-window Five r word known k small ahead within = window 4 2 r small word known k ahead.bit within
poly-window Nine r word known k small ahead within = window 8 4 r small word known k ahead.bit within
poly-window Seventeen r word known k small ahead within = window 16 5 r small word known k ahead.bit within

pub poly-after-lt : (poly : Poly) (k r : ℕ) → r < 2 ^ width_of poly → times (shifted poly) k r < 2 ^ width_of poly
unfolding shifted
poly-after-lt Four k r small = after-lt 3 1 r small k
poly-after-lt Five k r small = after-lt 4 2 r small k
poly-after-lt Nine k r small = after-lt 8 4 r small k
poly-after-lt Seventeen k r small = after-lt 16 5 r small k

width-few : (poly : Poly) → width_of poly < 64
width-few poly = grind arith

width-some : (poly : Poly) → 1 ≤ width_of poly
width-some poly = grind arith

-- a word of the bits that leave a register begins with it
pub ahead-start : (poly : Poly) (r word known : ℕ) → r < 2 ^ width_of poly → width_of poly ≤ known → IsAhead poly r known word → word % 2 ^ width_of poly ≡ r
ahead-start poly r word known small enough ahead =
    let whole : word / 2 ^ 0 ≡ word = omega arith in
    ap (λ (n : ℕ). n % 2 ^ width_of poly) (sym whole)
    ∙ poly-window poly r word known 0 small ahead (omega arith)
    ∙ times-zero (shifted poly) r

-- a bit of it is the output after as many shifts
pub output-code : (poly : Poly) (r word n : ℕ) → n ≤ 47 → IsAhead poly r (47 + width_of poly) word
    → (bit_and (word / 2 ^ n) 1 == 1) ≡ is_bit (times (shifted poly) n r) 0
output-code poly r word n few ahead =
    ap (λ (d : ℕ). d == 1) (and_mask (word / 2 ^ n) 1 ∙ ahead.bit n (omega (arith, width-some poly)))

pub ruleset outputs = output-code

-- a move, as the code computes it
pub move-code : (poly : Poly) (r word n : ℕ) → r < 2 ^ width_of poly → n ≤ 47 → IsAhead poly r (47 + width_of poly) word
    → bit_and (word / 2 ^ n) (1 * 2 ^ width_of poly % 2 ^ 64 - 1) ≡ times (shifted poly) n r
move-code poly r word n small few ahead =
    let mask : 1 * 2 ^ width_of poly % 2 ^ 64 ≡ 2 ^ width_of poly = omega (arith, pow_below (width_of poly) 64 (width-few poly)) in
    rw (mask, and_mask (word / 2 ^ n) (width_of poly))
    (poly-window poly r word (47 + width_of poly) n small ahead (omega arith))

-- of a word that begins with its register
pub window-code : (poly : Poly) (word n : ℕ) → n ≤ 47 → IsAhead poly (word % 2 ^ width_of poly) (47 + width_of poly) word
    → bit_and (word / 2 ^ n) (1 * 2 ^ width_of poly % 2 ^ 64 - 1) ≡ times (shifted poly) n (word % 2 ^ width_of poly)
window-code poly word n few ahead = move-code poly (word % 2 ^ width_of poly) word n (omega (arith, pow_pos (width_of poly))) few ahead

pub window-lt : (poly : Poly) (word n : ℕ) → times (shifted poly) n (word % 2 ^ width_of poly) < 2 ^ width_of poly
window-lt poly word n = poly-after-lt poly n (word % 2 ^ width_of poly) (omega (arith, pow_pos (width_of poly)))

pub ruleset windows = (window-code, window-lt, poly-after-lt)

-- a move less is left to make
pub move-done : (tick : ℕ → ℕ) (left k now start : ℕ) → k ≤ left → times tick left now ≡ start → times tick (left - k) (times tick k now) ≡ start
move-done tick left k now start within e =
    let split : k + (left - k) ≡ left = omega arith in
    sym (times-add tick k (left - k) now) ∙ ap (λ (n : ℕ). times tick n now) split ∙ e

pub ruleset moves = move-done
