-- What the four channels' underflows in a clock do to each bit of the tones, the filters and the
-- requests, what a clock makes of it, and that the words in which a move has the tones say the same.
use Rattle.std.proofs.Common.{◌≡◌, ℕ, ◌+◌, ◌*◌, ◌/◌, ◌%◌, ◌<◌, ◌==◌, Bool, true, false, not, zero, suc, ◌&&◌, if◌then◌else◌, refl, arith, sym, ap, ◌∙◌, List, slice_index, ◌||◌, [], ◌∷◌}
use Rattle.std.proofs.lemmas.Bool.Decides.{nat_tests}
use Rattle.std.proofs.lemmas.Nat.Bits.{same_from_bits_below}
use Rattle.std.specs.Int.{bit_at, from_bool}
use Rattle.bit_words.specs.Bits.{is_bit, number}
use Rattle.bit_words.proofs.Tables.{same_by_tables}
use Rattle.board_base.specs.Pokey.{PokeyValue}
use Rattle.board_base.specs.Ticks.{ticks, times}
use Rattle.pokey_poly.specs.declared.poly.Poly.TheVariants.{Nine, Seventeen}
use Rattle.pokey_poly.proofs.Moves.{from-is_bit}
use Rattle.pokey_chip.specs.declared.channel.Channel.{Channel}
use Rattle.pokey_chip.specs.declared.channel.Channel.TheVariants.{First, Second, Third, Fourth}
use Rattle.pokey_chip.specs.declared.control.TheConstants.{FOUR_BITS, NO_FIVE_BITS, PURE_TONE}
use Rattle.pokey_chip.specs.declared.noise.Outputs.{Outputs}
use Rattle.pokey_chip.specs.declared.tones.Tuning.{Tuning}
use Rattle.pokey_chip.specs.Channels.{place}
use Rattle.pokey_chip.specs.Moves.{underflow_effects}
use Rattle.pokey_chip.specs.Tick.{long_register, new_tone, passed, requested, toned, tone_of, underflow_effect, with_bit, base_pulses, channel_ticked, channels_ticked}
use Rattle.pokey_chip.specs.Tick.{clocked, pokey_tick, pot_counted, underflows, with_left, filtered, is_held, level, levels_of, rolled, signal}
use Rattle.pokey_chip.specs.Tones.{asker, audc_of, follower, of_channel, has, level_on, levels_on, next_tone, requests_made, IsTuning}
use Rattle.pokey_chip.specs.Noise.{long_poly}
use Rattle.pokey_chip.proofs.BitLemmas.{with_bit_fits, with_bit_fits_two, with_bit_fits_three}
use Rattle.pokey_chip.proofs.ToneLaws.{place-few, of-each, no-bits}
use Rattle.pokey_chip.proofs.CountLaws.{counted_on, counts-first}
use Rattle.pokey_chip.proofs.RegisterLaws.{audc-kept, audctl-kept, irqen-kept, kept}

-- each bit of a number with one bit made the given one
written-by : (bit : Bool) (m : ℕ) → m < 16 → (n : ℕ) → n < 16 → is_bit (with_bit n (m / 4) bit) (m % 4) ≡ (if m / 4 == m % 4 then bit else is_bit n (m % 4))
unfolding with_bit
written-by true = same_by_tables 16 16 (λ m n. is_bit (with_bit n (m / 4) true) (m % 4)) (λ m n. if m / 4 == m % 4 then true else is_bit n (m % 4)) refl
written-by false = same_by_tables 16 16 (λ m n. is_bit (with_bit n (m / 4) false) (m % 4)) (λ m n. if m / 4 == m % 4 then false else is_bit n (m % 4)) refl

written : (k j n : ℕ) (bit : Bool) → k < 4 → j < 4 → n < 16 → is_bit (with_bit n k bit) j ≡ (if k == j then bit else is_bit n j)
written k j n bit h g small =
    let high : (4 * k + j) / 4 ≡ k = omega arith in
    let low : (4 * k + j) % 4 ≡ j = omega arith in
    rw (high, low) at (written-by bit (4 * k + j) (omega arith) n small)

-- and of one where that was done or wasn't
put-bit : (u bit : Bool) (k j n : ℕ) → k < 4 → j < 4 → n < 16 → is_bit (if u then with_bit n k bit else n) j ≡ (if (k == j) && u then bit else is_bit n j)
put-bit u bit k j n h g small = grind (arith, written)

-- words of as many bits as they have
pub record IsSmall (p : PokeyValue) : Type 0 where
  pub tone : p.tone < 16
  pub pass : p.pass < 4
  pub irqst : p.irqst < 8

either-small : (u : Bool) (a b m : ℕ) → a < m → b < m → (if u then a else b) < m
either-small true a b m h g = h
either-small false a b m h g = g

passed-small : (c : Channel) (r : PokeyValue) → r.pass < 4 → passed c r < 4
unfolding passed
passed-small c r few = grind (arith, with_bit_fits_two)

requested-small : (c : Channel) (r : PokeyValue) → r.irqst < 8 → requested c r < 8
unfolding requested
requested-small c r few = grind (arith, with_bit_fits_three)

effect-small : (u : Bool) (c : Channel) (r : PokeyValue) → IsSmall r → IsSmall (underflow_effect u c r)
unfolding underflow_effect toned
effect-small u c r small = record {
  tone = either-small u _ _ 16 (with_bit_fits (place c) (place-few c) r.tone small.tone (new_tone (audc_of r c) c r)) small.tone;
  pass = either-small u _ _ 4 (passed-small c r small.pass) small.pass;
  irqst = either-small u _ _ 8 (requested-small c r small.irqst) small.irqst;
}

-- the effect of a channel's underflow on a tone bit, and on a request
effect-tone : (u : Bool) (c d : Channel) (r : PokeyValue) → IsSmall r
    → tone_of d (underflow_effect u c r) ≡ (if (place c == place d) && u then new_tone (audc_of r c) c r else tone_of d r)
unfolding underflow_effect toned
effect-tone u c d r small = put-bit u (new_tone (audc_of r c) c r) (place c) (place d) r.tone (place-few c) (place-few d) small.tone

asked-bit : (u enabled : Bool) (n k j : ℕ) → k < 3 → j < 3 → n < 8
    → is_bit (if u then (if enabled then with_bit n k false else n) else n) j ≡ (is_bit n j && not ((k == j) && (u && enabled)))
asked-bit u enabled n k j h g small = grind (arith, written)

same-either : {A : Type 0} (u : Bool) (x : A) → (if u then x else x) ≡ x
same-either u x = grind arith

only-one : (x y : Bool) → ((((x && not y) && true) && true) ≡ (x && not y)) × ((((x && true) && not y) && true) ≡ (x && not y)) × ((((x && true) && true) && not y) ≡ (x && not y))
only-one x y = grind arith

-- the tone bit after an underflow, by the one before
abbrev pub next_by : ℕ → PokeyValue → Bool → Bool
next_by audc r tone =
    if not (is_bit audc NO_FIVE_BITS) && not (is_bit r.poly5 0) then tone
    else if is_bit audc PURE_TONE then not tone
    else if is_bit audc FOUR_BITS then is_bit r.poly4 0
    else is_bit (long_register r) 0

module _ (a b c d : Bool) (r : PokeyValue) (small : IsSmall r) where
  abbrev one : PokeyValue
  one = underflow_effect a First r

  abbrev two : PokeyValue
  two = underflow_effect b Second one

  abbrev three : PokeyValue
  three = underflow_effect c Third two

  one-small : IsSmall one
  one-small = effect-small a First r small

  two-small : IsSmall two
  two-small = effect-small b Second one one-small

  three-small : IsSmall three
  three-small = effect-small c Third two two-small

  pub effects-small : IsSmall (underflow_effects a b c d r)
  unfolding underflow_effects
  effects-small = effect-small d Fourth three three-small

  pub effects-tone : (ch : Channel) → tone_of ch (underflow_effects a b c d r) ≡ (if of_channel a b c d ch then next_by (audc_of r ch) r (tone_of ch r) else tone_of ch r)
  unfolding underflow_effects underflow_effect
  effects-tone ch =
      grind (arith, effect-tone d Fourth ch three three-small, effect-tone c Third ch two two-small, effect-tone b Second ch one one-small, effect-tone a First ch r small)

  pass-two : two.pass ≡ r.pass
  unfolding underflow_effect passed
  pass-two = same-either b (if a then r.pass else r.pass) ∙ same-either a r.pass

  third-pass : (j : ℕ) → j < 4 → is_bit three.pass j ≡ (if (0 == j) && c then tone_of First two else is_bit r.pass j)
  unfolding underflow_effect passed
  third-pass j within =
      put-bit c (tone_of First two) 0 j two.pass (omega arith) within (omega (arith, two-small.pass))
      ∙ ap (λ (n : ℕ). if (0 == j) && c then tone_of First two else is_bit n j) pass-two

  -- channels 3 and 4 take the tone bits of channels 1 and 2 as these have become
  pub effects-pass : (k : ℕ) → k < 2 → is_bit (underflow_effects a b c d r).pass k ≡ (if of_channel a b c d (follower k) then is_bit (underflow_effects a b c d r).tone k else is_bit r.pass k)
  unfolding underflow_effects underflow_effect passed
  effects-pass zero below =
      put-bit d (tone_of Second three) 1 0 three.pass (omega arith) (omega arith) (omega (arith, three-small.pass))
      ∙ third-pass 0 (omega arith)
      ∙ ap (λ (t : Bool). if c then t else is_bit r.pass 0) (sym (effect-tone d Fourth First three three-small ∙ effect-tone c Third First two two-small))
  effects-pass (suc zero) below =
      put-bit d (tone_of Second three) 1 1 three.pass (omega arith) (omega arith) (omega (arith, three-small.pass))
      ∙ ap (λ (t : Bool). if d then t else is_bit three.pass 1) (sym (effect-tone d Fourth Second three three-small))
      ∙ ap (λ (t : Bool). if d then is_bit (underflow_effects a b c d r).tone 1 else t) (third-pass 1 (omega arith))
  effects-pass (suc (suc k)) below = absurd (omega arith)

  effects-asked : (j : ℕ) → j < 3 → is_bit (underflow_effects a b c d r).irqst j
      ≡ (((is_bit r.irqst j && not ((0 == j) && (a && is_bit r.irqen 0))) && not ((1 == j) && (b && is_bit r.irqen 1))) && not ((2 == j) && (d && is_bit r.irqen 2)))
  unfolding underflow_effects underflow_effect requested
  effects-asked j h =
      grind (
        arith,
        asked-bit d (is_bit r.irqen 2) three.irqst 2 j (omega arith) h three-small.irqst,
        same-either c two.irqst,
        asked-bit b (is_bit r.irqen 1) one.irqst 1 j (omega arith) h one-small.irqst,
        asked-bit a (is_bit r.irqen 0) r.irqst 0 j (omega arith) h small.irqst,
      )

  pub effects-irqst : (j : ℕ) → j < 3 → is_bit (underflow_effects a b c d r).irqst j ≡ (is_bit r.irqst j && not (of_channel a b c d (asker j) && is_bit r.irqen j))
  effects-irqst zero below = effects-asked 0 below ∙ (only-one (is_bit r.irqst 0) (a && is_bit r.irqen 0)).0
  effects-irqst (suc zero) below = effects-asked 1 below ∙ (only-one (is_bit r.irqst 1) (b && is_bit r.irqen 1)).1
  effects-irqst (suc (suc zero)) below = effects-asked 2 below ∙ (only-one (is_bit r.irqst 2) (d && is_bit r.irqen 2)).2
  effects-irqst (suc (suc (suc j))) below = absurd (omega arith)

-- whether a channel underflows in the next clock
abbrev pub comes : PokeyValue → Channel → Bool
comes q c = underflows (base_pulses q) q c

next-counted : (audc : ℕ) (q : PokeyValue) (tone : Bool) → next_by audc (counted_on q) tone ≡ next_by audc (pokey_tick q) tone
unfolding counted_on pot_counted clocked pokey_tick channels_ticked channel_ticked with_left underflow_effect
next-counted audc q tone = refl

module _ (q : PokeyValue) (small : IsSmall q) where
  counted-small : IsSmall (counted_on q)
  unfolding counted_on pot_counted clocked
  counted-small = record { tone = small.tone; pass = small.pass; irqst = small.irqst }

  -- an underflow sets the channel's tone bit
  tick-tone : (c : Channel) → tone_of c (pokey_tick q) ≡ (if comes q c then next_by (audc_of q c) (pokey_tick q) (tone_of c q) else tone_of c q)
  unfolding counted_on pot_counted clocked
  tick-tone c =
      ap (tone_of c) (counts-first q)
      ∙ effects-tone _ _ _ _ (counted_on q) counted-small c
      ∙ rw (of-each (comes q) c) (ap (λ (t : Bool). if comes q c then t else tone_of c q) (next-counted (audc_of q c) q (tone_of c q)))

  -- one of channel 3 or 4 copies a tone bit
  tick-pass : (j : ℕ) → j < 2 → is_bit (pokey_tick q).pass j ≡ (if comes q (follower j) then is_bit (pokey_tick q).tone j else is_bit q.pass j)
  unfolding counted_on pot_counted clocked
  tick-pass j h = rw (← of-each (comes q) (follower j), counts-first q) (effects-pass _ _ _ _ (counted_on q) counted-small j h)

  -- one of another channel makes its request, where it is enabled
  tick-irqst : (j : ℕ) → j < 3 → is_bit (pokey_tick q).irqst j ≡ (is_bit q.irqst j && not (comes q (asker j) && is_bit q.irqen j))
  unfolding counted_on pot_counted clocked
  tick-irqst j h = rw (← of-each (comes q) (asker j)) (ap (λ (r : PokeyValue). is_bit r.irqst j) (counts-first q) ∙ effects-irqst _ _ _ _ (counted_on q) counted-small j h)

  tick-small : IsSmall (pokey_tick q)
  tick-small =
      let small : IsSmall _ = effects-small _ _ _ _ (counted_on q) counted-small in
      rw (counts-first q) (record { tone = small.tone; pass = small.pass; irqst = small.irqst })

pub small-after : (k : ℕ) (p : PokeyValue) → IsSmall p → IsSmall (times pokey_tick k p)
unfolding ticks
small-after zero p small = small
small-after (suc k) p small = tick-small (times pokey_tick k p) (small-after k p small)

-- a clock of a move
module _ (p : PokeyValue) (small : IsSmall p) (k : ℕ) where
  pub tone-after : (c : Channel) → tone_of c (times pokey_tick (suc k) p)
      ≡ (if comes (times pokey_tick k p) c then next_by (audc_of p c) (times pokey_tick (suc k) p) (tone_of c (times pokey_tick k p)) else tone_of c (times pokey_tick k p))
  unfolding ticks
  tone-after c =
      tick-tone (times pokey_tick k p) (small-after k p small) c
      ∙ ap (λ (audc : List ℕ). if comes (times pokey_tick k p) c
      then next_by (slice_index audc (place c)) (pokey_tick (times pokey_tick k p)) (tone_of c (times pokey_tick k p)) else tone_of c (times pokey_tick k p))
      (audc-kept k p)

  pub pass-after : (j : ℕ) → j < 2 → is_bit (times pokey_tick (suc k) p).pass j
      ≡ (if comes (times pokey_tick k p) (follower j) then is_bit (times pokey_tick (suc k) p).tone j else is_bit (times pokey_tick k p).pass j)
  unfolding ticks
  pass-after j h = tick-pass (times pokey_tick k p) (small-after k p small) j h

  pub irqst-after : (j : ℕ) → j < 3 → is_bit (times pokey_tick (suc k) p).irqst j
      ≡ (is_bit (times pokey_tick k p).irqst j && not (comes (times pokey_tick k p) (asker j) && is_bit p.irqen j))
  unfolding ticks
  irqst-after j h =
      tick-irqst (times pokey_tick k p) (small-after k p small) j h
      ∙ ap (λ (n : ℕ). is_bit (times pokey_tick k p).irqst j && not (comes (times pokey_tick k p) (asker j) && is_bit n j)) (irqen-kept k p)

-- numbers of a few bits that have the same bits
same-digit : (a b j : ℕ) → is_bit a j ≡ is_bit b j → bit_at a j ≡ bit_at b j
same-digit a b j e = sym (from-is_bit a j) ∙ ap from_bool e ∙ from-is_bit b j

pub four-same : (a b : ℕ) → a < 16 → b < 16 → ((c : Channel) → has a c ≡ has b c) → a ≡ b
four-same a b small few same = same_from_bits_below 4 a b small few digit
  where
    digit : (j : ℕ) → j < 4 → bit_at a j ≡ bit_at b j
    digit zero h = same-digit a b 0 (same First)
    digit (suc zero) h = same-digit a b 1 (same Second)
    digit (suc (suc zero)) h = same-digit a b 2 (same Third)
    digit (suc (suc (suc zero))) h = same-digit a b 3 (same Fourth)
    digit (suc (suc (suc (suc j)))) h = absurd (omega arith)

pub three-same : (a b : ℕ) → a < 8 → b < 8 → ((j : ℕ) → j < 3 → is_bit a j ≡ is_bit b j) → a ≡ b
three-same a b small few same = same_from_bits_below 3 a b small few (λ j h. same-digit a b j (same j h))

pub two-same : (a b : ℕ) → a < 4 → b < 4 → ((j : ℕ) → j < 2 → is_bit a j ≡ is_bit b j) → a ≡ b
two-same a b small few same = same_from_bits_below 2 a b small few (λ j h. same-digit a b j (same j h))

-- the bits of IRQST after underflows
number-bit : (a b c : Bool) → (is_bit (number (a ∷ b ∷ c ∷ [])) 0 ≡ a) × (is_bit (number (a ∷ b ∷ c ∷ [])) 1 ≡ b) × (is_bit (number (a ∷ b ∷ c ∷ [])) 2 ≡ c)
number-bit a b c = grind (arith, nat_tests)

number-fits : (a b c : Bool) → number (a ∷ b ∷ c ∷ []) < 8
number-fits a b c = grind arith

pub requests-fits : (underflowed irqen irqst : ℕ) → requests_made underflowed irqen irqst < 8
unfolding requests_made
requests-fits underflowed irqen irqst = number-fits _ _ _

pub requests-bit : (underflowed irqen irqst j : ℕ) → j < 3 → is_bit (requests_made underflowed irqen irqst) j ≡ (is_bit irqst j && not (has underflowed (asker j) && is_bit irqen j))
unfolding requests_made
requests-bit underflowed irqen irqst zero h = (number-bit _ _ _).0
requests-bit underflowed irqen irqst (suc zero) h = (number-bit _ _ _).1
requests-bit underflowed irqen irqst (suc (suc zero)) h = (number-bit _ _ _).2
requests-bit underflowed irqen irqst (suc (suc (suc j))) h = absurd (omega arith)

-- before the first underflow none stands that didn't
pub requests-none : (irqen irqst : ℕ) → irqst < 8 → requests_made 0 irqen irqst ≡ irqst
requests-none irqen irqst small =
    three-same (requests_made 0 irqen irqst) irqst (requests-fits 0 irqen irqst) small
    (λ j h. requests-bit 0 irqen irqst j h ∙ rw (no-bits (asker j)) (grind arith))

-- a request made twice is made once
pub both : (standing before now enabled : Bool)
    → (standing && not ((before || now) && enabled)) ≡ ((standing && not (before && enabled)) && not (now && enabled))
both standing before now enabled = grind arith

-- the long register
long-by : (b : Bool) (n : ℕ) (p : PokeyValue) → times (rolled (is_held p.skctl) (if b then Nine else Seventeen)) n (if b then p.poly9 else p.poly17)
    ≡ (if b then (times pokey_tick n p).poly9 else (times pokey_tick n p).poly17)
long-by b n p = grind (arith, (ap (λ (q : PokeyValue). q.poly9) (kept n p)), (ap (λ (q : PokeyValue). q.poly17) (kept n p)))

pub long-after : (n : ℕ) (p : PokeyValue) → times (rolled (is_held p.skctl) (long_poly p.audctl)) n (long_register p) ≡ long_register (times pokey_tick n p)
long-after n p = long-by (is_bit p.audctl 7) n p ∙ rw (audctl-kept n p) refl

-- the tone bit by the words is that of the underflow's effect
pub next-same : (tuning : Tuning) (outputs : Outputs) (p r : PokeyValue) (c : Channel) (tone : Bool) → IsTuning p tuning → r.audc ≡ p.audc
    → outputs.four ≡ is_bit r.poly4 0 → outputs.five ≡ is_bit r.poly5 0 → outputs.long ≡ is_bit (long_register r) 0
    → next_tone tuning outputs c tone ≡ next_by (audc_of r c) r tone
next-same tuning outputs p r c tone is audc four five long = rw (is.free c, is.pure c, is.four c, four, five, long, audc) refl

-- the level of a channel by the word of those that are on
level-same : (tuning : Tuning) (p q : PokeyValue) (on : ℕ) (c : Channel) → IsTuning p tuning → q.audc ≡ p.audc → q.audctl ≡ p.audctl
    → has on c ≡ (has tuning.steady c || filtered (has tuning.passed c) (has q.pass c) (has q.tone c)) → level_on on p.audc c ≡ level q c
unfolding signal
level-same tuning p q on c is audc audctl e = grind (arith, is.steady c, is.passed c)

pub levels-same : (tuning : Tuning) (p q : PokeyValue) (on : ℕ) → IsTuning p tuning → q.audc ≡ p.audc → q.audctl ≡ p.audctl
    → ((c : Channel) → has on c ≡ (has tuning.steady c || filtered (has tuning.passed c) (has q.pass c) (has q.tone c))) → levels_on on p.audc ≡ levels_of q
unfolding levels_on levels_of
levels-same tuning p q on is audc audctl e =
    let same : (c : Channel) → level_on on p.audc c ≡ level q c = λ c. level-same tuning p q on c is audc audctl (e c) in
    rw (same First, same Second, same Third, same Fourth) refl
