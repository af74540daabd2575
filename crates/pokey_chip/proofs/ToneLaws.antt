-- Words of four bits, one for each channel.
use Rattle.std.proofs.Common.{◌≡◌, ℕ, ◌+◌, ◌*◌, ◌/◌, ◌%◌, ◌^◌, ◌<◌, ◌==◌, Bool, true, false, not, ◌&&◌, ◌||◌, if◌then◌else◌, refl, arith, ap, ◌∙◌, bit_and, bit_or}
use Rattle.std.proofs.lemmas.Bool.Decides.{nat_tests}
use Rattle.std.proofs.lemmas.Nat.Bits.{bit_at_and, bit_at_or, bit_at_not, bit_at-lt}
use Rattle.std.proofs.lemmas.Nat.{and_le_l, and_le_r, or_lt}
use Rattle.std.specs.Int.{bit_at, bit_not, from_bool, w8}
use Rattle.bit_words.specs.Bits.{is_bit}
use Rattle.bit_words.proofs.Tables.{same_by_tables}
use Rattle.pokey_chip.specs.declared.channel.Channel.{Channel}
use Rattle.pokey_chip.specs.declared.channel.Channel.TheVariants.{First, Second, Third, Fourth}
use Rattle.pokey_chip.specs.Channels.{place}
use Rattle.pokey_chip.specs.Tones.{has, of_channel, requests_made}
use Rattle.pokey_poly.proofs.LeapLaws.{further}

-- a word made of four bits
pub four-bits : (a b c d : Bool) (ch : Channel) → has (from_bool a + 2 * from_bool b + 4 * from_bool c + 8 * from_bool d) ch ≡ of_channel a b c d ch
four-bits a b c d ch = grind (arith, nat_tests)

pub all-bits : (ch : Channel) → has 15 ch ≡ true
all-bits ch = grind arith

pub no-bits : (ch : Channel) → has 0 ch ≡ false
no-bits ch = grind arith

-- of things that each channel has, that of a channel
pub of-each : (f : Channel → Bool) (c : Channel) → of_channel (f First) (f Second) (f Third) (f Fourth) c ≡ f c
of-each f c = grind arith

pub ruleset words = (four-bits, all-bits, no-bits)

-- bits of words
pub is_bit-and : (a b k : ℕ) → is_bit (bit_and a b) k ≡ (is_bit a k && is_bit b k)
is_bit-and a b k = grind (arith, nat_tests, bit_at_and a b k, bit_at-lt a k, bit_at-lt b k)

pub is_bit-or : (a b k : ℕ) → is_bit (bit_or a b) k ≡ (is_bit a k || is_bit b k)
is_bit-or a b k = grind (arith, nat_tests, bit_at_or a b k, bit_at-lt a k, bit_at-lt b k)

pub is_bit-not : (a k : ℕ) → a < 2 ^ 8 → k < 8 → is_bit (bit_not w8 a) k ≡ not (is_bit a k)
is_bit-not a k small within = grind (arith, nat_tests, bit_at_not w8 a k small within, bit_at-lt a k)

-- bits taken from two words by a mask
pub pick-bits : (mask ones zeros k : ℕ) → mask < 2 ^ 8 → k < 8
    → is_bit (bit_or (bit_and ones mask) (bit_and zeros (bit_not w8 mask))) k ≡ (if is_bit mask k then is_bit ones k else is_bit zeros k)
pick-bits mask ones zeros k small within =
    is_bit-or (bit_and ones mask) (bit_and zeros (bit_not w8 mask)) k
    ∙ rw (is_bit-and ones mask k, is_bit-and zeros (bit_not w8 mask) k, is_bit-not mask k small within) (grind arith)

pub pick-four : (mask ones zeros other : ℕ) → mask < 16 → zeros < 16 → bit_or (bit_and ones mask) (bit_and zeros other) < 16
pick-four mask ones zeros other h g = or_lt 4 (bit_and ones mask) (bit_and zeros other) (omega (arith, and_le_r ones mask)) (omega (arith, and_le_l zeros other))

pub pick-two : (mask ones zeros other : ℕ) → mask < 4 → zeros < 4 → bit_or (bit_and ones mask) (bit_and zeros other) < 4
pick-two mask ones zeros other h g = or_lt 2 (bit_and ones mask) (bit_and zeros other) (omega (arith, and_le_r ones mask)) (omega (arith, and_le_l zeros other))

pub ruleset picks = (pick-bits, pick-four, pick-two)

-- the requests
request-code : (underflowed : ℕ) → underflowed < 256 → (m : ℕ) → m < 64
    → bit_and (m / 8) (bit_not w8 (bit_and (bit_or (bit_and underflowed 3) (bit_and (underflowed / 2) 4)) (m % 8))) ≡ requests_made underflowed (m % 8) (m / 8)
unfolding requests_made
request-code =
    same_by_tables 256 64 (λ underflowed m. bit_and (m / 8) (bit_not w8 (bit_and (bit_or (bit_and underflowed 3) (bit_and (underflowed / 2) 4)) (m % 8))))
    (λ underflowed m. requests_made underflowed (m % 8) (m / 8))
    refl

pub requests-code : (underflowed irqen irqst : ℕ) → underflowed < 2 ^ 8 → irqen < 8 → irqst < 8
    → bit_and irqst (bit_not w8 (bit_and (bit_or (bit_and underflowed 3) (bit_and (underflowed / 2) 4)) irqen)) ≡ requests_made underflowed irqen irqst
requests-code underflowed irqen irqst small enabled standing =
    let low : (irqen + 8 * irqst) % 8 ≡ irqen = omega arith in
    let high : (irqen + 8 * irqst) / 8 ≡ irqst = omega arith in
    rw (low, high) at (request-code underflowed small (irqen + 8 * irqst) (omega arith))

pub ruleset requests = (requests-code, and_le_l)

pub place-few : (c : Channel) → place c < 4
place-few c = grind arith

-- a bit two places up
pub two-up : (n k : ℕ) → is_bit (n / 4) k ≡ is_bit n (k + 2)
two-up n k =
    let other : 2 + k ≡ k + 2 = omega arith in
    ap (λ (d : ℕ). d == 1) (further n 2 k ∙ ap (bit_at n) other)
