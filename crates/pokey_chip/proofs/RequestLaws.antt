-- When a request is made.
use Rattle.std.proofs.Common.{◌≡◌, ◌≢◌, ℕ, ◌+◌, ◌-◌, ◌<◌, ◌≤◌, min, Bool, true, false, not, ◌&&◌, nat_le, ◌⊎◌, inl}
use Rattle.std.proofs.Common.{inr, if◌then◌else◌, ◌==◌, zero, suc, refl, add-zero, add-suc, sym, ◌∙◌, arith, Option, Some, None, MatchOption}
use Rattle.std.proofs.lemmas.Bool.Decides.{nat_tests}
use Rattle.std.proofs.lemmas.Bool.{cases_lt}
use Rattle.std.proofs.lemmas.List.Elements.{All-get_or}
use Rattle.std.specs.Int.{from_bool}
use Rattle.board_base.specs.Pokey.{PokeyValue, IsPokey}
use Rattle.board_base.specs.Ticks.{ticks, times}
use Rattle.pokey_chip.specs.declared.channel.Channel.{Channel}
use Rattle.pokey_chip.specs.declared.channel.Channel.TheVariants.{First, Second, Third, Fourth}
use Rattle.bit_words.specs.Bits.{is_bit}
use Rattle.board_base.specs.Sooner.{sooner_of}
use Rattle.pokey_chip.specs.Channels.{place}
use Rattle.pokey_chip.specs.Pulses.{has_pulse, pulses_of, asks, HasNoUnderflow, MakesNoRequest, NoneRequests, FirstFails}
use Rattle.pokey_chip.specs.Tick.{base_pulses, channel_ticked, channels_ticked, clocked, left_of, pokey_tick, pot_counted, requested, underflow_effect, underflows, with_bit, with_left}
use Rattle.pokey_chip.specs.Quiet.{requests_after, IsEverQuiet, IsQuietBefore, AnswersEachLag}
use Rattle.pokey_chip.proofs.BitLemmas.{lowered}
use Rattle.pokey_chip.proofs.RegisterLaws.{irqen-kept}
use Rattle.pokey_chip.proofs.ToneLaws.{place-few}
use Rattle.pokey_chip.proofs.CountLaws.{left-fallen, no-underflow, has-spare}

-- IRQST with the requests of channels 1, 2 and 4 made or not
unfoldable made_of : Bool → Bool → Bool → ℕ → ℕ
made_of a b d irqst =
    let first = if a then with_bit irqst 0 false else irqst in
    let second = if b then with_bit first 1 false else first in
    if d then with_bit second 2 false else second

nested : (underflow enabled : Bool) (x r : ℕ) → (if underflow then (if enabled then x else r) else r) ≡ (if underflow && enabled then x else r)
nested underflow enabled x r = grind arith

same-choice : (underflow : Bool) (r : ℕ) → (if underflow then r else r) ≡ r
same-choice underflow r = grind arith

-- whether a channel makes a request in a clock
abbrev calls : PokeyValue → Channel → Bool
calls p c = underflows (base_pulses p) p c && asks p c

irqst-tick : (p : PokeyValue) → (pokey_tick p).irqst ≡ made_of (calls p First) (calls p Second) (calls p Fourth) p.irqst
unfolding pokey_tick channels_ticked channel_ticked with_left underflow_effect pot_counted clocked requested made_of
irqst-tick p =
    rw (
      same-choice (underflows (base_pulses p) p Third),
      nested (underflows (base_pulses p) p First) (is_bit p.irqen 0),
      nested (underflows (base_pulses p) p Second) (is_bit p.irqen 1),
      nested (underflows (base_pulses p) p Fourth) (is_bit p.irqen 2),
    ) refl

-- with no request before, one stands exactly where one was made
made-none : (irqst : ℕ) → made_of false false false irqst ≡ irqst
unfolding made_of
made-none irqst = refl

made-back : (a b d : Bool) → made_of a b d 7 ≡ 7 → (a ≡ false) × (b ≡ false) × (d ≡ false)
unfolding made_of with_bit
made-back a b d e = grind arith

-- a channel that asks for nothing, or has a pulse to spare, makes no request
quiet-call : (c : Channel) (p : PokeyValue) → (asks p c ≡ true → from_bool (has_pulse c p) < left_of c p) → calls p c ≡ false
quiet-call c p spare = grind (arith, no-underflow c p)

-- and if it makes none and asks for one, it has a pulse to spare
spare-call : (c : Channel) (p : PokeyValue) → 0 < left_of c p → calls p c ≡ false → asks p c ≡ true → from_bool (has_pulse c p) < left_of c p
spare-call c p some none asked = has-spare c p some (grind arith)

asks-kept : (c : Channel) (n : ℕ) (p : PokeyValue) → asks (times pokey_tick n p) c ≡ asks p c
asks-kept c n p = grind (arith, irqen-kept n p)

-- a clock without a request keeps IRQST
tick-quiet : (p : PokeyValue) → calls p First ≡ false → calls p Second ≡ false → calls p Fourth ≡ false → (pokey_tick p).irqst ≡ p.irqst
tick-quiet p a b d = irqst-tick p ∙ rw (a, b, d) (made-none p.irqst)

tick-back : (p : PokeyValue) → p.irqst ≡ 7 → (pokey_tick p).irqst ≡ 7 → (calls p First ≡ false) × (calls p Second ≡ false) × (calls p Fourth ≡ false)
tick-back p before now = grind (arith, irqst-tick p, made-back)

module _ (c : Channel) (n : ℕ) (p : PokeyValue) where
  idle-before : MakesNoRequest p c (suc n) → MakesNoRequest p c n
  unfolding pulses_of
  idle-before idle = λ asked. let resting : HasNoUnderflow p c (suc n) = idle asked in omega arith

  idle-now : MakesNoRequest p c (suc n) → calls (times pokey_tick n p) c ≡ false
  unfolding pulses_of
  idle-now idle =
      quiet-call c (times pokey_tick n p)
      (λ asked. let resting : HasNoUnderflow p c (suc n) = idle (sym (asks-kept c n p) ∙ asked) in omega (arith, left-fallen c n p (omega arith)))

  idle-then : MakesNoRequest p c n → calls (times pokey_tick n p) c ≡ false → MakesNoRequest p c (suc n)
  unfolding pulses_of
  idle-then idle none =
      λ asked. let fallen : left_of c (times pokey_tick n p) + pulses_of c n p ≡ left_of c p = left-fallen c n p (idle asked) in
      let resting : HasNoUnderflow p c n = idle asked in
      omega (arith, fallen, spare-call c (times pokey_tick n p) (omega arith) none (asks-kept c n p ∙ asked))

module _ (p : PokeyValue) (at_rest : p.irqst ≡ 7) where
  -- no request stands after n clocks in which none is made
  pub quiet-after : (n : ℕ) → NoneRequests p n → requests_after n p ≡ 7
  unfolding ticks
  quiet-after zero idle = at_rest
  quiet-after (suc n) idle =
      tick-quiet (times pokey_tick n p) (idle-now First n p idle.0) (idle-now Second n p idle.1) (idle-now Fourth n p idle.2)
      ∙ quiet-after n (idle-before First n p idle.0, idle-before Second n p idle.1, idle-before Fourth n p idle.2)

  -- and where none stands after one clock more, none was made in it
  pub idle-after : (n : ℕ) → NoneRequests p n → requests_after (suc n) p ≡ 7 → NoneRequests p (suc n)
  unfolding ticks
  idle-after n idle now =
      let none : (calls (times pokey_tick n p) First ≡ false) × (calls (times pokey_tick n p) Second ≡ false) × (calls (times pokey_tick n p) Fourth ≡ false)
      = tick-back (times pokey_tick n p) (quiet-after n idle) now in
      (idle-then First n p idle.0 none.0, idle-then Second n p idle.1 none.1, idle-then Fourth n p idle.2 none.2)

FirstFails-both : (P Q : ℕ → Type 0) (m n : ℕ) → (m < n) ⊎ (n ≤ m) → FirstFails P (Some m) → FirstFails Q (Some n)
    → FirstFails (λ k. P k × Q k) (Some (min m n))
FirstFails-both P Q m n (inl h) f g =
    let e : min m n ≡ m = omega arith in
    rw e (λ b. f.0 b.0, λ k below. (f.1 k below, g.1 k (omega arith)))
FirstFails-both P Q m n (inr h) f g =
    let e : min m n ≡ n = omega arith in
    rw e (λ b. g.0 b.1, λ k below. (f.1 k (omega arith), g.1 k below))

-- the first clock at which one of two facts fails
pub FirstFails-sooner : (P Q : ℕ → Type 0) (a b : Option ℕ) → FirstFails P a → FirstFails Q b → FirstFails (λ k. P k × Q k) (sooner_of a b)
unfolding sooner_of
FirstFails-sooner P Q None None f g = λ k. (f k, g k)
FirstFails-sooner P Q None (Some n) f g = (λ e. g.0 e.1, λ k h. (f k, g.1 k h))
FirstFails-sooner P Q (Some m) None f g = (λ e. f.0 e.0, λ k h. (f.1 k h, g k))
FirstFails-sooner P Q (Some m) (Some n) f g = FirstFails-both P Q m n (cases_lt m n) f g

-- a fact that comes to the same
pub FirstFails-same : (P Q : ℕ → Type 0) (a : Option ℕ) → ((k : ℕ) → P k → Q k) → ((k : ℕ) → Q k → P k) → FirstFails P a → FirstFails Q a
FirstFails-same P Q None to back f = λ k. to k (f k)
FirstFails-same P Q (Some n) to back f = (λ e. f.0 (back n e), λ k h. to k (f.1 k h))

abbrev IsLeft : ℕ → Type 0
IsLeft left = (1 ≤ left) × (left ≤ 65542)

some-left : (c : Channel) (p : PokeyValue) → IsPokey p → 1 ≤ left_of c p
some-left c p h = (All-get_or IsLeft p.left (place c) 0 (omega (arith, place-few c)) h.pulses).0

idle-at-first : (p : PokeyValue) → IsPokey p → NoneRequests p 0
unfolding pulses_of
idle-at-first p h = (λ _. some-left First p h, λ _. some-left Second p h, λ _. some-left Fourth p h)

-- the first clock with a request is the answer
pub quiet-answer : (p : PokeyValue) → IsPokey p → p.irqst ≡ 7 → (r : Option ℕ) → FirstFails (NoneRequests p) r
    → MatchOption r (IsEverQuiet p) (IsQuietBefore p)
quiet-answer p h at_rest None f = λ n. quiet-after p at_rest n (f n)
quiet-answer p h at_rest (Some zero) f = absurd (f.0 (idle-at-first p h))
quiet-answer p h at_rest (Some (suc n)) f = record {
  stands = λ e. let here : n < suc n = omega arith in f.0 (idle-after p at_rest n (f.1 n here) e);
  before = λ k below. quiet-after p at_rest k (f.1 k below);
}

-- a request that stands is there at once
pub quiet-now : (p : PokeyValue) → p.irqst ≢ 7 → IsQuietBefore p 0
unfolding ticks
quiet-now p stands = record { stands = stands; before = λ k below. absurd (omega arith) }

-- the soonest of three channels' requests
pub next-of-three : (p : PokeyValue) (a b d : Option ℕ) → FirstFails (MakesNoRequest p First) a → FirstFails (MakesNoRequest p Second) b
    → FirstFails (MakesNoRequest p Fourth) d → FirstFails (NoneRequests p) (sooner_of a (sooner_of b d))
next-of-three p a b d f g i =
    FirstFails-same (λ k. MakesNoRequest p First k × (MakesNoRequest p Second k × MakesNoRequest p Fourth k)) (NoneRequests p)
    (sooner_of a (sooner_of b d))
    (λ k e. (e.0, e.1.0, e.1.1)) (λ k e. (e.0, (e.1, e.2)))
    (FirstFails-sooner (MakesNoRequest p First) (λ k. MakesNoRequest p Second k × MakesNoRequest p Fourth k) a (sooner_of b d) f
    (FirstFails-sooner (MakesNoRequest p Second) (MakesNoRequest p Fourth) b d g i))

-- a request that stands goes on: IRQST doesn't rise by itself
made-lowers : (a b d : Bool) (irqst : ℕ) → made_of a b d irqst ≤ irqst
unfolding made_of
made-lowers a b d irqst = grind (arith, lowered)

pub never-rises : (a b : ℕ) (p : PokeyValue) → requests_after (a + b) p ≤ requests_after a p
unfolding ticks
never-rises a zero p = rw add-zero (omega arith)
never-rises a (suc b) p =
    rw add-suc
    (omega (
      arith,
      never-rises a b p,
      irqst-tick (times pokey_tick (a + b) p),
      made-lowers (calls (times pokey_tick (a + b) p) First) (calls (times pokey_tick (a + b) p) Second) (calls (times pokey_tick (a + b) p) Fourth) (times pokey_tick (a + b) p).irqst,
    ))

later-below : (a b : ℕ) (p : PokeyValue) → a ≤ b → requests_after b p ≤ requests_after a p
later-below a b p h = let e : a + (b - a) ≡ b = omega arith in rw e at (never-rises a (b - a) p)

from-start : (n : ℕ) (p : PokeyValue) → requests_after n p ≤ p.irqst
unfolding ticks
from-start n p = later-below 0 n p (omega arith)

-- a POKEY that lags has a request exactly where its answer is not above the lag
pub requests-within : (p : PokeyValue) → p.irqst < 8 → (r : Option ℕ) → MatchOption r (IsEverQuiet p) (IsQuietBefore p)
    → AnswersEachLag p r
requests-within p small None quiet lag = rw (quiet lag) refl
requests-within p small (Some n) quiet lag = within
  where
    within : (requests_after lag p == 7) ≡ not (nat_le n lag)
    within = grind (arith, nat_tests, quiet.before lag, quiet.stands, later-below n lag p, from-start n p)

pub ruleset requests = (quiet-answer, quiet-now, requests-within)
