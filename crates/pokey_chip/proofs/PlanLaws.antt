-- A move that leaves out underflows: its words have the tone bit of a channel from a clock on, and
-- the high-pass bits from clocks on; and what it leaves out leaves no trace.
use Rattle.std.proofs.Common.{◌≡◌, ℕ, ◌+◌, ◌-◌, ◌^◌, ◌<◌, ◌≤◌, ◌==◌, ◌⊎◌, inl, inr, Bool, true, false}
use Rattle.std.proofs.Common.{not, ◌&&◌, ◌||◌, if◌then◌else◌, zero, suc, refl, sym, ap, ◌∙◌, arith, ◌*◌, add-zero, add-suc, mul_assoc}
use Rattle.std.proofs.lemmas.Bool.{cases_lt}
use Rattle.std.proofs.lemmas.Bool.Decides.{nat_tests}
use Rattle.std.proofs.Math.Nat.{suc-mul}
use Rattle.bit_words.specs.Bits.{is_bit}
use Rattle.board_base.specs.Pokey.{PokeyValue}
use Rattle.board_base.specs.Ticks.{times, ticks}
use Rattle.pokey_chip.specs.declared.channel.Channel.{Channel}
use Rattle.pokey_chip.specs.declared.channel.Channel.TheVariants.{First, Second, Third, Fourth}
use Rattle.pokey_chip.specs.declared.tones.Tones.{Tones}
use Rattle.pokey_chip.specs.declared.voice.Voice.{Voice}
use Rattle.pokey_chip.specs.declared.voice.Voices.{Voices}
use Rattle.pokey_chip.specs.Moves.{IsVoice}
use Rattle.pokey_chip.specs.Skips.{is_silent, AreSkipped, IsLast, IsLastWithin, IsLater, IsSameLater, IsSkipped, sets_tone}
use Rattle.pokey_chip.specs.Tick.{level, level_of, levels_of, pokey_tick, signal, tone_of}
use Rattle.pokey_chip.specs.Tones.{asker, audc_of, follower, has}
use Rattle.pokey_chip.proofs.VoiceLaws.{due_in, due-suc, underflow-at, equal-by, later-test, now-test, due-add, due-first, due-grows, due-later, due-next, due-on, due-some, due-stays, due-zero}
use Rattle.pokey_chip.proofs.TickLaws.{next_by, IsSmall, comes, irqst-after, pass-after, tone-after, both}
use Rattle.pokey_chip.proofs.RegisterLaws.{kept}

-- the channel whose filter a high-pass bit is, and the bit of AUDCTL that turns it on
abbrev pub leader : ℕ → Channel
leader zero = First
leader (suc j) = Second

abbrev pub filter_on : PokeyValue → ℕ → Bool
filter_on p zero = is_bit p.audctl 2
filter_on p (suc j) = is_bit p.audctl 1

-- a channel whose first underflow that isn't left out comes in the clock `begin`: its level
-- doesn't depend on its tone bit, and that underflow makes of the bit at the start what it is then
pub record IsHidden (p : PokeyValue) (c : Channel) (v : Voice) (begin : ℕ) : Type 0 where
  pub due : due_in v (begin - 1) ≡ begin
  pub silent : is_silent (audc_of p c) ≡ true
  pub arrives : next_by (audc_of p c) (times pokey_tick begin p) (tone_of c p) ≡ tone_of c (times pokey_tick begin p)

-- a move of n clocks: for each channel the clock with which its tone bit is right, 0 where it is
-- from the start, and for each high-pass bit the same
pub record Plan (p : PokeyValue) (n : ℕ) : Type 0 where
  pub small : IsSmall p
  pub early : n ≤ 2 ^ 49
  pub start : Channel → Voice
  pub begin : Channel → ℕ
  pub right : ℕ → ℕ
  pub voices : (c : Channel) → IsVoice c 0 p (start c)
  pub begin_within : (c : Channel) → begin c ≤ n
  pub hidden : (c : Channel) → 1 ≤ begin c → IsHidden p c (start c) (begin c)
  pub right_within : (j : ℕ) → right j ≤ n
  pub copies : (j : ℕ) → 1 ≤ right j → due_in (start (follower j)) (right j - 1) ≡ right j
  pub after : (j k : ℕ) → suc k ≤ n → right j ≤ suc k → due_in (start (follower j)) k ≡ suc k → (begin (leader j) ≤ suc k) × (begin (follower j) ≤ suc k)
  pub unheard : (j : ℕ) → (right j ≡ 0) ⊎ ((is_silent (audc_of p (leader j)) ≡ true) ⊎ (filter_on p j ≡ false))

-- the move's channel beside the one that leaves nothing out
pub record IsThere (start : Voice) (begin k : ℕ) (w : Voice) : Type 0 where
  pub same : w ≡ record start { due = w.due }
  pub started : begin ≤ k → due_in start k ≡ w.due
  pub hidden : k < begin → w.due ≡ begin

-- a request, by whether its channel has underflowed; the move's word says so once the channel began
pub record IsAsked (p q : PokeyValue) (begin k underflowed j : ℕ) : Type 0 where
  pub made : Bool
  pub bit : is_bit q.irqst j ≡ (is_bit p.irqst j && not (made && is_bit p.irqen j))
  pub known : begin ≤ k → made ≡ has underflowed (asker j)

-- the channels and the words of a move that has done k clocks
pub record IsFar (p : PokeyValue) (n : ℕ) (plan : Plan p n) (k : ℕ) (ws : Channel → Voice) (tones : Tones) : Type 0 where
  pub tone : (c : Channel) → plan.begin c ≤ k → has tones.tone c ≡ tone_of c (times pokey_tick k p)
  pub old : (c : Channel) → k < plan.begin c → has tones.tone c ≡ tone_of c p
  pub pass : (j : ℕ) → j < 2 → plan.right j ≤ k → is_bit tones.pass j ≡ is_bit (times pokey_tick k p).pass j
  pub asked : (j : ℕ) → j < 3 → IsAsked p (times pokey_tick k p) (plan.begin (asker j)) k tones.underflowed j
  pub voice : (c : Channel) → IsThere (plan.start c) (plan.begin c) k (ws c)

or-true : (b : Bool) → (b || true) ≡ true
or-true b = grind arith

leader-place : (j : ℕ) → j < 2 → (n : ℕ) → has n (leader j) ≡ is_bit n j
leader-place j h n = grind arith

-- one clock
module _ {p : PokeyValue} {n : ℕ} (plan : Plan p n) (k : ℕ) (inside : suc k ≤ n) (ws xs : Channel → Voice) (tones new : Tones) (far : IsFar p n plan k ws tones)
    (tone2 : (c : Channel) → has new.tone c ≡ (if (ws c).due == suc k then next_by (audc_of p c) (times pokey_tick (suc k) p) (has tones.tone c) else has tones.tone c))
    (pass2 : (j : ℕ) → j < 2 → is_bit new.pass j ≡ (if (ws (follower j)).due == suc k then is_bit new.tone j else is_bit tones.pass j))
    (underflowed2 : (c : Channel) → has new.underflowed c ≡ (has tones.underflowed c || ((ws c).due == suc k)))
    (voice2 : (c : Channel) → xs c ≡ record (ws c) { due = if (ws c).due == suc k then (ws c).due + (ws c).step else (ws c).due }) where
  abbrev q : PokeyValue
  q = times pokey_tick k p

  comes-is : (c : Channel) → comes q c ≡ (due_in (plan.start c) k == suc k)
  comes-is c = underflow-at c p (plan.start c) (plan.voices c) k (omega arith)

  -- a channel that has started by this clock is due as the real one is
  hidden-due : (c : Channel) → plan.begin c ≡ suc k → due_in (plan.start c) k ≡ suc k
  hidden-due c e =
      let place : plan.begin c - 1 ≡ k = omega arith in
      ap (due_in (plan.start c)) (sym place) ∙ (plan.hidden c (omega arith)).due ∙ e

  near : (c : Channel) → plan.begin c ≤ suc k → due_in (plan.start c) k ≡ (ws c).due
  near c h = grind (arith, (far.voice c).started, (far.voice c).hidden, hidden-due c)

  flag : (c : Channel) → plan.begin c ≤ suc k → ((ws c).due == suc k) ≡ comes q c
  flag c h = ap (λ (d : ℕ). d == suc k) (sym (near c h)) ∙ sym (comes-is c)

  no-flag : (c : Channel) → suc k < plan.begin c → ((ws c).due == suc k) ≡ false
  no-flag c h = later-test (ws c).due (suc k) (omega (arith, (far.voice c).hidden (omega arith)))

  tone-right : (c : Channel) → plan.begin c ≤ suc k → has new.tone c ≡ tone_of c (times pokey_tick (suc k) p)
  tone-right c h = by_place (cases_lt k (plan.begin c))
    where
      by_place : (k < plan.begin c) ⊎ (plan.begin c ≤ k) → has new.tone c ≡ tone_of c (times pokey_tick (suc k) p)
      by_place (inr before) = tone2 c ∙ rw (flag c h, far.tone c before) refl ∙ sym (tone-after p plan.small k c)
      by_place (inl now) =
          let here : plan.begin c ≡ suc k = omega arith in
          let due : ((ws c).due == suc k) ≡ true = now-test (ws c).due (suc k) ((far.voice c).hidden now ∙ here) in
          tone2 c ∙ rw (due, far.old c now) (rw here at (plan.hidden c (omega arith)).arrives)

  tone-old : (c : Channel) → suc k < plan.begin c → has new.tone c ≡ tone_of c p
  tone-old c h = tone2 c ∙ rw (no-flag c h) (far.old c (omega arith))

  pass-right : (j : ℕ) → j < 2 → plan.right j ≤ suc k → is_bit new.pass j ≡ is_bit (times pokey_tick (suc k) p).pass j
  pass-right j h there = by_test (comes q (follower j)) refl
    where
      by_test : (b : Bool) → comes q (follower j) ≡ b → is_bit new.pass j ≡ is_bit (times pokey_tick (suc k) p).pass j
      by_test true e =
          let due : due_in (plan.start (follower j)) k ≡ suc k = equal-by (due_in (plan.start (follower j)) k) (suc k) (sym (comes-is (follower j)) ∙ e) in
          let started : (plan.begin (leader j) ≤ suc k) × (plan.begin (follower j) ≤ suc k) = plan.after j k inside there due in
          let tone : is_bit new.tone j ≡ is_bit (times pokey_tick (suc k) p).tone j
          = sym (leader-place j h new.tone) ∙ tone-right (leader j) started.0 ∙ leader-place j h (times pokey_tick (suc k) p).tone in
          let taken : is_bit new.pass j ≡ is_bit new.tone j = rw (flag (follower j) started.1, e) at (pass2 j h) in
          taken ∙ tone ∙ sym (rw e at (pass-after p plan.small k j h))
      by_test false e =
          let stays : is_bit (times pokey_tick (suc k) p).pass j ≡ is_bit q.pass j = rw e at (pass-after p plan.small k j h) in
          let kept : is_bit new.pass j ≡ is_bit tones.pass j = rw (still (cases_lt (suc k) (plan.begin (follower j)))) at (pass2 j h) in
          kept ∙ far.pass j h (before (cases_lt k (plan.right j))) ∙ sym stays
        where
          not-due : due_in (plan.start (follower j)) k ≡ suc k → ⊥
          not-due d = cc (now-test (due_in (plan.start (follower j)) k) (suc k) d, comes-is (follower j), e)

          before : (k < plan.right j) ⊎ (plan.right j ≤ k) → plan.right j ≤ k
          before (inr h) = h
          before (inl now) =
              let place : plan.right j ≡ suc k = omega arith in
              let less : plan.right j - 1 ≡ k = omega arith in
              absurd (not-due (ap (due_in (plan.start (follower j))) (sym less) ∙ plan.copies j (omega arith) ∙ place))

          still : (suc k < plan.begin (follower j)) ⊎ (plan.begin (follower j) ≤ suc k) → ((ws (follower j)).due == suc k) ≡ false
          still (inl hidden) = no-flag (follower j) hidden
          still (inr started) = flag (follower j) started ∙ e

  asked-then : (j : ℕ) → j < 3 → IsAsked p (times pokey_tick (suc k) p) (plan.begin (asker j)) (suc k) new.underflowed j
  asked-then j h = record {
    made = (far.asked j h).made || comes q (asker j);
    bit = irqst-after p plan.small k j h
        ∙ ap (λ (b : Bool). b && not (comes q (asker j) && is_bit p.irqen j)) (far.asked j h).bit
        ∙ sym (both (is_bit p.irqst j) (far.asked j h).made (comes q (asker j)) (is_bit p.irqen j));
    known = λ g. known_then g (cases_lt k (plan.begin (asker j)));
  }
    where
      known_then : plan.begin (asker j) ≤ suc k → (k < plan.begin (asker j)) ⊎ (plan.begin (asker j) ≤ k) → ((far.asked j h).made || comes q (asker j)) ≡ has new.underflowed (asker j)
      known_then g (inr before) = rw ((far.asked j h).known before, ← flag (asker j) g) (sym (underflowed2 (asker j)))
      known_then g (inl now) =
          let due : comes q (asker j) ≡ true = comes-is (asker j) ∙ now-test (due_in (plan.start (asker j)) k) (suc k) (hidden-due (asker j) (omega arith)) in
          let word : has new.underflowed (asker j) ≡ (has tones.underflowed (asker j) || true) = rw (flag (asker j) g, due) at (underflowed2 (asker j)) in
          ap (λ (b : Bool). (far.asked j h).made || b) due
          ∙ or-true (far.asked j h).made
          ∙ sym (word ∙ or-true (has tones.underflowed (asker j)))

  voice-then : (c : Channel) → IsThere (plan.start c) (plan.begin c) (suc k) (xs c)
  voice-then c = rw (voice2 c) (record {
    same = let e : ws c ≡ record (plan.start c) { due = (ws c).due } = (far.voice c).same in
        ap (λ (w : Voice). record w { due = if (ws c).due == suc k then (ws c).due + (ws c).step else (ws c).due }) e;
    started = λ h. due-suc (plan.start c) k ∙ rw (near c h) (ap (λ (s : ℕ). if (ws c).due == suc k then (ws c).due + s else (ws c).due) (sym (ap (λ (w : Voice). w.step) (far.voice c).same)));
    hidden = λ h. ap (λ (b : Bool). if b then (ws c).due + (ws c).step else (ws c).due) (no-flag c h) ∙ (far.voice c).hidden (omega arith);
  })

  pub far-then : IsFar p n plan (suc k) xs new
  far-then = record { tone = tone-right; old = tone-old; pass = pass-right; asked = asked-then; voice = voice-then }

-- a level that doesn't depend on the tone bit
silent-level : (audc : ℕ) (a b : Bool) → is_silent audc ≡ true → level_of audc a ≡ level_of audc b
silent-level audc a b e = grind (arith, nat_tests)

-- two POKEYs whose tones and filters are the same where they are right from the start have the same
-- levels
module _ {p : PokeyValue} {n : ℕ} (plan : Plan p n)
    (q r : PokeyValue) (audc : q.audc ≡ p.audc) (audctl : q.audctl ≡ p.audctl) (audc2 : r.audc ≡ p.audc) (audctl2 : r.audctl ≡ p.audctl)
    (tone : (c : Channel) → plan.begin c ≡ 0 → tone_of c q ≡ tone_of c r) (pass : (j : ℕ) → j < 2 → plan.right j ≡ 0 → is_bit q.pass j ≡ is_bit r.pass j) where
  silent-same : (c : Channel) → is_silent (audc_of p c) ≡ true → level q c ≡ level r c
  unfolding signal
  silent-same c e = rw (audc, audc2) (silent-level (audc_of p c) (signal q c) (signal r c) e)

  -- of a channel with a filter
  filtered-same : (j : ℕ) → (plan.right j ≡ 0 → level q (leader j) ≡ level r (leader j)) → (filter_on p j ≡ false → level q (leader j) ≡ level r (leader j)) → level q (leader j) ≡ level r (leader j)
  filtered-same j right off = elim (plan.unheard j) [
    | inl h ↦ right h
    | inr h ↦ elim h [
      | inl silent ↦ silent-same (leader j) silent
      | inr without ↦ off without
    ]
  ]

  started-same : (c : Channel) → plan.begin c ≡ 0 → level q c ≡ level r c
  unfolding signal
  started-same First e =
      filtered-same 0 (λ h. rw (tone First e, pass 0 (omega arith) h, audc, audctl, audc2, audctl2) refl) (λ h. rw (tone First e, audc, audctl, audc2, audctl2, h) refl)
  started-same Second e =
      filtered-same 1 (λ h. rw (tone Second e, pass 1 (omega arith) h, audc, audctl, audc2, audctl2) refl) (λ h. rw (tone Second e, audc, audctl, audc2, audctl2, h) refl)
  started-same Third e = rw (tone Third e, audc, audc2) refl
  started-same Fourth e = rw (tone Fourth e, audc, audc2) refl

  level-same : (c : Channel) → level q c ≡ level r c
  level-same c = grind (arith, plan.hidden c, silent-same c, started-same c)

  pub same-levels : levels_of q ≡ levels_of r
  unfolding levels_of
  same-levels = rw (level-same First, level-same Second, level-same Third, level-same Fourth) refl

-- a tone bit that noise sets, whatever it was, and one that is turned over
next-set : (audc : ℕ) (q : PokeyValue) (t u : Bool) → is_bit audc 5 ≡ false → (is_bit audc 7 || is_bit q.poly5 0) ≡ true → next_by audc q t ≡ next_by audc q u
next-set audc q t u e h = grind arith

next-turned : (audc : ℕ) (q : PokeyValue) (t : Bool) → is_bit audc 5 ≡ true → is_bit audc 7 ≡ true → next_by audc q t ≡ not t
next-turned audc q t e h = grind arith

not-not : (b : Bool) → not (not b) ≡ b
not-not b = grind arith

-- the underflow that a channel begins at is so many after its next one
record SameSteps (v : Voice) (reach due : ℕ) : Type 0 where
  more : ℕ
  steps : due ≡ v.due + more * v.step
  reached : due ≤ reach

pair-steps : (v : Voice) (m due : ℕ) → due ≡ v.due + m * (2 * v.step) → due ≡ v.due + m * 2 * v.step
pair-steps v m due e = e ∙ ap (λ (d : ℕ). v.due + d) (sym (mul_assoc m 2 v.step))

same-steps : (p : PokeyValue) (audc : ℕ) (v : Voice) (reach due : ℕ) → IsSameLater p audc v reach due → SameSteps v reach due
same-steps p audc v reach due (inl (noise, set)) = record { more = set.more; steps = set.steps; reached = set.reached }
same-steps p audc v reach due (inr (pure, (free, even))) =
    record { more = even.pairs * 2; steps = pair-steps v even.pairs due even.steps; reached = even.reached }

twice : (m : ℕ) (b : Bool) → times not (m * 2) b ≡ b
unfolding ticks
twice zero b = refl
twice (suc m) b =
    let whole : suc m * 2 ≡ suc (suc (m * 2)) = omega arith in
    rw whole (ap (λ (x : Bool). not (not x)) (twice m b) ∙ not-not b)

module _ (c : Channel) (p : PokeyValue) (small : IsSmall p) (v : Voice) (is : IsVoice c 0 p v) where
  -- until an underflow the tone bit stays
  tone-stays : (k i : ℕ) → k + i < due_in v k → k + i ≤ 2 ^ 49 → tone_of c (times pokey_tick (k + i) p) ≡ tone_of c (times pokey_tick k p)
  tone-stays k zero h early = ap (λ (n : ℕ). tone_of c (times pokey_tick n p)) (add-zero k)
  tone-stays k (suc i) h early =
      let before : tone_of c (times pokey_tick (k + i) p) ≡ tone_of c (times pokey_tick k p) = tone-stays k i (omega arith) (omega arith) in
      let still : comes (times pokey_tick (k + i) p) c ≡ false
      = underflow-at c p v is (k + i) (omega arith)
      ∙ ap (λ (d : ℕ). d == suc (k + i)) (due-stays v k i (omega arith))
      ∙ later-test (due_in v k) (suc (k + i)) (omega arith) in
      ap (λ (n : ℕ). tone_of c (times pokey_tick n p)) (add-suc k i) ∙ rw still at (tone-after p small (k + i) c) ∙ before

  tone-until : (k at : ℕ) → k < at → at ≤ due_in v k → at ≤ 2 ^ 49 → tone_of c (times pokey_tick (at - 1) p) ≡ tone_of c (times pokey_tick k p)
  tone-until k at later due early =
      let whole : at - 1 ≡ k + (at - 1 - k) = omega arith in
      ap (λ (n : ℕ). tone_of c (times pokey_tick n p)) whole ∙ tone-stays k (at - 1 - k) (omega arith) (omega arith)

  -- with one it is the next
  tone-at : (at : ℕ) → 1 ≤ at → at ≤ 2 ^ 49 → due_in v (at - 1) ≡ at
      → tone_of c (times pokey_tick at p) ≡ next_by (audc_of p c) (times pokey_tick at p) (tone_of c (times pokey_tick (at - 1) p))
  tone-at at some early due =
      let whole : suc (at - 1) ≡ at = omega arith in
      let now : comes (times pokey_tick (at - 1) p) c ≡ true
      = underflow-at c p v is (at - 1) (omega arith) ∙ now-test (due_in v (at - 1)) (suc (at - 1)) (due ∙ sym whole) in
      rw whole at (rw now at (tone-after p small (at - 1) c))

  -- one that sets it arrives at the bit that all up to it make
  set-arrives : (at : ℕ) → 1 ≤ at → at ≤ 2 ^ 49 → due_in v (at - 1) ≡ at → is_bit (audc_of p c) 5 ≡ false → sets_tone p (is_bit (audc_of p c) 7) at ≡ true
      → next_by (audc_of p c) (times pokey_tick at p) (tone_of c p) ≡ tone_of c (times pokey_tick at p)
  set-arrives at some early due noise sets =
      let five : (is_bit (audc_of p c) 7 || is_bit (times pokey_tick at p).poly5 0) ≡ true
      = ap (λ (r : ℕ). is_bit (audc_of p c) 7 || is_bit r 0) (ap (λ (q : PokeyValue). q.poly5) (kept at p)) ∙ sets in
      next-set (audc_of p c) (times pokey_tick at p) (tone_of c p) (tone_of c (times pokey_tick (at - 1) p)) noise five ∙ sym (tone-at at some early due)

  module _ (pure : is_bit (audc_of p c) 5 ≡ true) (free : is_bit (audc_of p c) 7 ≡ true) where
    turned-at : (at : ℕ) → 1 ≤ at → at ≤ 2 ^ 49 → due_in v (at - 1) ≡ at → tone_of c (times pokey_tick at p) ≡ not (tone_of c (times pokey_tick (at - 1) p))
    turned-at at some early due = tone-at at some early due ∙ next-turned (audc_of p c) (times pokey_tick at p) (tone_of c (times pokey_tick (at - 1) p)) pure free

    turned-next : (at : ℕ) → 1 ≤ at → at + v.step ≤ 2 ^ 49 → due_in v (at - 1) ≡ at → tone_of c (times pokey_tick (at + v.step) p) ≡ not (tone_of c (times pokey_tick at p))
    turned-next at some early due =
        let next : due_in v (at + v.step - 1) ≡ at + v.step = due-next c p v is at some early due in
        let here : due_in v at ≡ at + v.step = due-on c p v is at some due in
        turned-at (at + v.step) (omega arith) early next
        ∙ ap not (tone-until at (at + v.step) (omega (arith, due-later c p v is at (omega arith))) (omega arith) early)

    turned : (m : ℕ) → v.due + m * v.step ≤ 2 ^ 49 → tone_of c (times pokey_tick (v.due + m * v.step) p) ≡ times not (suc m) (tone_of c p)
    unfolding ticks
    turned zero early =
        let none : v.due + 0 * v.step ≡ v.due = omega arith in
        ap (λ (n : ℕ). tone_of c (times pokey_tick n p)) none
        ∙ turned-at v.due (due-some c p v is) (omega arith) (due-first c p v is (omega arith))
        ∙ ap not (tone-until 0 v.due (due-some c p v is) (omega (arith, due-zero v)) (omega arith))
    turned (suc m) early =
        let whole : v.due + suc m * v.step ≡ v.due + m * v.step + v.step = omega (arith, suc-mul m v.step) in
        ap (λ (n : ℕ). tone_of c (times pokey_tick n p)) whole
        ∙ turned-next (v.due + m * v.step) (omega (arith, due-some c p v is)) (omega arith) (due-add c p v is m (omega arith))
        ∙ ap not (turned m (omega arith))

    -- one that is pairs later arrives there too
    pairs-arrive : (m at : ℕ) → at ≡ v.due + m * 2 * v.step → at ≤ 2 ^ 49 → next_by (audc_of p c) (times pokey_tick at p) (tone_of c p) ≡ tone_of c (times pokey_tick at p)
    unfolding ticks
    pairs-arrive m at e early =
        next-turned (audc_of p c) (times pokey_tick at p) (tone_of c p) pure free
        ∙ sym (rw e (turned (m * 2) (omega arith) ∙ ap not (twice m (tone_of c p))))

  -- a channel that begins later is hidden until then
  later-hidden : {heard : Bool} {reach : ℕ} {w : Voice} → reach ≤ 2 ^ 49 → IsLater p (audc_of p c) heard reach v w → (1 ≤ w.due) × IsHidden p c v w.due
  later-hidden {heard} {reach} {w} early later = (some, record { due = due; silent = later.silent; arrives = by_way later.begins })
    where
      steps : SameSteps v reach w.due
      steps = same-steps p (audc_of p c) v reach w.due later.begins

      some : 1 ≤ w.due
      some = omega (arith, steps.steps, due-some c p v is)

      due : due_in v (w.due - 1) ≡ w.due
      due = rw (← steps.steps) at (due-add c p v is steps.more (omega (arith, steps.steps, steps.reached)))

      by_way : IsSameLater p (audc_of p c) v reach w.due → next_by (audc_of p c) (times pokey_tick w.due p) (tone_of c p) ≡ tone_of c (times pokey_tick w.due p)
      by_way (inl (noise, set)) = set-arrives w.due some (omega (arith, set.reached)) due noise set.sets
      by_way (inr (pure, (free, even))) = pairs-arrive pure free even.pairs w.due (pair-steps v even.pairs w.due even.steps) (omega (arith, even.reached))

-- a channel with the clock with which it begins, 0 where it leaves nothing out; a move looks at it
-- up to the clock `reach`
record Begins (p : PokeyValue) (c : Channel) (heard : Bool) (reach : ℕ) (v w : Voice) : Type 0 where
  voice : IsVoice c 0 p v
  begin : ℕ
  most : begin ≤ reach
  no_later : (taken : ℕ) → IsLast v reach taken → begin ≤ taken
  hidden : 1 ≤ begin → (heard ≡ false) × IsHidden p c v begin
  there : IsThere v begin 0 w

begins : {p : PokeyValue} {c : Channel} {heard : Bool} {reach : ℕ} {v w : Voice} → IsSmall p → reach ≤ 2 ^ 49 → IsVoice c 0 p v → IsSkipped p (audc_of p c) heard reach v w
    → Begins p c heard reach v w
begins {p} {c} {heard} {reach} {v} {w} small early is skipped = by_way skipped.begins
  where
    by_way : (w.due ≡ v.due) ⊎ IsLater p (audc_of p c) heard reach v w → Begins p c heard reach v w
    by_way (inl all) = record {
      voice = is;
      begin = 0;
      most = omega arith;
      no_later = λ taken last. omega arith;
      hidden = λ h. absurd (omega arith);
      there = record { same = skipped.same; started = λ h. due-zero v ∙ sym all; hidden = λ h. absurd (omega arith) };
    }
    by_way (inr later) =
        let steps : SameSteps v reach w.due = same-steps p (audc_of p c) v reach w.due later.begins in
        let hidden : (1 ≤ w.due) × IsHidden p c v w.due = later-hidden c p small v is early later in
        record {
          voice = is;
          begin = w.due;
          most = steps.reached;
          no_later = λ taken last. rw steps.steps (last.last steps.more (omega (arith, steps.steps, steps.reached)));
          hidden = λ h. (later.unheard, hidden.1);
          there = record { same = skipped.same; started = λ h. absurd (omega (arith, hidden.0)); hidden = λ h. refl };
        }

unheard-by : (on silent : Bool) → (on && not silent) ≡ false → (silent ≡ true) ⊎ (on ≡ false)
unheard-by on silent e = grind arith

-- a channel and the one that clocks its filter: the clock with which the high-pass bit is right,
-- that of the last underflow of the one that clocks it, where it has one and either leaves
-- underflows out, and else 0
record Rights (p : PokeyValue) (a : Channel) (on : Bool) (n begin_a begin_f : ℕ) (vf : Voice) : Type 0 where
  right : ℕ
  most : right ≤ n
  copies : 1 ≤ right → due_in vf (right - 1) ≡ right
  after : (k : ℕ) → suc k ≤ n → right ≤ suc k → due_in vf k ≡ suc k → (begin_a ≤ suc k) × (begin_f ≤ suc k)
  unheard : (right ≡ 0) ⊎ ((is_silent (audc_of p a) ≡ true) ⊎ (on ≡ false))

rights : {p : PokeyValue} {a f : Channel} {on : Bool} {n taken : ℕ} {va wa vf wf : Voice} → n ≤ 2 ^ 49 → IsLastWithin vf n taken
    → (x : Begins p a false taken va wa) → (y : Begins p f (on && not (is_silent (audc_of p a))) n vf wf) → Rights p a on n x.begin y.begin vf
rights {p} {a} {f} {on} {n} {taken} {va} {wa} {vf} {wf} early clock x y = by_way clock (cases_lt 0 x.begin) (cases_lt 0 y.begin)
  where
    -- where nothing is left out, or no underflow comes
    at_start : ((k : ℕ) → suc k ≤ n → due_in vf k ≡ suc k → (x.begin ≤ suc k) × (y.begin ≤ suc k)) → Rights p a on n x.begin y.begin vf
    at_start after = record { right = 0; most = omega arith; copies = λ h. absurd (omega arith); after = λ k inside h due. after k inside due; unheard = inl refl }

    at_last : IsLast vf n taken → (is_silent (audc_of p a) ≡ true) ⊎ (on ≡ false) → Rights p a on n x.begin y.begin vf
    at_last last unheard = record {
      right = taken;
      most = last.reached;
      copies = λ h. rw (← last.steps) at (due-add f p vf y.voice last.more (omega (arith, last.steps, last.reached)));
      after = λ k inside h due. (omega (arith, x.most), omega (arith, y.no_later taken last));
      unheard = inr unheard;
    }

    by_way : IsLastWithin vf n taken → (0 < x.begin) ⊎ (x.begin ≤ 0) → (0 < y.begin) ⊎ (y.begin ≤ 0) → Rights p a on n x.begin y.begin vf
    by_way (inl none) left other = at_start (λ k inside due. absurd (omega (arith, none.0, due-grows vf k)))
    by_way (inr last) (inr e) (inr g) = at_start (λ k inside due. (omega arith, omega arith))
    by_way (inr last) (inr e) (inl later) = at_last last (unheard-by on (is_silent (audc_of p a)) (y.hidden later).0)
    by_way (inr last) (inl later) other = at_last last (inl (x.hidden later).1.silent)

taken-within : {v : Voice} {n taken : ℕ} → IsLastWithin v n taken → taken ≤ n
taken-within (inl none) = omega (arith, none.1)
taken-within (inr last) = last.reached

-- the four channels of a move
abbrev pub voice_of : Voices → Channel → Voice
voice_of vs First = vs.first
voice_of vs Second = vs.second
voice_of vs Third = vs.third
voice_of vs Fourth = vs.fourth

module _ (p : PokeyValue) (small : IsSmall p) (n : ℕ) (early : n ≤ 2 ^ 49) (vs ws : Voices)
    (first : IsVoice First 0 p vs.first) (second : IsVoice Second 0 p vs.second) (third : IsVoice Third 0 p vs.third) (fourth : IsVoice Fourth 0 p vs.fourth)
    (skips : AreSkipped p n vs ws) where
  abbrev heard : Channel → Bool
  heard First = false
  heard Second = false
  heard Third = is_bit p.audctl 2 && not (is_silent (audc_of p First))
  heard Fourth = is_bit p.audctl 1 && not (is_silent (audc_of p Second))

  abbrev reach : Channel → ℕ
  reach First = skips.taken1
  reach Second = skips.taken2
  reach Third = n
  reach Fourth = n

  reach-within : (c : Channel) → reach c ≤ n
  reach-within First = taken-within skips.third_last
  reach-within Second = taken-within skips.fourth_last
  reach-within Third = omega arith
  reach-within Fourth = omega arith

  each : (c : Channel) → Begins p c (heard c) (reach c) (voice_of vs c) (voice_of ws c)
  each First = begins small (omega (arith, reach-within First)) first skips.first
  each Second = begins small (omega (arith, reach-within Second)) second skips.second
  each Third = begins small early third skips.third
  each Fourth = begins small early fourth skips.fourth

  filter : (j : ℕ) → Rights p (leader j) (filter_on p j) n (each (leader j)).begin (each (follower j)).begin (voice_of vs (follower j))
  filter zero = rights early skips.third_last (each First) (each Third)
  filter (suc j) = rights early skips.fourth_last (each Second) (each Fourth)

  pub planned : (plan : Plan p n) × ((c : Channel) → IsThere (plan.start c) (plan.begin c) 0 (voice_of ws c))
  planned = (
    record {
      small = small;
      early = early;
      start = voice_of vs;
      begin = λ c. (each c).begin;
      right = λ j. (filter j).right;
      voices = λ c. (each c).voice;
      begin_within = λ c. omega (arith, (each c).most, reach-within c);
      hidden = λ c h. ((each c).hidden h).1;
      right_within = λ j. (filter j).most;
      copies = λ j. (filter j).copies;
      after = λ j. (filter j).after;
      unheard = λ j. (filter j).unheard;
    },
    λ c. (each c).there,
  )
