-- How far a move has come at an underflow, and its end.
use Rattle.std.proofs.Common.{◌≡◌, ℕ, ◌+◌, ◌≤◌, zero, suc, List, [], ◌∷◌, refl, ◌∙◌, arith, ◌-◌, ◌^◌, ◌<◌, ◌==◌}
use Rattle.std.proofs.Common.{Bool, false, not, ◌&&◌, ◌||◌, if◌then◌else◌, min, All, Option, Some, None, IfSome, slice_index, sym, ap, add-zero, add-suc, add-one}
use Rattle.std.proofs.lemmas.List.Elements.{All-from_recursion}
use Rattle.bit_words.specs.Bits.{is_bit}
use Rattle.board_base.specs.Pokey.{PokeyValue}
use Rattle.board_base.specs.Ticks.{ticks, times}
use Rattle.board_base.specs.Trail.{TrailValue, Extended}
use Rattle.pokey_poly.specs.declared.poly.Poly.TheVariants.{Four, Five, Nine, Seventeen}
use Rattle.pokey_chip.specs.declared.channel.Channel.{Channel}
use Rattle.pokey_chip.specs.declared.channel.Channel.TheVariants.{First, Second, Third, Fourth}
use Rattle.pokey_chip.specs.declared.voice.Voice.{Voice}
use Rattle.pokey_chip.specs.declared.noise.Noise.{Noise}
use Rattle.pokey_chip.specs.declared.noise.Outputs.{Outputs}
use Rattle.pokey_chip.specs.declared.tones.Tones.{Tones}
use Rattle.pokey_chip.specs.declared.tones.Tuning.{Tuning}
use Rattle.pokey_chip.specs.declared.voice.Voices.{Voices}
use Rattle.pokey_chip.specs.Moves.{IsLeft, IsVoice, left_of_voice, IsTimed}
use Rattle.pokey_chip.specs.Tick.{channel_ticked, channels_ticked, is_held, left_of, pokey_tick, prescaled, rolled}
use Rattle.pokey_chip.specs.Tick.{underflow_effect, with_left, change, filtered, levels_made, levels_of, long_register, pokey_gives}
use Rattle.pokey_chip.specs.Channels.{place}
use Rattle.pokey_chip.specs.Noise.{IsNoise, long_poly}
use Rattle.pokey_chip.specs.Pulses.{rises_of}
use Rattle.pokey_chip.specs.Skips.{AreSkipped}
use Rattle.pokey_chip.specs.Tones.{asker, audc_of, follower, has, level_on, levels_on, next_tone, of_channel, requests_made, IsTuning}
use Rattle.pokey_chip.proofs.RegisterLaws.{counted_on, audc-kept, audctl-kept, kept, pot-after}
use Rattle.pokey_chip.proofs.VoiceLaws.{due-later, due_in, voice-in, later-test}
use Rattle.pokey_chip.proofs.TickLaws.{next_by, IsSmall, small-after, four-same, levels-same, long-after, next-same, requests-bit, requests-fits, requests-none, three-same, two-same}
use Rattle.pokey_chip.proofs.PlanLaws.{planned, voice_of, IsFar, IsThere, Plan, far-then, same-levels}
use Rattle.pokey_chip.proofs.RecordLemmas.{started-records, extended-more, quiet-trail}
use Rattle.pokey_chip.proofs.ToneLaws.{of-each}
use Rattle.pokey_chip.proofs.CountLaws.{tick-settled}

-- what is left of a channel then
pub is-left : (c : Channel) (n : ℕ) (p : PokeyValue) (v : Voice) → IsVoice c n p v → IsLeft v n
is-left c n p v is = record {
  prescaler = is.timed.prescaler;
  some = omega (arith, is.next, is.some, is.pulses_are n);
  most = omega (arith, is.next, is.most, is.pulses_are n);
}

pub left-end : (c : Channel) (n : ℕ) (p : PokeyValue) (v : Voice) → IsVoice c n p v → left_of_voice v n ≡ left_of c (times pokey_tick n p)
left-end c n p v is = omega (arith, is.next, is.pulses_are n)

-- after a clock or more the four channels' pulses left are a list of four
pub four-left : (p : PokeyValue) (n : ℕ) → 1 ≤ n → (times pokey_tick n p).left
    ≡ left_of First (times pokey_tick n p) ∷ left_of Second (times pokey_tick n p) ∷ left_of Third (times pokey_tick n p) ∷ left_of Fourth (times pokey_tick n p) ∷ []
unfolding ticks pokey_tick channels_ticked channel_ticked underflow_effect with_left
four-left p zero some = absurd (omega arith)
four-left p (suc n) some = refl

-- a POKEY that gets what clocks change is as after n clocks
pub put-together : (p : PokeyValue) (n : ℕ) (q u t : PokeyValue) (tone pass irqst pot : ℕ) (last left : List ℕ) → q ≡ counted_on n p q
    → tone ≡ q.tone → pass ≡ q.pass → irqst ≡ q.irqst → last ≡ q.last → left ≡ q.left → pot ≡ q.pot
    → u ≡ record p {
      poly4 = times (rolled (is_held p.skctl) Four) n p.poly4;
      poly5 = times (rolled (is_held p.skctl) Five) n p.poly5;
      poly9 = times (rolled (is_held p.skctl) Nine) n p.poly9;
      poly17 = times (rolled (is_held p.skctl) Seventeen) n p.poly17;
      tone = tone;
      pass = pass;
      irqst = irqst;
      last = last;
    }
    → t ≡ record u {
      left = left;
      pre28 = times (prescaled (is_held p.skctl) 28) n p.pre28;
      pre114 = times (prescaled (is_held p.skctl) 114) n p.pre114;
      pot = pot;
    }
    → t ≡ q
put-together p n q u t _ _ _ _ _ _ k e1 e2 e3 e4 e5 e6 put counts =
    counts
    ∙ rw (put, e1, e2, e3, e4, e5, e6) (sym k)

-- a move of n clocks that has done k of them, and comes to the clock `at` next
pub record IsMoved (p : PokeyValue) (n : ℕ) (plan : Plan p n) (from at : ℕ) (x y : TrailValue) (vs : Voices) (noise : Noise) (tones : Tones)
    (last_on : Option ℕ) (last : List ℕ) (k : ℕ) : Type 0 where
  pub within : k ≤ n
  pub later : k < at
  pub settled : suc k < at → (times pokey_tick k p).last ≡ levels_of (times pokey_tick k p)
  pub noise_there : IsNoise p noise
  pub since : noise.since ≤ k
  pub far : IsFar p n plan k (voice_of vs) tones
  pub levels : last ≡ (times pokey_tick k p).last
  pub fits : All (λ level. level < 16) last
  pub known : IfSome last_on (λ on. last ≡ levels_on on p.audc)
  pub due : (c : Channel) → at ≤ (voice_of vs c).due
  pub records : Extended x y (levels_made from k p)
  pub room : n ≤ y.spare + k

-- such a move, whatever its channels leave out
pub record HasMoved (p : PokeyValue) (from n at : ℕ) (x y : TrailValue) (vs : Voices) (noise : Noise) (tones : Tones) (last_on : Option ℕ) (last : List ℕ) : Type 0 where
  pub plan : Plan p n
  pub done : ℕ
  pub is : IsMoved p n plan from at x y vs noise tones last_on last done

level-fits : (on : ℕ) (audc : List ℕ) (c : Channel) → level_on on audc c < 16
level-fits on audc c = grind arith

-- the levels of four channels are of four bits
pub levels-fit : (on : ℕ) (audc : List ℕ) → All (λ level. level < 16) (levels_on on audc)
unfolding levels_on
levels-fit on audc =
    All-from_recursion (λ (level : ℕ). level < 16) (levels_on on audc)
    (level-fits on audc First, (level-fits on audc Second, (level-fits on audc Third, (level-fits on audc Fourth, tt))))

settled-at : (p : PokeyValue) (m : ℕ) → 1 ≤ m → (times pokey_tick m p).last ≡ levels_of (times pokey_tick m p)
unfolding ticks
settled-at p zero some = absurd (omega arith)
settled-at p (suc m) some = tick-settled (times pokey_tick m p)

-- a channel's pulse is to come
module _ {p : PokeyValue} {n : ℕ} (plan : Plan p n) (k : ℕ) (within : k ≤ n) (c : Channel) (w : Voice) (there : IsThere (plan.start c) (plan.begin c) k w) where
  timed-in : (m : ℕ) → m ≤ n → due_in (plan.start c) m ≡ w.due → IsTimed w
  timed-in m h e = rw (there.same, ← e) (voice-in c p (plan.start c) (plan.voices c) m (omega (arith, plan.early))).timed

  timed-there : IsTimed w
  timed-there = grind (arith, timed-in (plan.begin c - 1), timed-in k within, plan.begin_within c, plan.hidden c, there.hidden, there.started)

  later-there : k < w.due
  later-there = grind (arith, there.hidden, there.started, due-later c p (plan.start c) (plan.voices c) k (omega (arith, plan.early)))

-- a move at its first clock
module _ (p : PokeyValue) (from n : ℕ) (x : TrailValue) (vs ws : Voices) (noise : Noise) (tones : Tones) (last : List ℕ) (some : 1 ≤ n) (early : n ≤ 2 ^ 49) (room : n ≤ x.spare)
    (small : IsSmall p) (noise_there : IsNoise p noise) (since : noise.since ≡ 0) (tone : tones.tone ≡ p.tone) (pass : tones.pass ≡ p.pass) (underflowed : tones.underflowed ≡ 0)
    (levels : last ≡ p.last) (fits : All (λ level. level < 16) last)
    (first : IsVoice First 0 p vs.first) (second : IsVoice Second 0 p vs.second) (third : IsVoice Third 0 p vs.third) (fourth : IsVoice Fourth 0 p vs.fourth)
    (skips : AreSkipped p n vs ws) where
  planned-here : (plan : Plan p n) × ((c : Channel) → IsThere (plan.start c) (plan.begin c) 0 (voice_of ws c))
  planned-here = planned p small n early vs ws first second third fourth skips

  none-asked : (j : ℕ) → j < 3 → is_bit p.irqst j ≡ (is_bit p.irqst j && not (has tones.underflowed (asker j) && is_bit p.irqen j))
  none-asked j h =
      ap (λ (n : ℕ). is_bit n j) (sym (requests-none p.irqen p.irqst small.irqst))
      ∙ requests-bit 0 p.irqen p.irqst j h
      ∙ ap (λ (u : ℕ). is_bit p.irqst j && not (has u (asker j) && is_bit p.irqen j)) (sym underflowed)

  pub started : HasMoved p from n 1 x x ws noise tones None last
  unfolding ticks
  started = started-by planned-here
    where
      started-by : (plan : Plan p n) × ((c : Channel) → IsThere (plan.start c) (plan.begin c) 0 (voice_of ws c)) → HasMoved p from n 1 x x ws noise tones None last
      started-by (plan, there) = record {
        plan = plan;
        done = 0;
        is = record {
          within = omega arith;
          later = omega arith;
          settled = λ h. absurd (omega arith);
          noise_there = noise_there;
          since = omega arith;
          far = record {
            tone = λ c h. ap (λ (t : ℕ). has t c) tone;
            old = λ c h. ap (λ (t : ℕ). has t c) tone;
            pass = λ j h g. ap (λ (t : ℕ). is_bit t j) pass;
            asked = λ j h. record { made = has tones.underflowed (asker j); bit = none-asked j h; known = λ g. refl };
            voice = there;
          };
          levels = levels;
          fits = fits;
          known = tt;
          due = λ c. later-there plan 0 (omega arith) c (voice_of ws c) (there c);
          records = started-records from p x;
          room = omega arith;
        };
      }

or-false : (b : Bool) → (b || false) ≡ b
or-false b = grind arith

-- from one underflow to the next
module _ {p : PokeyValue} {n : ℕ} {plan : Plan p n} {from at : ℕ} {x y : TrailValue} {vs : Voices} {noise : Noise} {tones : Tones} {last_on : Option ℕ} {last : List ℕ} where
  one-on : (k : ℕ) → IsMoved p n plan from at x y vs noise tones last_on last k → suc k < at → suc k ≤ n → IsMoved p n plan from at x y vs noise tones last_on last (suc k)
  unfolding pokey_gives ticks
  one-on k is before inside = record {
    within = inside;
    later = before;
    settled = λ h. tick-settled (times pokey_tick k p);
    noise_there = is.noise_there;
    since = omega (arith, is.since);
    far = far-on;
    levels = is.levels ∙ sym levels-on;
    fits = is.fits;
    known = is.known;
    due = is.due;
    records = rw (add-one k) at (extended-more from k p is.records (quiet-trail y (from + k) (times pokey_tick k p).last (pokey_tick (times pokey_tick k p)).last (sym levels-on)));
    room = omega (arith, is.room);
  }
    where
      none-due : (c : Channel) → ((voice_of vs c).due == suc k) ≡ false
      none-due c = later-test (voice_of vs c).due (suc k) (omega (arith, is.due c))

      far-on : IsFar p n plan (suc k) (voice_of vs) tones
      far-on =
          far-then plan k inside (voice_of vs) (voice_of vs) tones tones is.far
          (λ c. rw (none-due c) refl) (λ j h. rw (none-due (follower j)) refl) (λ c. rw (none-due c) (sym (or-false (has tones.underflowed c)))) (λ c. rw (none-due c) refl)

      levels-on : (times pokey_tick (suc k) p).last ≡ (times pokey_tick k p).last
      levels-on =
          settled-at p (suc k) (omega arith)
          ∙ same-levels plan (times pokey_tick (suc k) p) (times pokey_tick k p) (audc-kept (suc k) p) (audctl-kept (suc k) p) (audc-kept k p) (audctl-kept k p)
          (λ c e. sym (far-on.tone c (omega arith)) ∙ is.far.tone c (omega arith))
          (λ j h e. sym (far-on.pass j h (omega arith)) ∙ is.far.pass j h (omega arith))
          ∙ sym (is.settled before)

  more-on : (k i : ℕ) → IsMoved p n plan from at x y vs noise tones last_on last k → k + i < at → k + i ≤ n
      → IsMoved p n plan from at x y vs noise tones last_on last (k + i)
  more-on k zero is before inside = rw (add-zero k) is
  more-on k (suc i) is before inside = rw (add-suc k i) (one-on (k + i) (more-on k i is (omega arith) (omega arith)) (omega arith) (omega arith))

  -- until the clock of the next underflow that isn't left out all stays
  pub comes-to : (k m : ℕ) → IsMoved p n plan from at x y vs noise tones last_on last k → k ≤ m → m < at → m ≤ n
      → IsMoved p n plan from at x y vs noise tones last_on last m
  comes-to k m is later before inside =
      let whole : k + (m - k) ≡ m = omega arith in
      rw whole at (more-on k (m - k) is (omega arith) (omega arith))

soonest-of : (ws : Voices) (next : ℕ) → next ≡ min (min ws.first.due ws.second.due) (min ws.third.due ws.fourth.due) → (c : Channel) → next ≤ (voice_of ws c).due
soonest-of ws next e c = grind arith

follower-place : (n j : ℕ) → j < 2 → is_bit n (j + 2) ≡ has n (follower j)
follower-place n j h = grind arith

module _ {p : PokeyValue} {from n at : ℕ} {x y : TrailValue} {vs : Voices} {noise : Noise} {tones : Tones} {last_on : Option ℕ} {last : List ℕ}
    (has-moved : HasMoved p from n at x y vs noise tones last_on last) where
  pub is-timed : (c : Channel) → IsTimed (voice_of vs c)
  is-timed c = timed-there has-moved.plan has-moved.done has-moved.is.within c (voice_of vs c) (has-moved.is.far.voice c)

  module _ (inside : at ≤ n) (tuning : Tuning) (outputs : Outputs) (due on next : ℕ) (z : TrailValue) (ws : Voices) (noise2 : Noise) (tones2 : Tones) (last2 : List ℕ)
      (tuned : IsTuning p tuning) (noise_there : IsNoise p noise2) (since : noise2.since ≤ at)
      (four : outputs.four ≡ is_bit (times (rolled (is_held p.skctl) Four) at p.poly4) 0)
      (five : outputs.five ≡ is_bit (times (rolled (is_held p.skctl) Five) at p.poly5) 0)
      (long : outputs.long ≡ is_bit (times (rolled (is_held p.skctl) (long_poly p.audctl)) at (long_register p)) 0)
      (is-due : (c : Channel) → has due c ≡ of_channel (vs.first.due == at) (vs.second.due == at) (vs.third.due == at) (vs.fourth.due == at) c)
      (tone2 : (c : Channel) → has tones2.tone c ≡ (if has due c then next_tone tuning outputs c (has tones.tone c) else has tones.tone c))
      (pass2 : (j : ℕ) → j < 2 → is_bit tones2.pass j ≡ (if is_bit due (j + 2) then is_bit tones2.tone j else is_bit tones.pass j))
      (underflowed2 : (c : Channel) → has tones2.underflowed c ≡ (has tones.underflowed c || has due c))
      (is-on : (c : Channel) → has on c ≡ (has tuning.steady c || filtered (has tuning.passed c) (has tones2.pass c) (has tones2.tone c)))
      (now : last2 ≡ levels_on on p.audc) (made : Extended y z (change (from + (at - 1)) last (levels_on on p.audc))) (few : y.spare ≤ z.spare + 1)
      (passed : (c : Channel) → voice_of ws c ≡ record (voice_of vs c) { due = if (voice_of vs c).due == at then (voice_of vs c).due + (voice_of vs c).step else (voice_of vs c).due })
      (soonest : next ≡ min (min ws.first.due ws.second.due) (min ws.third.due ws.fourth.due)) where
    some-at : 1 ≤ at
    some-at = omega (arith, has-moved.is.later)

    whole : suc (at - 1) ≡ at
    whole = omega arith

    before : IsMoved p n has-moved.plan from at x y vs noise tones last_on last (at - 1)
    before = comes-to has-moved.done (at - 1) has-moved.is (omega (arith, has-moved.is.later)) (omega arith) (omega arith)

    is-due-here : (c : Channel) → has due c ≡ ((voice_of vs c).due == at)
    is-due-here c = is-due c ∙ of-each (λ d. (voice_of vs d).due == at) c

    next-here : (c : Channel) (tone : Bool) → next_tone tuning outputs c tone ≡ next_by (audc_of p c) (times pokey_tick at p) tone
    next-here c tone =
        next-same tuning outputs p (times pokey_tick at p) c tone tuned (audc-kept at p)
        (four ∙ ap (λ (r : ℕ). is_bit r 0) (sym (ap (λ (q : PokeyValue). q.poly4) (kept at p))))
        (five ∙ ap (λ (r : ℕ). is_bit r 0) (sym (ap (λ (q : PokeyValue). q.poly5) (kept at p))))
        (long ∙ ap (λ (r : ℕ). is_bit r 0) (long-after at p))
        ∙ ap (λ (audc : List ℕ). next_by (slice_index audc (place c)) (times pokey_tick at p) tone) (audc-kept at p)

    tone-here : (c : Channel) → has tones2.tone c ≡ (if (voice_of vs c).due == at then next_by (audc_of p c) (times pokey_tick at p) (has tones.tone c) else has tones.tone c)
    tone-here c = tone2 c ∙ rw (is-due-here c, next-here c (has tones.tone c)) refl

    pass-here : (j : ℕ) → j < 2 → is_bit tones2.pass j ≡ (if (voice_of vs (follower j)).due == at then is_bit tones2.tone j else is_bit tones.pass j)
    pass-here j h = pass2 j h ∙ rw (follower-place due j h, is-due-here (follower j)) refl

    underflowed-here : (c : Channel) → has tones2.underflowed c ≡ (has tones.underflowed c || ((voice_of vs c).due == at))
    underflowed-here c = underflowed2 c ∙ rw (is-due-here c) refl

    far-there : IsFar p n has-moved.plan at (voice_of ws) tones2
    far-there =
        rw whole at
        (far-then has-moved.plan (at - 1) (omega arith) (voice_of vs) (voice_of ws) tones tones2 before.far
        (rw (← whole) at tone-here) (rw (← whole) at pass-here) (rw (← whole) at underflowed-here) (rw (← whole) at passed))

    abbrev heard : PokeyValue
    heard = record (times pokey_tick at p) { tone = tones2.tone; pass = tones2.pass }

    levels-there : levels_on on p.audc ≡ (times pokey_tick at p).last
    levels-there =
        levels-same tuning p heard on tuned (audc-kept at p) (audctl-kept at p) is-on
        ∙ same-levels has-moved.plan heard (times pokey_tick at p) (audc-kept at p) (audctl-kept at p) (audc-kept at p) (audctl-kept at p)
        (λ c e. far-there.tone c (omega arith)) (λ j h e. far-there.pass j h (omega arith))
        ∙ sym (settled-at p at some-at)

    tick-there : (times pokey_tick at p).last ≡ (pokey_tick (times pokey_tick (at - 1) p)).last
    unfolding ticks
    tick-there = ap (λ (m : ℕ). (times pokey_tick m p).last) (sym whole)

    records-there : Extended x z (levels_made from at p)
    unfolding pokey_gives
    records-there =
        let given : Extended y z (pokey_gives (from + (at - 1)) (times pokey_tick (at - 1) p)) = rw (before.levels, levels-there, tick-there) at made in
        let clock : at - 1 + 1 ≡ at = omega arith in
        rw clock at (extended-more from (at - 1) p before.records given)

    due-there : (c : Channel) → at < (voice_of ws c).due
    due-there c = later-there has-moved.plan at inside c (voice_of ws c) (far-there.voice c)

    next-later : at < next
    next-later = omega (arith, soonest, due-there First, due-there Second, due-there Third, due-there Fourth)

    pub moved : (at < next) × HasMoved p from n next x z ws noise2 tones2 (Some on) last2
    moved = (
      next-later,
      record {
        plan = has-moved.plan;
        done = at;
        is = record {
          within = inside;
          later = next-later;
          settled = λ h. settled-at p at some-at;
          noise_there = noise_there;
          since = since;
          far = far-there;
          levels = now ∙ levels-there;
          fits = rw now (levels-fit on p.audc);
          known = now;
          due = soonest-of ws next soonest;
          records = records-there;
          room = omega (arith, few, before.room);
        };
      },
    )

  -- the end of a move
  module _ (end : n < at) (some : 1 ≤ n) where
    last-step : IsMoved p n has-moved.plan from at x y vs noise tones last_on last n
    last-step = comes-to has-moved.done n has-moved.is has-moved.is.within end (omega arith)

    pub moved-records : Extended x y (levels_made from n p)
    moved-records = last-step.records

    small-end : IsSmall (times pokey_tick n p)
    small-end = small-after n p has-moved.plan.small

    tone-end : tones.tone ≡ (times pokey_tick n p).tone
    tone-end = four-same tones.tone (times pokey_tick n p).tone tones.tone_bits small-end.tone (λ c. last-step.far.tone c (has-moved.plan.begin_within c))

    pass-end : tones.pass ≡ (times pokey_tick n p).pass
    pass-end = two-same tones.pass (times pokey_tick n p).pass tones.pass_bits small-end.pass (λ j h. last-step.far.pass j h (has-moved.plan.right_within j))

    asked-end : (j : ℕ) → j < 3 → is_bit (requests_made tones.underflowed p.irqen p.irqst) j ≡ is_bit (times pokey_tick n p).irqst j
    asked-end j h =
        requests-bit tones.underflowed p.irqen p.irqst j h
        ∙ ap (λ (b : Bool). is_bit p.irqst j && not (b && is_bit p.irqen j)) (sym ((last-step.far.asked j h).known (has-moved.plan.begin_within (asker j))))
        ∙ sym (last-step.far.asked j h).bit

    irqst-end : requests_made tones.underflowed p.irqen p.irqst ≡ (times pokey_tick n p).irqst
    irqst-end = three-same (requests_made tones.underflowed p.irqen p.irqst) (times pokey_tick n p).irqst (requests-fits tones.underflowed p.irqen p.irqst) small-end.irqst asked-end

    voice-end : (c : Channel) → IsVoice c n p (voice_of vs c)
    voice-end c =
        let there : IsThere (has-moved.plan.start c) (has-moved.plan.begin c) n (voice_of vs c) = last-step.far.voice c in
        rw (there.same, ← there.started (has-moved.plan.begin_within c)) (voice-in c p (has-moved.plan.start c) (has-moved.plan.voices c) n has-moved.plan.early)

    pub is-left-end : (c : Channel) → IsLeft (voice_of vs c) n
    is-left-end c = is-left c n p (voice_of vs c) (voice-end c)

    left-list : left_of_voice vs.first n ∷ left_of_voice vs.second n ∷ left_of_voice vs.third n ∷ left_of_voice vs.fourth n ∷ [] ≡ (times pokey_tick n p).left
    left-list =
        rw (
          left-end First n p vs.first (voice-end First),
          left-end Second n p vs.second (voice-end Second),
          left-end Third n p vs.third (voice-end Third),
          left-end Fourth n p vs.fourth (voice-end Fourth),
        ) (sym (four-left p n some))

    pub moved-state : (u t : PokeyValue) → p.pot ≤ 228
        → u ≡ record p {
          poly4 = times (rolled (is_held p.skctl) Four) n p.poly4;
          poly5 = times (rolled (is_held p.skctl) Five) n p.poly5;
          poly9 = times (rolled (is_held p.skctl) Nine) n p.poly9;
          poly17 = times (rolled (is_held p.skctl) Seventeen) n p.poly17;
          tone = tones.tone;
          pass = tones.pass;
          irqst = requests_made tones.underflowed p.irqen p.irqst;
          last = last;
        }
        → t ≡ record u {
          left = left_of_voice vs.first n ∷ left_of_voice vs.second n ∷ left_of_voice vs.third n ∷ left_of_voice vs.fourth n ∷ [];
          pre28 = times (prescaled (is_held p.skctl) 28) n p.pre28;
          pre114 = times (prescaled (is_held p.skctl) 114) n p.pre114;
          pot = min 228 (p.pot + rises_of n p);
        }
        → t ≡ times pokey_tick n p
    moved-state u t few =
        put-together p n (times pokey_tick n p) u t _ _ _ _ _ _ (kept n p) tone-end pass-end irqst-end last-step.levels left-list (sym (pot-after n p few))
