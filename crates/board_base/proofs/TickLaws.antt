-- Laws of ticks: none, one more, split at any place, and what they keep.
use Rattle.std.proofs.Common.{◌≡◌, ℕ, ◌+◌, ◌-◌, ◌≤◌, List, [], ◌++◌, zero, suc, length, refl, sym, ap, ◌∙◌, add-zero, add-suc, add-one, add_assoc, append-nil, append_assoc, arith, length-append}
use Rattle.board_base.specs.Ticks.{ticks, made, times}

module _ {S : Type 0} (tick : ℕ → S → S) where
  -- no tick leaves the state as it is
  pub ticks-zero : (from : ℕ) (s : S) → ticks tick from 0 s ≡ s
  unfolding ticks
  ticks-zero from s = refl

  -- one tick more comes at the end
  pub ticks-more : (from n : ℕ) (s : S) → ticks tick from (n + 1) s ≡ tick (from + n) (ticks tick from n s)
  unfolding ticks
  ticks-more from n s = rw (add-one n) refl

  pub ticks-level : (at : ℕ) (s : S) → ticks tick at (at - at) s ≡ s
  unfolding ticks
  ticks-level at s = let e : at - at ≡ 0 = omega arith in rw e refl

  pub ticks-still : (from n : ℕ) (s : S) → n ≤ 0 → ticks tick from n s ≡ s
  unfolding ticks
  ticks-still from n s h = let e : n ≡ 0 = omega arith in rw e refl

  -- from a clock through another: one tick more than up to it
  pub ticks-next : (from to : ℕ) (s : S) → from ≤ to → ticks tick from (to + 1 - from) s ≡ tick to (ticks tick from (to - from) s)
  ticks-next from to s h =
      let e : to + 1 - from ≡ (to - from) + 1 = omega arith in
      let f : from + (to - from) ≡ to = omega arith in
      rw (e, ticks-more from (to - from) s, f) refl

  -- a ticks and then b ticks are a + b ticks
  pub ticks-add : (from a b : ℕ) (s : S) → ticks tick from (a + b) s ≡ ticks tick (from + a) b (ticks tick from a s)
  unfolding ticks
  ticks-add from a zero s = rw add-zero refl
  ticks-add from a (suc b) s = rw (add-suc, ticks-add from a b s, ← add_assoc) refl

  -- what each tick keeps, ticks keep
  pub ticks-keep : (P : S → Type 0) → ((t : ℕ) (s : S) → P s → P (tick t s)) → (from n : ℕ) (s : S) → P s → P (ticks tick from n s)
  unfolding ticks
  ticks-keep P keep from zero s p = p
  ticks-keep P keep from (suc n) s p = keep (from + n) (ticks tick from n s) (ticks-keep P keep from n s p)

  -- a state that each tick leaves alone stays
  pub ticks-rest : (from n : ℕ) (s : S) → ((t : ℕ) → tick t s ≡ s) → ticks tick from n s ≡ s
  unfolding ticks
  ticks-rest from zero s rest = refl
  ticks-rest from (suc n) s rest = rw (ticks-rest from n s rest) (rest (from + n))

module _ {S R : Type 0} (tick : ℕ → S → S) (gives : ℕ → S → List R) where
  -- no tick gives no record
  pub made-zero : (from : ℕ) (s : S) → made tick gives from 0 s ≡ []
  unfolding made
  made-zero from s = refl

  -- the records of one tick more follow
  pub made-more : (from n : ℕ) (s : S) → made tick gives from (n + 1) s ≡ made tick gives from n s ++ gives (from + n) (ticks tick from n s)
  unfolding made
  made-more from n s = rw (add-one n) refl

  pub made-level : (at : ℕ) (s : S) → made tick gives at (at - at) s ≡ []
  unfolding made
  made-level at s = let e : at - at ≡ 0 = omega arith in rw e refl

  pub made-still : (from n : ℕ) (s : S) → n ≤ 0 → made tick gives from n s ≡ []
  unfolding made
  made-still from n s h = let e : n ≡ 0 = omega arith in rw e refl

  pub made-next : (from to : ℕ) (s : S) → from ≤ to
      → made tick gives from (to + 1 - from) s ≡ made tick gives from (to - from) s ++ gives to (ticks tick from (to - from) s)
  made-next from to s h =
      let e : to + 1 - from ≡ (to - from) + 1 = omega arith in
      let f : from + (to - from) ≡ to = omega arith in
      rw (e, made-more from (to - from) s, f) refl

  -- the records of a + b ticks are those of a ticks and then of b ticks
  pub made-add : (from a b : ℕ) (s : S)
      → made tick gives from (a + b) s ≡ made tick gives from a s ++ made tick gives (from + a) b (ticks tick from a s)
  unfolding made
  made-add from a zero s = rw (add-zero, append-nil) refl
  made-add from a (suc b) s = rw (add-suc, made-add from a b s, ticks-add tick from a b s, ← add_assoc, append_assoc) refl

  -- a state that each tick leaves alone and that gives nothing gives nothing for ever
  pub made-rest : (from n : ℕ) (s : S) → ((t : ℕ) → tick t s ≡ s) → ((t : ℕ) → gives t s ≡ []) → made tick gives from n s ≡ []
  unfolding made
  made-rest from zero s rest none = refl
  made-rest from (suc n) s rest none = rw (made-rest from n s rest none, ticks-rest tick from n s rest, none (from + n)) refl

  -- where a tick gives one record at most, n ticks give n at most
  pub length-made : (from n : ℕ) (s : S) → ((t : ℕ) (s : S) → length (gives t s) ≤ 1) → length (made tick gives from n s) ≤ n
  unfolding made
  length-made from zero s few = omega arith
  length-made from (suc n) s few =
      omega (arith, length-append (made tick gives from n s) (gives (from + n) (ticks tick from n s)), length-made from n s few, few (from + n) (ticks tick from n s))

module _ {S : Type 0} (tick : S → S) where
  pub times-zero : (s : S) → times tick 0 s ≡ s
  times-zero s = ticks-zero (λ _. tick) 0 s

  pub times-more : (n : ℕ) (s : S) → times tick (n + 1) s ≡ tick (times tick n s)
  times-more n s = ticks-more (λ _. tick) 0 n s

  pub times-level : (at : ℕ) (s : S) → times tick (at - at) s ≡ s
  times-level at s = ticks-still (λ _. tick) 0 (at - at) s (omega arith)

  pub times-still : (n : ℕ) (s : S) → n ≤ 0 → times tick n s ≡ s
  times-still n s h = ticks-still (λ _. tick) 0 n s h

  pub times-next : (from to : ℕ) (s : S) → from ≤ to → times tick (to + 1 - from) s ≡ tick (times tick (to - from) s)
  times-next from to s h =
      let e : to + 1 - from ≡ (to - from) + 1 = omega arith in
      rw e (times-more (to - from) s)

  -- the clock isn't looked at, so it may begin anywhere
  pub ticks-times : (from n : ℕ) (s : S) → ticks (λ _. tick) from n s ≡ times tick n s
  unfolding ticks
  ticks-times from zero s = refl
  ticks-times from (suc n) s = ap tick (ticks-times from n s)

  pub times-add : (a b : ℕ) (s : S) → times tick (a + b) s ≡ times tick b (times tick a s)
  times-add a b s = ticks-add (λ _. tick) 0 a b s ∙ ticks-times (0 + a) b (times tick a s)

-- for a device that moves one tick
pub ruleset one_tick = (ticks-zero, ticks-more, made-zero, made-more, times-zero, times-more)

-- for a device that has no lag
pub ruleset level = (ticks-level, made-level, times-level, ticks-still, made-still, times-still, append-nil)

-- for a clock in which a device lags by one more
pub ruleset next_clock = (ticks-next, made-next, times-next, append_assoc, times-level)
