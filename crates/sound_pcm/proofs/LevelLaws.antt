-- Levels and weights at the clocks of a run.
use Rattle.std.proofs.Common.{◌≡◌, ℕ, zero, suc, add-zero, ◌+◌, ◌≤◌, ◌<◌, List, [], ◌∷◌, ◌++◌, map, replicate, ap, refl, arith, nat_le, if◌then◌else◌}
use Rattle.std.specs.List.{range_with_len}
use Rattle.std.proofs.lemmas.Bool.Decides.{nat_tests}
use Rattle.std.proofs.lemmas.List.Elements.{All-head, All-tail}
use Rattle.board_base.specs.declared.record.Record.{Record}
use Rattle.board_base.specs.declared.record.Record.TheVariants.{Levels}
use Rattle.board_base.specs.Records.{clock_of}
use Rattle.sound_pcm.specs.Mixing.{LevelsBetween}
use Rattle.sound_pcm.specs.Samples.{levels_of, levels_after, levels_at, weight}
use Rattle.sound_pcm.specs.WholeRun.{AreBefore, AreFrom}

-- levels after two lists of records
pub at-append : (before : List ℕ) (first rest : List Record) (clock : ℕ)
    → levels_at before (first ++ rest) clock ≡ levels_at (levels_at before first clock) rest clock
unfolding levels_at
at-append before [] rest clock = refl
at-append before (made ∷ first) rest clock =
    at-append (if nat_le (clock_of made) clock then levels_of before made else before) first rest clock

pub after-append : (before : List ℕ) (first rest : List Record) → levels_after before (first ++ rest) ≡ levels_after (levels_after before first) rest
unfolding levels_after
after-append before [] rest = refl
after-append before (made ∷ first) rest = after-append (levels_of before made) first rest

-- records that have all come
pub at-all : (before : List ℕ) (records : List Record) (at clock : ℕ) → AreBefore at records → at ≤ clock + 1
    → levels_at before records clock ≡ levels_after before records
unfolding levels_at levels_after
at-all before [] at clock sooner order = refl
at-all before (made ∷ others) at clock sooner order =
    let first : clock_of made < at = All-head (λ r. clock_of r < at) made others sooner in
    let rest = at-all (levels_of before made) others at clock (All-tail (λ r. clock_of r < at) made others sooner) order in
    grind (arith, nat_tests, rest)

-- records none of which has come
pub at-none : (before : List ℕ) (records : List Record) (at clock : ℕ) → AreFrom at records → clock < at → levels_at before records clock ≡ before
unfolding levels_at
at-none before [] at clock later order = refl
at-none before (made ∷ others) at clock later order =
    let first : at ≤ clock_of made = All-head (λ r. at ≤ clock_of r) made others later in
    let rest = at-none before others at clock (All-tail (λ r. at ≤ clock_of r) made others later) order in
    grind (arith, nat_tests, rest)

-- a record that isn't of levels changes none
abbrev pub IsOther : Record → Type 0
IsOther (Levels clock l1 l2 l3 l4) = ⊥
IsOther _ = Unit {0}

pub other-of : (made : Record) → ((clock l1 l2 l3 l4 : ℕ) → made ≡ Levels clock l1 l2 l3 l4 → ⊥) → IsOther made
other-of (Levels clock l1 l2 l3 l4) not = not clock l1 l2 l3 l4 refl
other-of _ not = tt

-- it is passed over
pub record IsPassedOver (before : List ℕ) (made : Record) (others : List Record) : Type 0 where
  pub at : (clock : ℕ) → levels_at before (made ∷ others) clock ≡ levels_at before others clock
  pub after : levels_after before (made ∷ others) ≡ levels_after before others
  pub between : (from to : ℕ) → LevelsBetween from (made ∷ others) to → LevelsBetween from others to

pub passed_over : (before : List ℕ) (made : Record) (others : List Record) → IsOther made → IsPassedOver before made others
unfolding levels_at levels_after
passed_over before (Levels clock l1 l2 l3 l4) others is = absurd is
passed_over before _ others is = record { at = λ k. grind (arith, nat_tests); after = refl; between = λ from to b. b }

-- no record of levels has come
pub at-sooner : (before : List ℕ) (records : List Record) (from to clock : ℕ) → LevelsBetween from records to → clock < from
    → levels_at before records clock ≡ before
unfolding levels_at
at-sooner before [] from to clock made order = refl
at-sooner before (Levels at l1 l2 l3 l4 ∷ others) from to clock (low, high, rest) order =
    let later = at-sooner before others at to clock rest (omega arith) in grind (arith, nat_tests, later)
at-sooner before (_ ∷ others) from to clock made order =
    let later = at-sooner before others from to clock made order in grind (arith, nat_tests, later)

-- a weight from the levels at a clock
pub weight-by : (a b a' b' : List ℕ) (x y x' y' : List Record) (clock : ℕ) → levels_at a x clock ≡ levels_at a' x' clock
    → levels_at b y clock ≡ levels_at b' y' clock → weight a b x y clock ≡ weight a' b' x' y' clock
unfolding weight
weight-by a b a' b' x y x' y' clock one two = cc

-- the same values from two clocks on
pub map-range-shift : {X : Type 0} (f g : ℕ → X) (a b n : ℕ) → ((k : ℕ) → k < n → f (a + k) ≡ g (b + k))
    → map f (range_with_len a n) ≡ map g (range_with_len b n)
map-range-shift f g a b zero same = refl
map-range-shift f g a b (suc n) same =
    let here : f a ≡ g b = rw (add-zero a, add-zero b) at (same 0 (omega arith)) in
    let later = map-range-shift f g (a + 1) (b + 1) n (λ k inside. (let next : (m : ℕ) → m + 1 + k ≡ m + suc k = λ m. omega arith in
    rw (next a, next b) (same (suc k) (omega arith)))) in
    cc

pub map-range-same : {X : Type 0} (f g : ℕ → X) (a n : ℕ) → ((k : ℕ) → a ≤ k → k < a + n → f k ≡ g k)
    → map f (range_with_len a n) ≡ map g (range_with_len a n)
map-range-same f g a n same = map-range-shift f g a a n (λ k inside. same (a + k) (omega arith) (omega arith))

-- one value at each clock
pub map-range-steady : (a n w : ℕ) → map (λ (k : ℕ). w) (range_with_len a n) ≡ replicate n w
map-range-steady a zero w = refl
map-range-steady a (suc n) w = ap (λ l. w ∷ l) (map-range-steady (a + 1) n w)

-- further clocks
pub map-range-append : {X : Type 0} (f : ℕ → X) (a b n m : ℕ) → a + n ≡ b
    → map f (range_with_len a (n + m)) ≡ map f (range_with_len a n) ++ map f (range_with_len b m)
map-range-append f a b zero m is = grind arith
map-range-append f a b (suc n) m is =
    let more : suc n + m ≡ suc (n + m) = omega arith in
    rw more (ap (λ l. f a ∷ l) (map-range-append f (a + 1) b n m (omega arith)))
