-- Which strokes are in which frame.
use Rattle.std.proofs.Common.{◌≡◌, ℕ, zero, suc, ◌+◌, ◌<◌, ◌≤◌, List, [], ◌∷◌, ◌++◌, Bool, true, false, cond, length, map, take, drop, get_or, refl, sym, ap, ◌∙◌, arith, inl, inr, append-nil}
use Rattle.std.proofs.Common.{le-leb, one-add}
use Rattle.std.specs.Prelude.{All, ◌&&◌, filter, slice_get}
use Rattle.std.specs.List.{range_with_len}
use Rattle.std.specs.List.Sorted.{IsNonDecreasing, IsNonDecreasingBy}
use Rattle.std.proofs.lemmas.Bool.{lt-leb, lt-ltb, le-ltb}
use Rattle.std.proofs.lemmas.Bool.Decides.{leb_tells}
use Rattle.std.proofs.lemmas.List.{take-append-drop}
use Rattle.std.proofs.lemmas.List.Elements.{All-nil, All-cons, All-head, All-tail, filter-append}
use Rattle.std.proofs.lemmas.List.Sorted.{IsNonDecreasingBy-drop}
use Rattle.board_base.specs.declared.record.Record.{Record}
use Rattle.board_base.specs.Records.{clock_of}
use Rattle.frame_list.specs.Events.{stroke_of, through, by_clock}
use Rattle.frame_list.specs.Frames.{FrameValue, started, under_way, frames_of}
use Rattle.frame_list.specs.InFrames.{first_mark, last_mark, is_above, is_up_to, strokes_in, frame_at, EachFrameHasItsStrokes}
use Rattle.frame_list.proofs.FrameLaws.{ended-strokes, strokes-number}
use Rattle.frame_list.proofs.WholeLaws.{frames-mark}

-- elements that pass a test, that don't, and that pass another as well
filter-every : {X : Type 0} (p : X → Bool) (xs : List X) → All (λ x. p x ≡ true) xs → filter p xs ≡ xs
filter-every p [] all = refl
filter-every p (x ∷ xs) all = rw (All-head (λ x. p x ≡ true) x xs all) (ap (λ l. x ∷ l) (filter-every p xs (All-tail (λ x. p x ≡ true) x xs all)))

filter-none : {X : Type 0} (p : X → Bool) (xs : List X) → All (λ x. p x ≡ false) xs → filter p xs ≡ []
filter-none p [] all = refl
filter-none p (x ∷ xs) all = rw (All-head (λ x. p x ≡ false) x xs all) (filter-none p xs (All-tail (λ x. p x ≡ false) x xs all))

filter-same : {X : Type 0} (p q : X → Bool) (xs : List X) → All (λ x. p x ≡ q x) xs → filter p xs ≡ filter q xs
filter-same p q [] all = refl
filter-same p q (x ∷ xs) all =
    let rest = filter-same p q xs (All-tail (λ x. p x ≡ q x) x xs all) in
    rw (All-head (λ x. p x ≡ q x) x xs all) (ap (λ l. cond (q x) (x ∷ l) l) rest)

-- values of n numbers, from one on and from another
map-ranges : {X : Type 0} (f g : ℕ → X) (a b n : ℕ) → ((i j k : ℕ) → i < n → a + i ≡ j → b + i ≡ k → f j ≡ g k)
    → map f (range_with_len a n) ≡ map g (range_with_len b n)
map-ranges f g a b zero same = refl
map-ranges f g a b (suc n) same =
    let here = same 0 a b (omega arith) (omega arith) (omega arith) in
    let later = map-ranges f g (a + 1) (b + 1) n (λ i j k inside at to. same (suc i) j k (omega arith) (omega arith) (omega arith)) in
    cc

-- no later one is below the first
later-from : {X : Type 0} (n : X → ℕ) (x : X) (xs : List X) → IsNonDecreasingBy n (x ∷ xs) → All (λ y. n x ≤ n y) xs
later-from n x xs rises = λ k d inside. rises 0 (suc k) d (omega arith) (omega (arith, inside))

later-rises : {X : Type 0} (n : X → ℕ) (x : X) (xs : List X) → IsNonDecreasingBy n (x ∷ xs) → IsNonDecreasingBy n xs
later-rises n x xs rises = IsNonDecreasingBy-drop n 1 (x ∷ xs) rises

-- the strokes up to a mark, and those above it
record AreSplit (mark n : ℕ) (strokes : List Record) : Type 0 where
  before : All (λ stroke. clock_of stroke ≤ mark) (take n strokes)
  after : All (λ stroke. mark < clock_of stroke) (drop n strokes)

split-at : (mark : ℕ) (strokes : List Record) → IsNonDecreasingBy clock_of strokes → AreSplit mark (through mark strokes) strokes
split-at mark [] rises = record { before = All-nil (λ s. clock_of s ≤ mark); after = All-nil (λ s. mark < clock_of s) }
split-at mark (stroke ∷ strokes) rises =
    let rest = split-at mark strokes (later-rises clock_of stroke strokes rises) in
    elim (leb_tells (clock_of stroke) mark) [
      | inl (pass, low) ↦ rw (pass, one-add)
          record { before = All-cons (λ s. clock_of s ≤ mark) stroke (take (through mark strokes) strokes) low rest.before; after = rest.after }
      | inr (fail, high) ↦ rw fail record {
        before = All-nil (λ s. clock_of s ≤ mark);
        after = All-cons (λ s. mark < clock_of s) stroke strokes high (λ k d inside. omega (arith, later-from clock_of stroke strokes rises k d inside));
      }
    ]

-- a clock up to a mark is above no later one
not-above : (marks : List ℕ) (mark k clock : ℕ) → IsNonDecreasing (mark ∷ marks) → k ≤ length marks → clock ≤ mark
    → is_above (slice_get (mark ∷ marks) k) clock ≡ false
not-above marks mark zero clock rises within low = le-ltb mark clock low
not-above [] mark (suc k) clock rises within low = absurd (omega (arith, within))
not-above (next ∷ marks) mark (suc k) clock rises within low =
    let order = All-head (λ m. mark ≤ m) next marks (later-from (λ m. m) mark (next ∷ marks) rises) in
    not-above marks next k clock (later-rises (λ m. m) mark (next ∷ marks) rises) (omega (arith, within)) (omega (arith, low, order))

-- a stroke of a frame, by its clock
abbrev is_in : List ℕ → ℕ → Record → Bool
is_in marks k stroke = is_above (first_mark marks k) (clock_of stroke) && is_up_to (last_mark marks k) (clock_of stroke)

-- a stroke above a mark is in a frame after it exactly where it is in that frame of the marks that
-- are left
same-later : (marks : List ℕ) (mark k : ℕ) (stroke : Record) → mark < clock_of stroke → is_in (mark ∷ marks) (suc k) stroke ≡ is_in marks k stroke
same-later marks mark zero stroke high = rw (lt-ltb mark (clock_of stroke) high) refl
same-later marks mark (suc k) stroke high = refl

-- the strokes of frame 0, and those of a later one, which are those of the frame before it among
-- the strokes and marks that are left
abbrev up_to : ℕ → List Record → List Record
up_to mark strokes = take (through mark strokes) strokes

abbrev above : ℕ → List Record → List Record
above mark strokes = drop (through mark strokes) strokes

parts : (p : Record → Bool) (mark : ℕ) (strokes : List Record) → filter p strokes ≡ filter p (up_to mark strokes) ++ filter p (above mark strokes)
parts p mark strokes =
    ap (filter p) (sym (take-append-drop (through mark strokes) strokes)) ∙ filter-append p (up_to mark strokes) (above mark strokes)

strokes-first : (mark : ℕ) (marks : List ℕ) (strokes : List Record) → AreSplit mark (through mark strokes) strokes
    → strokes_in strokes (mark ∷ marks) 0 ≡ up_to mark strokes
strokes-first mark marks strokes split =
    let p = is_in (mark ∷ marks) 0 in
    rw (
      parts p mark strokes,
      filter-every p (up_to mark strokes) (λ k d inside. le-leb _ _ (split.before k d inside)),
      filter-none p (above mark strokes) (λ k d inside. lt-leb _ _ (split.after k d inside)),
    )
    (append-nil (up_to mark strokes))

strokes-later : (mark : ℕ) (marks : List ℕ) (strokes : List Record) → AreSplit mark (through mark strokes) strokes → (k : ℕ)
    → IsNonDecreasing (mark ∷ marks) → k ≤ length marks → strokes_in strokes (mark ∷ marks) (suc k) ≡ strokes_in (above mark strokes) marks k
strokes-later mark marks strokes split k rises within =
    let p = is_in (mark ∷ marks) (suc k) in
    rw (
      parts p mark strokes,
      filter-none p (up_to mark strokes) (λ i d inside. rw (not-above marks mark k _ rises within (split.before i d inside)) refl),
      filter-same p (is_in marks k) (above mark strokes) (λ i d inside. same-later marks mark k (get_or (above mark strokes) i d) (split.after i d inside)),
    )

-- frame k after frame n
abbrev frame_from : ℕ → ℕ → List Record → List ℕ → ℕ → FrameValue
frame_from n clock strokes marks k = under_way (started (n + k) (get_or (clock ∷ marks) k 0)) (map stroke_of (strokes_in strokes marks k))

-- the frames from one number on
frames-from : (n clock : ℕ) (strokes : List Record) (marks : List ℕ) → IsNonDecreasingBy clock_of strokes → IsNonDecreasing marks
    → frames_of (started n clock) (by_clock strokes marks) ≡ map (frame_from n clock strokes marks) (range_with_len 0 (length marks + 1))
unfolding by_clock
frames-from n clock strokes [] rises marks_rise =
    let zeroth : n + 0 ≡ n = omega arith in
    rw (ended-strokes (started n clock) strokes, filter-every (is_in [] 0) strokes (λ k d inside. refl), zeroth) refl
frames-from n clock strokes (mark ∷ marks) rises marks_rise =
    let split = split-at mark strokes rises in
    let first = up_to mark strokes in
    let later = above mark strokes in
    let count : length (mark ∷ marks) + 1 ≡ suc (length marks + 1) = omega arith in
    let zeroth : n + 0 ≡ n = omega arith in
    let last = under_way (started n clock) (map stroke_of first) in
    let same = strokes-number (started n clock) first in
    let rest = frames-from (last.number + 1) mark later marks (IsNonDecreasingBy-drop clock_of (through mark strokes) strokes rises) (later-rises (λ m. m) mark marks marks_rise)
    ∙ map-ranges (frame_from (last.number + 1) mark later marks) (frame_from n clock strokes (mark ∷ marks)) 0 1 (length marks + 1)
    (λ i j k inside at to. (let next : k ≡ suc j = omega arith in let number : n + suc j ≡ last.number + 1 + j = omega arith in
    rw (next, number, strokes-later mark marks strokes split j marks_rise (omega arith)) refl)) in
    rw (count, frames-mark (started n clock) first mark (by_clock later marks), zeroth, strokes-first mark marks strokes split) (ap (λ l. last ∷ l) rest)

pub each_frame_has_its_strokes : (clock : ℕ) (strokes : List Record) (marks : List ℕ) → EachFrameHasItsStrokes clock strokes marks
each_frame_has_its_strokes clock strokes marks rises marks_rise =
    frames-from 0 clock strokes marks rises marks_rise
    ∙ map-ranges (frame_from 0 clock strokes marks) (frame_at clock strokes marks) 0 0 (length marks + 1)
    (λ i j k inside at to. (let same : k ≡ j = omega arith in let zeroth : 0 + j ≡ j = omega arith in rw (same, zeroth) refl))
