-- Boards kept from the least clock to the greatest: one run comes to all of them.
use Rattle.std.proofs.Common.{◌≡◌, ℕ, ◌+◌, ◌-◌, ◌*◌, ◌<◌, ◌≤◌, ◌&&◌, nat_lt, cond, Bool, true, false, zero, suc, List, []}
use Rattle.std.proofs.Common.{◌∷◌, ◌++◌, All, Option, Some, None, IfSome, length, length-append, get_or, refl, sym, ap, ◌∙◌, subst, inl, inr, arith}
use Rattle.std.specs.List.{count_by}
use Rattle.std.proofs.lemmas.Bool.{cases_lt}
use Rattle.std.proofs.lemmas.Bool.Decides.{nat_tests}
use Rattle.std.proofs.lemmas.List.{get_or_append_left, get_or_push}
use Rattle.std.proofs.lemmas.List.Sums.{sum_by-cons, count_by-le-length}
use Rattle.board_base.specs.Board.{BoardValue}
use Rattle.tape_ports.specs.declared.entry.TapeEntry.{TapeEntry}
use Rattle.lockstep_board.specs.Order.{cleared}
use Rattle.lockstep_board.specs.Lockstep.{Board}
use Rattle.lockstep_board.specs.Run.{clock_steps, to_clock}
use Rattle.lockstep_board.proofs.Clocks.{stepped-clock}
use Rattle.lockstep_board.proofs.Ends.{clock_steps-few}
use Rattle.keyframes.specs.Keys.{Keyframe, KeyframesValue, is_crowded, last_of, live_of}
use Rattle.keyframes.specs.Seeking.{AddsBoard, Along, state_of}
use Rattle.keyframes.proofs.AlongLaws.{clock-past}
use Rattle.board_debug.specs.OneRun.{HasRoom, IsNextOf, IsReached, chosen, lesser}

-- the least of some clocks above one, a clock more
module _ (clocks : List ℕ) (last index clock : ℕ) (at : (d : ℕ) → get_or clocks index d ≡ clock) where
  here : (k d : ℕ) → k < index + 1 → index ≤ k → get_or clocks k d ≡ clock
  here k d h same = let e : k ≡ index = omega (arith, h, same) in ap (λ n. get_or clocks n d) e ∙ at d

  step-none : (t : Bool) → (t ≡ true → last < clock) → (t ≡ false → clock ≤ last) → IsNextOf clocks index last None
      → IsNextOf clocks (index + 1) last (chosen t None clock)
  step-none true up down before = (
    up refl,
    (index, omega arith, at),
    λ k d h above. elim (cases_lt k index) [
      | inl earlier ↦ let e = before k d earlier in absurd (omega (arith, e, above))
      | inr same ↦ let e = here k d h same in omega (arith, e)
    ],
  )
  step-none false up down before = λ k d h. elim (cases_lt k index) [
    | inl earlier ↦ before k d earlier
    | inr same ↦ let e = here k d h same in let f = down refl in omega (arith, e, f)
  ]

  step-some : (t : Bool) (found : ℕ) → (t ≡ true → (last < clock) × (clock < found)) → (t ≡ false → last < clock → found ≤ clock)
      → IsNextOf clocks index last (Some found) → IsNextOf clocks (index + 1) last (chosen t (Some found) clock)
  step-some true found up down before = let u = up refl in (
    u.0,
    (index, omega arith, at),
    λ k d h above. elim (cases_lt k index) [
      | inl earlier ↦ let e = before.2 k d earlier above in let v = u.1 in omega (arith, e, v)
      | inr same ↦ let e = here k d h same in omega (arith, e)
    ],
  )
  step-some false found up down before = (
    before.0,
    (before.1.0, (let e = before.1.1 in omega (arith, e)), before.1.2),
    λ k d h above. elim (cases_lt k index) [
      | inl earlier ↦ before.2 k d earlier above
      | inr same ↦ let e = here k d h same in let f = down refl (omega (arith, e, above)) in omega (arith, e, f)
    ],
  )

  pub next-step : (found : Option ℕ) → IsNextOf clocks index last found → IsNextOf clocks (index + 1) last (lesser last found clock)
  next-step None before = step-none (nat_lt last clock) (λ e. grind (arith, nat_tests)) (λ e. grind (arith, nat_tests)) before
  next-step (Some found) before = step-some (nat_lt last clock && nat_lt clock found) found
      (λ e. (grind (arith, nat_tests), grind (arith, nat_tests))) (λ e up. grind (arith, nat_tests)) before

-- how many of some clocks are above one
abbrev pub above : List ℕ → ℕ → ℕ
above clocks last = count_by (nat_lt last) clocks

above-cons : (x : ℕ) (xs : List ℕ) (last : ℕ) → above (x ∷ xs) last ≡ cond (nat_lt last x) 1 0 + above xs last
above-cons x xs last = sum_by-cons (λ y. cond (nat_lt last y) 1 0) x xs

fewer-one : (last next x : ℕ) → last ≤ next → cond (nat_lt next x) 1 0 ≤ cond (nat_lt last x) 1 0
fewer-one last next x h = grind (arith, nat_tests)

above-le : (clocks : List ℕ) (last next : ℕ) → last ≤ next → above clocks next ≤ above clocks last
above-le [] last next h = omega arith
above-le (x ∷ xs) last next h = omega (arith, above-cons x xs next, above-cons x xs last, fewer-one last next x h, above-le xs last next h)

above-less : (clocks : List ℕ) (last next i : ℕ) → i < length clocks → ((d : ℕ) → get_or clocks i d ≡ next) → last < next
    → above clocks next + 1 ≤ above clocks last
above-less [] last next i h at up = absurd (omega (arith, h))
above-less (x ∷ xs) last next zero h at up =
    let is : x ≡ next = at 0 in
    let first : cond (nat_lt next x) 1 0 + 1 ≤ cond (nat_lt last x) 1 0 = grind (arith, nat_tests) in
    omega (arith, first, above-cons x xs next, above-cons x xs last, above-le xs last next (omega (arith, up)))
above-less (x ∷ xs) last next (suc i) h at up =
    omega (arith, above-cons x xs next, above-cons x xs last, fewer-one last next x (omega (arith, up)), above-less xs last next i (omega (arith, h)) at up)

-- there is room for a board more
pub not-crowded : (keys : KeyframesValue) → live_of keys + 16 ≤ keys.capacity → length keys.kept + 1 ≤ keys.limit → is_crowded keys ≡ false
not-crowded keys h k = grind (arith, nat_tests)

-- what holds of the last holds at the last place
last-get : (P : Keyframe → Type 0) (kept : List Keyframe) → IfSome (last_of kept) P → 0 < length kept → (d : Keyframe) → P (get_or kept (length kept - 1) d)
last-get P [] holds some d = absurd (omega (arith, some))
last-get P (a ∷ []) holds some d = holds
last-get P (a ∷ b ∷ kept) holds some d =
    let place : suc (length (b ∷ kept) - 1) ≡ length (a ∷ b ∷ kept) - 1 = omega arith in
    subst (λ (n : ℕ). P (get_or (a ∷ b ∷ kept) n d)) place (last-get P (b ∷ kept) holds (omega arith) d)

-- the clock of a run to a clock
clock-of : (entries : List TapeEntry) (cut : ℕ) (b : Board) → (to_clock entries cut b).peripherals.clock ≡ b.peripherals.clock + clock_steps entries cut b
unfolding to_clock
clock-of entries cut b = stepped-clock entries (clock_steps entries cut b) b

clock-later : (entries : List TapeEntry) (cut : ℕ) (b : Board) → b.peripherals.clock ≤ (to_clock entries cut b).peripherals.clock
clock-later entries cut b = let e = clock-of entries cut b in omega (arith, e)

clock-most : (entries : List TapeEntry) (cut : ℕ) (b : Board) → b.peripherals.clock ≤ cut → (to_clock entries cut b).peripherals.clock ≤ cut
clock-most entries cut b h = let e = clock-of entries cut b in let f = clock_steps-few entries cut b in omega (arith, e, f, h)

-- the clock of the last kept board
abbrev pub last_clock : List Keyframe → Keyframe → ℕ
last_clock kept d = (get_or kept (length kept - 1) d).board.clock

-- The boards of the clocks up to one are kept, and a run from the start comes to the last of them
-- in as many clocks as lie between.
pub record Way (entries : List TapeEntry) (clocks : List ℕ) (b : Board) (before : ℕ) (keys : KeyframesValue) (done last : ℕ) : Type 0 where
  pub some : 0 < length keys.kept
  pub pages : live_of keys + 16 * above clocks last ≤ keys.capacity
  pub frames : length keys.kept + above clocks last ≤ keys.limit
  pub start : b.peripherals.clock ≤ last
  pub least : (d : Keyframe) → b.peripherals.clock ≤ last_clock keys.kept d
  pub most : (d : Keyframe) → last_clock keys.kept d ≤ last
  pub cost : (d : Keyframe) → done + b.peripherals.clock ≤ before + last_clock keys.kept d
  pub within : (most : ℕ) → b.peripherals.clock ≤ most → All (λ clock. clock ≤ most) clocks → last ≤ most
  pub reached : (k d : ℕ) → k < length clocks → b.peripherals.clock ≤ get_or clocks k d → get_or clocks k d ≤ last → IsReached entries b keys.kept (get_or clocks k d)

pub way-begins : (entries : List TapeEntry) (clocks : List ℕ) (b : Board) (before : ℕ) (keys : KeyframesValue) (last : ℕ) → HasRoom keys (length clocks)
    → Along keys.kept entries b → ((d : Keyframe) → last ≡ (get_or keys.kept 0 d).board.clock) → Way entries clocks b before keys before last
way-begins entries clocks b before keys last room along at =
    let first : (d : Keyframe) → (get_or keys.kept 0 d).board.clock ≡ b.peripherals.clock = λ d. ap (λ (s : BoardValue). s.clock) (along.first d) in
    let place : length keys.kept - 1 ≡ 0 = omega (arith, room.alone) in
    let ends : (d : Keyframe) → last_clock keys.kept d ≡ b.peripherals.clock =
    λ d. ap (λ n. (get_or keys.kept n d).board.clock) place ∙ first d in
    let d0 : Keyframe = record { board = state_of b; pages = [] } in
    let is : last ≡ b.peripherals.clock = at d0 ∙ first d0 in
    let few = count_by-le-length (nat_lt last) clocks in
    record {
      some = omega (arith, room.alone);
      pages = omega (arith, room.pages, few);
      frames = omega (arith, room.frames, few, room.alone);
      start = omega (arith, is);
      least = λ d. omega (arith, ends d);
      most = λ d. omega (arith, ends d, is);
      cost = λ d. omega (arith, ends d);
      within = λ most h all. omega (arith, is, h);
      reached = λ k d h low high. (
        0,
        omega (arith, room.alone),
        (λ d. omega (arith, first d, low)),
        (λ e. omega (arith, ap (λ (c : Board). c.peripherals.clock) (clock-past entries (get_or clocks k d) b (omega (arith, high, is))), first e)),
      );
    }

-- the boards that were kept are kept still
reached-more : (entries : List TapeEntry) (b : Board) (kept : List Keyframe) (one : Keyframe) (clock : ℕ) → IsReached entries b kept clock
    → IsReached entries b (kept ++ one ∷ []) clock
reached-more entries b kept one clock r =
    let same : (d : Keyframe) → get_or (kept ++ one ∷ []) r.0 d ≡ get_or kept r.0 d = λ d. get_or_append_left kept (one ∷ []) d r.0 r.1 in
    let len = length-append kept (one ∷ []) in (
      r.0,
      omega (arith, len, r.1),
      (λ d. omega (arith, ap (λ (k : Keyframe). k.board.clock) (same d), r.2 d)),
      (λ d. omega (arith, ap (λ (k : Keyframe). k.board.clock) (same d), r.3 d)),
    )

module _ (entries : List TapeEntry) (clocks : List ℕ) (b now : Board) (before done done' last next : ℕ) (keys keys' : KeyframesValue)
    (way : Way entries clocks b before keys done last) (found : IsNextOf clocks (length clocks) last (Some next))
    (board : now ≡ cleared (to_clock entries next b))
    (cost : All (λ keyframe. keyframe.board.clock ≤ next → done' + keyframe.board.clock ≤ done + now.peripherals.clock) keys.kept) where
  clock : now.peripherals.clock ≡ (to_clock entries next b).peripherals.clock
  clock = ap (λ (c : Board). c.peripherals.clock) board

  later : b.peripherals.clock ≤ now.peripherals.clock
  later = omega (arith, clock, clock-later entries next b)

  upto : now.peripherals.clock ≤ next
  upto = omega (arith, clock, clock-most entries next b (omega (arith, way.start, found.0)))

  fewer : above clocks next + 1 ≤ above clocks last
  fewer = above-less clocks last next found.1.0 found.1.1 found.1.2 found.0

  pub roomy : is_crowded keys ≡ false
  roomy = not-crowded keys (omega (arith, fewer, way.pages)) (omega (arith, fewer, way.frames))

  -- the way to the next clock from the last kept board
  spent : (d : Keyframe) → done' + last_clock keys.kept d ≤ done + now.peripherals.clock
  spent d = cost (length keys.kept - 1) d (omega (arith, way.some)) (omega (arith, way.most d, found.0))

  within-next : (most : ℕ) → b.peripherals.clock ≤ most → All (λ clock. clock ≤ most) clocks → next ≤ most
  within-next most h all = omega (arith, all found.1.0 0 found.1.1, found.1.2 0)

  -- a clock up to the next one was reached before, or is the next one
  upto-next : (kept : List Keyframe) → ((clock : ℕ) → IsReached entries b keys.kept clock → IsReached entries b kept clock) → IsReached entries b kept next
      → (k d : ℕ) → k < length clocks → b.peripherals.clock ≤ get_or clocks k d → get_or clocks k d ≤ next → IsReached entries b kept (get_or clocks k d)
  upto-next kept more reached k d h low high = elim (cases_lt last (get_or clocks k d)) [
    | inl past ↦
        let least = found.2 k d h past in
        let is : next ≡ get_or clocks k d = omega (arith, least, high) in
        subst (λ n. IsReached entries b kept n) is reached
    | inr old ↦ more (get_or clocks k d) (way.reached k d h low old)
  ]

  way-kept : (pages : List ℕ) → keys' ≡ record keys { kept = keys.kept ++ (record { board = state_of now; pages = pages }) ∷ [] }
      → live_of keys' ≤ live_of keys + 16 → Way entries clocks b before keys' done' next
  way-kept pages is live =
      let one : Keyframe = record { board = state_of now; pages = pages } in
      let joined : keys'.kept ≡ keys.kept ++ one ∷ [] = ap (λ (k : KeyframesValue). k.kept) is in
      let capacity : keys'.capacity ≡ keys.capacity = ap (λ (k : KeyframesValue). k.capacity) is in
      let limit : keys'.limit ≡ keys.limit = ap (λ (k : KeyframesValue). k.limit) is in
      let len : length keys'.kept ≡ length keys.kept + 1 = ap (λ (l : List Keyframe). length l) joined ∙ length-append keys.kept (one ∷ []) in
      let end : (d : Keyframe) → last_clock keys'.kept d ≡ now.peripherals.clock =
      λ d.
      let place : length keys'.kept - 1 ≡ length keys.kept = omega (arith, len) in
      ap (λ n. (get_or keys'.kept n d).board.clock) place
      ∙ ap (λ (l : List Keyframe). (get_or l (length keys.kept) d).board.clock) joined
      ∙ ap (λ (k : Keyframe). k.board.clock) (get_or_push keys.kept one d (length keys.kept) refl) in
      record {
        some = omega (arith, len);
        pages = omega (arith, fewer, way.pages, live, capacity);
        frames = omega (arith, fewer, way.frames, len, limit);
        start = omega (arith, way.start, found.0);
        least = λ d. omega (arith, end d, later);
        most = λ d. omega (arith, end d, upto);
        cost = λ d. omega (arith, end d, way.cost d, spent d);
        within = within-next;
        reached =
            subst (λ (l : List Keyframe). (k d : ℕ) → k < length clocks → b.peripherals.clock ≤ get_or clocks k d → get_or clocks k d ≤ next
            → IsReached entries b l (get_or clocks k d)) (sym joined)
            (upto-next (keys.kept ++ one ∷ []) (reached-more entries b keys.kept one) (
              length keys.kept,
              omega (arith, length-append keys.kept (one ∷ [])),
              (λ d. omega (arith, ap (λ (k : Keyframe). k.board.clock) (get_or_push keys.kept one d (length keys.kept) refl), upto)),
              (λ d. omega (arith, ap (λ (k : Keyframe). k.board.clock) (get_or_push keys.kept one d (length keys.kept) refl), clock)),
            ));
      }

  way-same : keys' ≡ keys → IfSome (last_of keys.kept) (λ keyframe. now.peripherals.clock ≤ keyframe.board.clock) → Way entries clocks b before keys' done' next
  way-same is ended =
      subst (λ (k : KeyframesValue). Way entries clocks b before k done' next) (sym is)
      (
      let some = way.some in
      let end : (d : Keyframe) → now.peripherals.clock ≤ last_clock keys.kept d =
      last-get (λ keyframe. now.peripherals.clock ≤ keyframe.board.clock) keys.kept ended some in
      record {
        some = some;
        pages = omega (arith, fewer, way.pages);
        frames = omega (arith, fewer, way.frames);
        start = omega (arith, way.start, found.0);
        least = way.least;
        most = λ d. omega (arith, way.most d, found.0);
        cost = λ d. omega (arith, end d, way.cost d, spent d);
        within = within-next;
        reached = upto-next keys.kept (λ clock r. r) (
          length keys.kept - 1,
          omega (arith, some),
          (λ d. omega (arith, way.most d, found.0)),
          (λ d. omega (arith, end d, clock)),
        );
      }
      )

  pub way-on : AddsBoard keys keys' now → Way entries clocks b before keys' done' next
  way-on adds = elim adds [
    | inl kept ↦ way-kept kept.0 kept.1 kept.2
    | inr same ↦ way-same same.0 same.1
  ]

-- at the end of the way all clocks are reached, in no more clocks than lie between the start and
-- the last of them
module _ (entries : List TapeEntry) (clocks : List ℕ) (b : Board) (before done last : ℕ) (keys : KeyframesValue)
    (way : Way entries clocks b before keys done last) where
  pub way-cost : (most : ℕ) → All (λ clock. clock ≤ most) clocks → done ≤ before + (most - b.peripherals.clock)
  way-cost most all =
      let d0 : Keyframe = record { board = state_of b; pages = [] } in
      elim (cases_lt most b.peripherals.clock) [
        | inl below ↦
            let low = way.within b.peripherals.clock (omega arith) (λ k d h. let e = all k d h in omega (arith, e, below)) in
            omega (arith, way.cost d0, way.most d0, low)
        | inr up ↦ let high = way.within most up all in omega (arith, way.cost d0, way.most d0, high)
      ]

  pub way-reached : IsNextOf clocks (length clocks) last None → All (λ clock. b.peripherals.clock ≤ clock → IsReached entries b keys.kept clock) clocks
  way-reached none = λ k d h low. way.reached k d h low (none k d h)

-- to go to a clock that is reached takes no clock
pub reached-free : (entries : List TapeEntry) (b from now : Board) (kept : List Keyframe) (clock done done' most : ℕ) → from ≡ b → now ≡ cleared (to_clock entries clock from)
    → (b.peripherals.clock ≤ clock → IsReached entries b kept clock)
    → All (λ keyframe. keyframe.board.clock ≤ clock → done' + keyframe.board.clock ≤ done + now.peripherals.clock) kept
    → (clock < from.peripherals.clock → done' ≤ done) → done ≤ most → done' ≤ most
reached-free entries b from now kept clock done done' most same board reached cost early old = elim (cases_lt clock b.peripherals.clock) [
  | inl below ↦ let free = early (subst (λ (x : Board). clock < x.peripherals.clock) (sym same) below) in omega (arith, free, old)
  | inr up ↦
      let d0 : Keyframe = record { board = state_of b; pages = [] } in
      let r = reached up in
      let is : now.peripherals.clock ≡ (to_clock entries clock b).peripherals.clock = ap (λ (c : Board). c.peripherals.clock) (board ∙ ap (λ (x : Board). cleared (to_clock entries clock x)) same) in
      omega (arith, r.2 d0, r.3 d0, is, cost r.0 d0 r.1 (r.2 d0), old)
]
