-- The kept boards when one more is kept, and where a seek begins.
use Rattle.std.proofs.Common.{◌≡◌, ℕ, ◌+◌, ◌-◌, ◌^◌, ◌<◌, ◌≤◌, min, List, [], ◌∷◌, ◌++◌, All, IfSome, length, get_or, take, drop, suc, refl, sym, ap, ◌∙◌, subst, inl, inr, arith, true, false, Option}
use Rattle.std.proofs.Common.{Some, None, not, bytes_eq, zero}
use Rattle.std.proofs.lemmas.Bool.{cases_lt, true≢false}
use Rattle.std.proofs.lemmas.List.Elements.{All-push}
use Rattle.std.proofs.Math.Seq.{take-append_seam}
use Rattle.std.specs.List.{range_with_len}
use Rattle.std.proofs.lemmas.List.FromFn.{length-range_with_len}
use Rattle.std.proofs.lemmas.List.Sums.{count_by-le-length}
use Rattle.board_base.specs.declared.vector_memory.TheConstants.{VECTOR_RAM_LEN}
use Rattle.board_base.specs.Board.{BoardValue, IsBoard}
use Rattle.tape_ports.specs.declared.entry.TapeEntry.{TapeEntry}
use Rattle.lockstep_board.specs.Order.{cleared}
use Rattle.lockstep_board.specs.Lockstep.{Board}
use Rattle.lockstep_board.specs.Run.{to_clock}
use Rattle.lockstep_board.proofs.Ends.{to_clock-split}
use Rattle.keyframes.specs.Keys.{HaveRisingClocks, IsNearest, Keeps, Keyframe, KeyframesValue, MakesRoom, last_of, thinned, is_crowded, keys_thinned, live_of, page_of, pages_taken}
use Rattle.keyframes.specs.Seeking.{Along, CanBeLoaded, IsOnRun, over_image, run_start, state_of}
use Rattle.keyframes.specs.declared.pages.TheConstants.{BOARD_PAGES}
use Rattle.keyframes.proofs.KeysLaws.{all-one, last-joined}
use Rattle.keyframes.proofs.RoomLaws.{all-thinned, thinned-keeps}
use Rattle.keyframes.proofs.AlongLaws.{clock-cleared, clock-past, loaded-board, loaded-start}

-- the first board stays the first
abbrev HasFirstOf : List Keyframe → List Keyframe → Type 0
HasFirstOf old new = (0 < length new) × ((d : Keyframe) → get_or new 0 d ≡ get_or old 0 d) × ((e : Board) → run_start new e ≡ run_start old e)

first-thinned : (kept : List Keyframe) → 0 < length kept → HasFirstOf kept (thinned kept)
first-thinned [] some = absurd (omega (arith, some))
first-thinned (a ∷ []) some = (omega arith, λ d. refl, λ e. refl)
first-thinned (a ∷ b ∷ kept) some = (omega arith, λ d. refl, λ e. refl)

first-more : (a b c : List Keyframe) → HasFirstOf a b → HasFirstOf b c → HasFirstOf a c
first-more a b c one more = (more.0, λ d. more.1 d ∙ one.1 d, λ e. more.2 e ∙ one.2 e)

first-joined : (kept : List Keyframe) (keyframe : Keyframe) → 0 < length kept → HasFirstOf kept (kept ++ keyframe ∷ [])
first-joined [] keyframe some = absurd (omega (arith, some))
first-joined (a ∷ kept) keyframe some = (omega arith, λ d. refl, λ e. refl)

module _ (old roomy new : KeyframesValue) (state : BoardValue) (room : MakesRoom old roomy) (keeps : Keeps roomy new state) where
  abbrev one : Keyframe
  one = record { board = state; pages = keeps.pages }

  joined : new.kept ≡ roomy.kept ++ one ∷ []
  joined = ap (λ (keys : KeyframesValue). keys.kept) keeps.kept

  roomy-keeps : (P : KeyframesValue → Type 0) → ((keys : KeyframesValue) → P keys → P (record keys { kept = thinned keys.kept })) → P old → P roomy
  roomy-keeps P kept holds = subst P (sym room.thinned) (thinned-keeps P kept room.thinnings old holds)

  first-roomy : 0 < length old.kept → HasFirstOf old.kept roomy.kept
  first-roomy some = roomy-keeps (λ (keys : KeyframesValue). HasFirstOf old.kept keys.kept)
      (λ keys has. first-more old.kept keys.kept (thinned keys.kept) has (first-thinned keys.kept has.0)) (some, λ d. refl, λ e. refl)

  first-kept : 0 < length old.kept → HasFirstOf old.kept new.kept
  first-kept some =
      subst (λ (kept : List Keyframe). HasFirstOf old.kept kept) (sym joined)
      (first-more old.kept roomy.kept (roomy.kept ++ one ∷ []) (first-roomy some) (first-joined roomy.kept one (first-roomy some).0))

  -- what holds of all boards and of the one that is kept holds of all
  all-kept : (P : Keyframe → Type 0) → All P old.kept → P one → All P new.kept
  all-kept P all last =
      subst (All P) (sym joined)
      (All-push P roomy.kept one (roomy-keeps (λ (keys : KeyframesValue). All P keys.kept) (λ keys. all-thinned P keys.kept) all) last)

  -- the run begins where it began
  pub start-kept : 0 < length old.kept → (e : Board) → run_start new.kept e ≡ run_start old.kept e
  start-kept some = (first-kept some).2

  -- a board of the run is kept along it
  pub along-kept : (entries : List TapeEntry) (b now : Board) → CanBeLoaded state → state ≡ state_of now → IsOnRun entries b now
      → Along old.kept entries b → Along new.kept entries b
  along-kept entries b now loadable is on_run along =
      let first = first-kept along.some in
      record {
        some = first.0;
        first = λ d. ap (λ (k : Keyframe). k.board) (first.1 d) ∙ along.first d;
        each = all-kept (λ keyframe. keyframe.board ≡ state_of (to_clock entries keyframe.board.clock b)) along.each
            (is ∙ ap state_of on_run ∙ ap (λ n. state_of (to_clock entries n b)) (sym (ap (λ (s : BoardValue). s.clock) is)));
        loadable = all-kept (λ keyframe. CanBeLoaded keyframe.board) along.loadable loadable;
      }

  -- and is the last
  pub last-is : (P : Keyframe → Type 0) → P one → IfSome (last_of new.kept) P
  last-is P holds = rw (joined, last-joined roomy.kept one) holds

-- over an image a whole state is as it was
over_image-whole : (e : Board) (state : BoardValue) → IsBoard state → state ≡ state_of (over_image e state)
over_image-whole e state is =
    let rom = drop VECTOR_RAM_LEN e.peripherals.memory in
    ap (λ (vram : List ℕ). let again : BoardValue = record state { vram = vram } in again)
    (sym (ap (λ k. take k (state.vram ++ rom)) (sym is.vram) ∙ take-append_seam state.vram rom))

-- a board that is kept alone lies along the run that begins with it
along-alone : (keyframe : Keyframe) (entries : List TapeEntry) (e : Board) → IsBoard keyframe.board → CanBeLoaded keyframe.board
    → Along (keyframe ∷ []) entries (over_image e keyframe.board)
along-alone keyframe entries e is loadable =
    let b = over_image e keyframe.board in
    let same = over_image-whole e keyframe.board is in
    record {
      some = omega arith;
      first = λ d. same;
      each = all-one (λ k. k.board ≡ state_of (to_clock entries k.board.clock b)) keyframe
          (same ∙ sym (ap state_of (clock-past entries keyframe.board.clock b (omega arith))));
      loadable = all-one (λ k. CanBeLoaded k.board) keyframe loadable;
    }

-- the board that is kept where none was is alone
pub kept-alone : (old roomy new : KeyframesValue) (state : BoardValue) → MakesRoom old roomy → (keeps : Keeps roomy new state) → old.kept ≡ []
    → new.kept ≡ record { board = state; pages = keeps.pages } ∷ []
kept-alone old roomy new state room keeps none =
    ap (λ (keys : KeyframesValue). keys.kept) keeps.kept ∙ ap (λ (kept : List Keyframe). kept ++ (record { board = state; pages = keeps.pages }) ∷ [])
    (ap (λ (keys : KeyframesValue). keys.kept) room.thinned ∙ thinned-keeps (λ (keys : KeyframesValue). keys.kept ≡ []) (λ keys is. ap thinned is) room.thinnings old none)

pub start-alone : (kept : List Keyframe) (keyframe : Keyframe) → kept ≡ keyframe ∷ [] → (e : Board) → run_start kept e ≡ over_image e keyframe.board
start-alone kept keyframe is e = ap (λ (k : List Keyframe). run_start k e) is

pub along-start : (kept : List Keyframe) (keyframe : Keyframe) → kept ≡ keyframe ∷ [] → IsBoard keyframe.board → CanBeLoaded keyframe.board
    → (entries : List TapeEntry) (e : Board) → Along kept entries (run_start kept e)
along-start kept keyframe is whole loadable entries e =
    subst (λ (k : List Keyframe). Along k entries (run_start k e)) (sym is) (along-alone keyframe entries e whole loadable)

-- an engine that has taken on a kept board stands at a board of the run
pub record Begins (kept : List Keyframe) (entries : List TapeEntry) (e now : Board) : Type 0 where
  pub start : run_start kept now ≡ run_start kept e
  pub along : Along kept entries (run_start kept now)
  pub on_run : IsOnRun entries (run_start kept now) now

pub begins : (kept : List Keyframe) (entries : List TapeEntry) (e now : Board) (i : ℕ) → Along kept entries (run_start kept e) → i < length kept
    → ((d : Keyframe) → now ≡ over_image e (get_or kept i d).board) → Begins kept entries e now
begins kept entries e now i along within loads =
    let d : Keyframe = record { board = state_of e; pages = [] } in
    let is = loads d in
    let start : run_start kept now ≡ run_start kept e = ap (run_start kept) is ∙ loaded-start kept entries e along i d within in
    let clock : now.peripherals.clock ≡ (get_or kept i d).board.clock = ap (λ (b : Board). b.peripherals.clock) is in
    record {
      start = start;
      along = subst (Along kept entries) (sym start) along;
      on_run =
          is ∙ loaded-board kept entries e along i d within ∙ ap (λ n. cleared (to_clock entries n (run_start kept e))) (sym clock)
          ∙ ap (λ (b : Board). cleared (to_clock entries now.peripherals.clock b)) (sym start);
    }

-- what a kept board is, an engine can take on
pub can_load : (kept : List Keyframe) (i : ℕ) (state : BoardValue) → All (λ keyframe. CanBeLoaded keyframe.board) kept → i < length kept
    → ((d : Keyframe) → state ≡ (get_or kept i d).board) → CanBeLoaded state
can_load kept i state all within is =
    let d : Keyframe = record { board = state; pages = [] } in
    subst CanBeLoaded (sym (is d)) (all i d within)

-- the last is at the last place
pub last-at : (P : Keyframe → Type 0) (kept : List Keyframe) → ((d : Keyframe) → P (get_or kept (length kept - 1) d)) → IfSome (last_of kept) P
last-at P [] holds = tt
last-at P (a ∷ []) holds = holds a
last-at P (a ∷ b ∷ kept) holds =
    last-at P (b ∷ kept) (λ d.
    let place : length (a ∷ b ∷ kept) - 1 ≡ suc (length (b ∷ kept) - 1) = omega arith in
    subst (λ (n : ℕ). P (get_or (a ∷ b ∷ kept) n d)) place (holds d))

pub last-clock : (P : ℕ → Type 0) (kept : List Keyframe) (len last : ℕ) → len ≡ length kept
    → ((d : Keyframe) → last ≡ (get_or kept (len - 1) d).board.clock) → P last → IfSome (last_of kept) (λ keyframe. P keyframe.board.clock)
last-clock P kept len last is at holds =
    last-at (λ keyframe. P keyframe.board.clock) kept (λ d. subst P (at d ∙ ap (λ n. (get_or kept (n - 1) d).board.clock) is) holds)

-- the clock of the last kept board
abbrev pub clock_kept : List Keyframe → ℕ
clock_kept [] = 0
clock_kept (a ∷ []) = a.board.clock
clock_kept (a ∷ b ∷ kept) = clock_kept (b ∷ kept)

of-last : (P : ℕ → Type 0) (kept : List Keyframe) → 0 < length kept → IfSome (last_of kept) (λ keyframe. P keyframe.board.clock) → P (clock_kept kept)
of-last P [] some holds = absurd (omega (arith, some))
of-last P (a ∷ []) some holds = holds
of-last P (a ∷ b ∷ kept) some holds = of-last P (b ∷ kept) (omega arith) holds

-- a stride that isn't the last keeps a later board
pub stride-smaller : (old new : List Keyframe) (clock stride due next at : ℕ) → 0 < length old → 0 < length new → clock < 2 ^ 64 - 1
    → IfSome (last_of old) (λ last. due ≡ min (last.board.clock + stride) (2 ^ 64 - 1)) → next ≡ min clock due
    → IfSome (last_of new) (λ last. at < last.board.clock + stride) → (next ≤ at) × (at < clock) → clock - clock_kept new < clock - clock_kept old
stride-smaller old new clock stride due next at some_old some_new low is_due is_next near between =
    let is : due ≡ min (clock_kept old + stride) (2 ^ 64 - 1) = of-last (λ n. due ≡ min (n + stride) (2 ^ 64 - 1)) old some_old is_due in
    let most : at < clock_kept new + stride = of-last (λ n. at < n + stride) new some_new near in
    omega (arith, is, most, is_next, between.0, between.1, low)

-- where a seek begins
module _ (kept : List Keyframe) (clock index : ℕ) (rising : HaveRisingClocks kept) (within : index < length kept)
    (nearest : (d : Keyframe) → (get_or kept index d).board.clock ≤ clock → IsNearest kept clock index)
    (first : (d : Keyframe) → clock < (get_or kept index d).board.clock → index ≡ 0) where
  -- the clocks rise from there on
  rises : (i j : ℕ) (d : Keyframe) → i ≤ j → j < length kept → (get_or kept i d).board.clock ≤ (get_or kept j d).board.clock
  rises i j d h k = elim (cases_lt i j) [
    | inl before ↦ let e = rising i j d before k in omega (arith, e)
    | inr same ↦
        let e : i ≡ j = omega (arith, h, same) in
        let f : (get_or kept i d).board.clock ≡ (get_or kept j d).board.clock = ap (λ n. (get_or kept n d).board.clock) e in
        omega (arith, f)
  ]

  -- no kept board at or below the clock is later
  greatest : (j : ℕ) (d : Keyframe) → j < length kept → (get_or kept j d).board.clock ≤ clock → (get_or kept j d).board.clock ≤ (get_or kept index d).board.clock
  greatest j d h low = elim (cases_lt clock (get_or kept index d).board.clock) [
    | inl above ↦ omega (arith, low, above)
    | inr below ↦
        elim (cases_lt index j) [
          | inl after ↦ let e = (nearest d below).last j d after h in absurd (omega (arith, e, low))
          | inr upto ↦ rises j index d upto within
        ]
  ]

  -- what is done from there, where the clocks that rose were paid for
  pub seek-done : (e now : Board) (before there after end : ℕ) → ((d : Keyframe) → now ≡ over_image e (get_or kept index d).board) → there ≡ before
      → after + now.peripherals.clock ≤ there + end → All (λ keyframe. keyframe.board.clock ≤ clock → after + keyframe.board.clock ≤ before + end) kept
  seek-done e now before there after end loads same rose = λ k d h low. omega (arith, greatest k d h low, ap (λ (b : Board). b.peripherals.clock) (loads d), same, rose)

  pub seek-before : (entries : List TapeEntry) (e now last : Board) (before there after : ℕ) → ((d : Keyframe) → now ≡ over_image e (get_or kept index d).board) → there ≡ before
      → after + now.peripherals.clock ≤ there + last.peripherals.clock → Along kept entries (run_start kept e)
      → last ≡ cleared (to_clock entries clock (run_start kept e)) → clock < (run_start kept e).peripherals.clock → after ≤ before
  seek-before entries e now last before there after loads same rose along is early =
      let d : Keyframe = record { board = state_of e; pages = [] } in
      let stays = ap (λ (c : Board). c.peripherals.clock) (is ∙ ap cleared (clock-past entries clock (run_start kept e) (omega (arith, early))))
      ∙ sym (ap (λ (s : BoardValue). s.clock) (along.first d)) in
      omega (arith, rises 0 index d (omega arith) within, stays, ap (λ (b : Board). b.peripherals.clock) (loads d), same, rose)

  -- from there the run comes to the same board as from its beginning, at any later clock too
  pub seek-board : (to : ℕ) → clock ≤ to → (entries : List TapeEntry) (e now : Board) → Along kept entries (run_start kept e)
      → ((d : Keyframe) → now ≡ over_image e (get_or kept index d).board) → cleared (to_clock entries to now) ≡ cleared (to_clock entries to (run_start kept e))
  seek-board to low entries e now along loads =
      let d : Keyframe = record { board = state_of e; pages = [] } in
      let b = run_start kept e in
      let at = (get_or kept index d).board.clock in
      let loaded =
      ap (λ (c : Board). cleared (to_clock entries to c)) (loads d ∙ loaded-board kept entries e along index d within) ∙ clock-cleared entries to (to_clock entries at b) in
      elim (cases_lt clock at) [
        | inl above ↦
            let at_first : at ≡ b.peripherals.clock = ap (λ n. (get_or kept n d).board.clock) (first d above) ∙ ap (λ (s : BoardValue). s.clock) (along.first d) in
            loaded ∙ ap (λ (c : Board). cleared (to_clock entries to c)) (clock-past entries at b (omega (arith, at_first)))
        | inr below ↦ loaded ∙ sym (ap cleared (to_clock-split entries at to b (omega (arith, below, low))))
      ]

-- a board takes at most the pages that it has
taken-few : (before : Option Keyframe) (b : BoardValue) → pages_taken before b ≤ BOARD_PAGES
taken-few None b = omega arith
taken-few (Some before) b =
    subst (λ n. pages_taken (Some before) b ≤ n) (length-range_with_len 0 BOARD_PAGES)
    (count_by-le-length (λ k. not (bytes_eq (page_of before.board k) (page_of b k))) (range_with_len 0 BOARD_PAGES))

-- where there is room, nothing is dropped
none-dropped : (n : ℕ) (old roomy : KeyframesValue) → roomy ≡ keys_thinned n old
    → ((m : ℕ) → m < n → is_crowded (keys_thinned m old) ≡ true) → is_crowded old ≡ false → roomy ≡ old
none-dropped zero old roomy is crowded free = is
none-dropped (suc n) old roomy is crowded free = absurd (true≢false (sym (crowded 0 (omega arith)) ∙ free))

-- and the board is kept beside all others
pub adds-board : (old roomy new : KeyframesValue) (state : BoardValue) (b : Board) → MakesRoom old roomy → Keeps roomy new state → state ≡ state_of b → is_crowded old ≡ false
    → (pages : List ℕ) × (new ≡ record old { kept = old.kept ++ (record { board = state_of b; pages = pages }) ∷ [] }) × (live_of new ≤ live_of old + BOARD_PAGES)
adds-board old roomy new state b room keeps is free =
    let same : roomy ≡ old = none-dropped room.thinnings old roomy room.thinned room.crowded free in
    let live : live_of roomy ≡ live_of old = ap live_of same in
    let more = keeps.live in (
      keeps.pages,
      keeps.kept
          ∙ ap (λ (keys : KeyframesValue). let again : KeyframesValue = record keys { kept = keys.kept ++ (record { board = state; pages = keeps.pages }) ∷ [] } in again) same
          ∙ ap (λ (s : BoardValue). let again : KeyframesValue = record old { kept = old.kept ++ (record { board = s; pages = keeps.pages }) ∷ [] } in again) is,
      omega (arith, taken-few (last_of roomy.kept) state, live, more),
    )
