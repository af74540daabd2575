-- A run that is followed part by part is to its observer what the whole run is.
use Rattle.std.proofs.Common.{◌≡◌, ℕ, ◌+◌, ◌-◌, ◌≤◌, ◌<◌, ◌||◌, ◌&&◌, Bool, true, false, nat_le, min, is_some, is_none, take, List, []}
use Rattle.std.proofs.Common.{◌++◌, Option, Some, None, refl, sym, ap, ◌∙◌, subst, arith, append-nil, append_assoc, zero, suc, inl, inr, if◌then◌else◌}
use Rattle.std.proofs.lemmas.Bool.{cases_lt}
use Rattle.std.proofs.lemmas.Bool.Decides.{nat_tests}
use Rattle.board_base.specs.declared.divider.TheConstants.{DIVIDER_PERIOD}
use Rattle.board_base.specs.Mid.{MidValue}
use Rattle.tape_ports.specs.declared.entry.TapeEntry.{TapeEntry}
use Rattle.outside_io.specs.Known.{grown}
use Rattle.outside_io.proofs.KnownLaws.{grown-nothing, grown-twice}
use Rattle.outside_io.proofs.TakesLaws.{took_first, took_then}
use Rattle.lockstep_board.specs.declared.stop.Stop.TheVariants.{Jammed, Limit, Window}
use Rattle.lockstep_board.specs.Breaks.{turn, turned}
use Rattle.lockstep_board.specs.Order.{HasNoRecords, cleared, Recorded, records_of}
use Rattle.lockstep_board.specs.Lockstep.{Board}
use Rattle.lockstep_board.specs.Run.{cause_at, cause_of, is_over, to_boundary, window_limit, wrap_of, IsPlaced}
use Rattle.catchup_engine.specs.Trace.{TraceValue}
use Rattle.catchup_engine.specs.Traced.{TracedRun}
use Rattle.lockstep_board.proofs.Behind.{to_boundary-behind, behind-cleared}
use Rattle.lockstep_board.proofs.Ends.{boundary-split, to_boundary-clock, to_boundary-over}
use Rattle.catchup_engine.proofs.RunsOn.{open-before}
use Rattle.lockstep_board.proofs.TurnLaws.{turn-later, turn-placed, to_boundary-none, to_boundary-turn}
use Rattle.run_windows.specs.TurnObserver.{FollowsInParts, IsFollowedInParts, StandsStill}

module _ (entries : List TapeEntry) where
  -- a run that isn't over is the run from its next turn on
  run-turn : (limit : ℕ) (b : Board) → IsPlaced b → is_over limit b ≡ false → to_boundary entries limit b ≡ to_boundary entries limit (turn entries b)
  run-turn limit b placed open_yet = elim (cases_lt b.peripherals.clock limit) [
    | inl before ↦ boundary-split entries (b.peripherals.clock + 1) limit b (omega (arith, before)) placed
    | inr past ↦ (let here = to_boundary-turn entries limit b placed open_yet (omega (arith, past)) in
        here ∙ sym (to_boundary-none entries limit (turn entries b) (subst (λ (c : Board). is_over limit c ≡ true) here (to_boundary-over entries limit b placed))))
  ]

  pub run-turned : (limit n : ℕ) (b : Board) → IsPlaced b → ((k : ℕ) → k < n → is_over limit (turned entries k b) ≡ false)
      → to_boundary entries limit b ≡ to_boundary entries limit (turned entries n b)
  unfolding turned
  run-turned limit zero b placed open_yet = refl
  run-turned limit (suc n) b placed open_yet =
      run-turn limit b placed (open_yet 0 (omega arith))
      ∙ run-turned limit n (turn entries b) (turn-placed entries b placed) (λ k h. open_yet (suc k) (omega (arith, h)))

  -- the end of a run from a board without its records is that from the board
  run-cleared : (limit : ℕ) (b : Board) → cleared (to_boundary entries limit b) ≡ cleared (to_boundary entries limit (cleared b))
  run-cleared limit b =
      ap cleared (ap (to_boundary entries limit) (sym (behind-cleared b)) ∙ to_boundary-behind entries limit (records_of b) (cleared b))

  turned-none : (b : Board) → turned entries 0 b ≡ b
  unfolding turned
  turned-none b = refl

  turned-clocks : (n : ℕ) (b : Board) → b.peripherals.clock ≤ (turned entries n b).peripherals.clock
  unfolding turned
  turned-clocks zero b = omega arith
  turned-clocks (suc n) b =
      let one = to_boundary-clock entries (b.peripherals.clock + 1) b in
      let rest = turned-clocks n (turn entries b) in
      omega arith

  -- some turns of a board that isn't jammed move its clock on
  turned-later : (n : ℕ) (b : Board) → 1 ≤ n → b.cpu.jam ≡ None → b.peripherals.clock < (turned entries n b).peripherals.clock
  unfolding turned
  turned-later zero b some running = absurd (omega arith)
  turned-later (suc n) b some running =
      let one = turn-later entries b running in
      let rest = turned-clocks n (turn entries b) in
      omega arith

-- a board at which no run is over isn't jammed
not-jammed : (limit : ℕ) (b : Board) → is_over limit b ≡ false → b.cpu.jam ≡ None
not-jammed limit b off = of b.cpu.jam (is_none b.cpu.mid) off
  where
    of : (jam : Option ℕ) (boundary : Bool) → is_some jam || (boundary && nat_le limit b.peripherals.clock) ≡ false → jam ≡ None
    of None boundary off = refl
    of (Some o) boundary off = cc

-- a run that is over before the divider's wrap is over by its limit
window-ends : (jam : Option ℕ) (boundary : Bool) (limit clock wrap : ℕ) → clock < wrap → is_some jam || (boundary && nat_le (min limit wrap) clock) ≡ true
    → is_some jam || (boundary && nat_le limit clock) ≡ true
window-ends (Some o) boundary limit clock wrap ahead over = refl
window-ends None false limit clock wrap ahead over = cc
window-ends None true limit clock wrap ahead over = grind (arith, nat_tests)

window-over : (limit : ℕ) (b : Board) → b.peripherals.divider.phase < DIVIDER_PERIOD → is_over (window_limit limit b) b ≡ true → is_over limit b ≡ true
window-over limit b phase over = window-ends b.cpu.jam (is_none b.cpu.mid) limit b.peripherals.clock (wrap_of b) (omega arith) over

-- a run that isn't over to its window's end isn't over
over-window : (jam : Option ℕ) (boundary : Bool) (part limit clock : ℕ) → part ≤ limit → is_some jam || (boundary && nat_le part clock) ≡ false
    → is_some jam || (boundary && nat_le limit clock) ≡ false
over-window jam boundary part limit clock most off = grind (arith, nat_tests)

pub over-part : (part limit : ℕ) (b : Board) → part ≤ limit → is_over part b ≡ false → is_over limit b ≡ false
over-part part limit b most off = over-window b.cpu.jam (is_none b.cpu.mid) part limit b.peripherals.clock most off

-- a run that ended with its window isn't over
pub window-open : (limit : ℕ) (b : Board) → cause_of limit b ≡ Window → is_over limit b ≡ false
window-open limit b is = of b.cpu.jam refl
  where
    of : (jam : Option ℕ) → b.cpu.jam ≡ jam → is_over limit b ≡ false
    of (Some o) jammed = (let other : Jammed b.cpu.pc o ≡ Window = sym (ap (λ j. cause_at j limit b) jammed) ∙ is in cc)
    of None running = by_test (nat_le limit b.peripherals.clock) refl
      where
        by_test : (late : Bool) → nat_le limit b.peripherals.clock ≡ late → is_over limit b ≡ false
        by_test false early = rw (running, early) (and-false (is_none b.cpu.mid))
          where
            and-false : (boundary : Bool) → (boundary && false) ≡ false
            and-false true = refl
            and-false false = refl
        by_test true late = (let other : Limit ≡ Window = sym (ap (λ (t : Bool). if t then Limit else Window) late) ∙ sym (ap (λ j. cause_at j limit b) running) ∙ is in cc)

-- the clocks to a limit, and one for a sequence that is under way
abbrev pub clocks_left : ℕ → Board → ℕ
clocks_left limit b = (limit - b.peripherals.clock) + (if is_some b.cpu.mid then 1 else 0)

module _ {F : Type 0} (next : F → TraceValue → ℕ → F) (enough : F → Bool) where
  -- a part of a run: its end, and the observer after its turns
  abbrev pub IsPart : List TapeEntry → ℕ → Board → Board → F → F → Type 0
  IsPart entries limit b c w v = TracedRun next enough entries (window_limit limit b) b c w v

  -- the end of the run is that from the part's end
  part-board : (entries : List TapeEntry) (limit : ℕ) (b c : Board) (w v : F) → IsPlaced b → IsPart entries limit b c w v
      → cleared (to_boundary entries limit b) ≡ cleared (to_boundary entries limit (cleared c))
  part-board entries limit b c w v placed part =
      ap cleared (run-turned entries limit part.count b placed (λ k h. over-part (window_limit limit b) limit (turned entries k b) (omega arith) (part.over k h))
      ∙ ap (to_boundary entries limit) (sym part.board))
      ∙ run-cleared entries limit c

  -- a part that isn't the last moves the clock on, or ends what was under way
  pub part-smaller : (entries : List TapeEntry) (limit : ℕ) (now c after : Board) (v u : F) → now.peripherals.divider.phase < DIVIDER_PERIOD → IsPart entries limit now c v u
      → after ≡ cleared c → after.cpu.mid ≡ None → is_over limit after ≡ false → clocks_left limit after < clocks_left limit now
  part-smaller entries limit now c after v u phase part is boundary open_yet = elim (cases_lt part.count 1) [
    | inl less ↦ absurd (no-turn (omega (arith, less)))
    | inr not_less ↦ (let some : 1 ≤ part.count = omega (arith, not_less) in
        let off = over-part (window_limit limit now) limit now (omega arith) (subst (λ (b : Board). is_over (window_limit limit now) b
        ≡ false) (turned-none entries now) (part.over 0 (omega (arith, some)))) in
        let later : now.peripherals.clock < c.peripherals.clock = subst (λ (b : Board). now.peripherals.clock < b.peripherals.clock) (sym part.board)
        (turned-later entries part.count now some (not-jammed limit now off)) in
        let clock : after.peripherals.clock ≡ c.peripherals.clock = ap (λ (b : Board). b.peripherals.clock) is in
        smaller now.cpu.mid refl off later clock)
  ]
    where
      no-turn : part.count ≡ 0 → ⊥
      no-turn none =
          let same : c ≡ now = part.board ∙ ap (λ n. turned entries n now) none ∙ turned-none entries now in
          elim part.ends [
            | inl over ↦ (let all = window-over limit now phase (subst (λ (b : Board). is_over (window_limit limit now) b ≡ true) same over) in
                let off : is_over limit now ≡ false = subst (λ (b : Board). is_over limit b ≡ false) (is ∙ ap cleared same) open_yet in
                true-false all off)
            | inr full ↦ (let some = full.0 in absurd (omega (arith, some, none)))
          ]
        where
          true-false : is_over limit now ≡ true → is_over limit now ≡ false → ⊥
          true-false over off = let both : true ≡ false = sym over ∙ off in cc

      smaller : (mid : Option MidValue) → now.cpu.mid ≡ mid → is_over limit now ≡ false → now.peripherals.clock < c.peripherals.clock → after.peripherals.clock ≡ c.peripherals.clock
          → clocks_left limit after < clocks_left limit now
      smaller None none off later clock =
          let before = (open-before limit now none off).clock in
          rw (boundary, none) (omega arith)
      smaller (Some m) inside off later clock = rw (boundary, inside) (omega arith)

module _ {F : Type 0} (can_follow : F → List TapeEntry → ℕ → Board → Type 0) (writes : F → List TapeEntry → ℕ → Board → List ℕ)
    (after_run : F → List TapeEntry → ℕ → Board → F) where
  -- the run has come from b and w to a board and an observer that has written these bytes, and from
  -- there it is the same run
  pub record Followed (entries : List TapeEntry) (limit : ℕ) (b now : Board) (w v : F) (taken0 taken : Option (List ℕ)) (faults0 faults : ℕ) : Type 0 where
    pub sent : List ℕ
    pub took : taken ≡ grown taken0 sent
    pub sound : faults ≡ faults0
    pub text : writes w entries limit b ≡ sent ++ writes v entries limit now
    pub state : after_run w entries limit b ≡ after_run v entries limit now
    pub room : can_follow v entries limit now
    pub board : cleared (to_boundary entries limit b) ≡ cleared (to_boundary entries limit now)

  pub followed-start : (entries : List TapeEntry) (limit : ℕ) (b : Board) (w : F) (taken : Option (List ℕ)) (faults : ℕ) → can_follow w entries limit b
      → Followed entries limit b b w w taken taken faults faults
  followed-start entries limit b w taken faults room = record {
    sent = [];
    took = sym (grown-nothing taken);
    sound = refl;
    text = refl;
    state = refl;
    room = room;
    board = refl;
  }

  -- a run that is over has written all
  pub followed-over : StandsStill writes after_run → (entries : List TapeEntry) (limit : ℕ) (b now : Board) (w v : F) (taken0 taken : Option (List ℕ)) (faults0 faults : ℕ)
      → Followed entries limit b now w v taken0 taken faults0 faults → is_over limit now ≡ true
      → (taken ≡ grown taken0 (writes w entries limit b)) × (v ≡ after_run w entries limit b) × (cleared now ≡ cleared (to_boundary entries limit b))
  followed-over still entries limit b now w v taken0 taken faults0 faults h over =
      let s = still v entries limit now over in (
        h.took ∙ ap (grown taken0) (sym (h.text ∙ ap (λ l. h.sent ++ l) s.text ∙ append-nil h.sent)),
        sym (h.state ∙ s.state),
        sym (h.board ∙ ap cleared (to_boundary-none entries limit now over)),
      )

module _ {F : Type 0} (next : F → TraceValue → ℕ → F) (enough : F → Bool) (can_follow : F → List TapeEntry → ℕ → Board → Type 0)
    (writes : F → List TapeEntry → ℕ → Board → List ℕ) (after_run : F → List TapeEntry → ℕ → Board → F)
    (can_take : F → Recorded → Type 0) (part_writes : F → Recorded → List ℕ) (after_part : F → Recorded → F)
    (law : FollowsInParts next enough can_follow writes after_run can_take part_writes after_part) where
  -- what the law says of a part
  part-is : (entries : List TapeEntry) (limit : ℕ) (b c : Board) (w v : F) → IsPlaced b → HasNoRecords b → can_follow w entries limit b
      → IsPart next enough entries limit b c w v → IsFollowedInParts next enough can_follow writes after_run can_take part_writes after_part w v entries limit b c
  part-is entries limit b c w v placed none room part = law w v entries limit (window_limit limit b) b c (omega arith) placed none room part

  pub part-room : (entries : List TapeEntry) (limit : ℕ) (b c : Board) (w v : F) → IsPlaced b → HasNoRecords b → can_follow w entries limit b
      → IsPart next enough entries limit b c w v → can_take v (records_of c)
  part-room entries limit b c w v placed none room part = (part-is entries limit b c w v placed none room part).room

  -- a part more
  pub followed-part : (entries : List TapeEntry) (limit : ℕ) (b now c after : Board) (w v u f : F) (taken0 taken taken1 : Option (List ℕ)) (faults0 faults faults1 : ℕ)
      → Followed can_follow writes after_run entries limit b now w v taken0 taken faults0 faults → IsPlaced now → HasNoRecords now → IsPart next enough entries limit now c v u
      → after ≡ cleared c → f ≡ after_part u (records_of c) → taken1 ≡ grown taken (part_writes u (records_of c)) → faults1 ≡ faults
      → Followed can_follow writes after_run entries limit b after w f taken0 taken1 faults0 faults1
  followed-part entries limit b now c after w v u f taken0 taken taken1 faults0 faults faults1 h placed none part is state took sound =
      let p = part-is entries limit now c v u placed none h.room part in
      let piece = part_writes u (records_of c) in
      rw (is, state) (record {
        sent = h.sent ++ piece;
        took = took ∙ ap (λ t. grown t piece) h.took ∙ grown-twice taken0 h.sent piece;
        sound = sound ∙ h.sound;
        text =
            h.text
            ∙ ap (λ l. h.sent ++ l) p.text
            ∙ sym (append_assoc h.sent piece (writes (after_part u (records_of c)) entries limit (cleared c)));
        state = h.state ∙ p.state;
        room = p.rest;
        board = h.board ∙ part-board next enough entries limit now c v u placed part;
      })

  -- a part of which a first part was written
  pub cut-part : (entries : List TapeEntry) (limit : ℕ) (b now c : Board) (w v u : F) (taken0 taken taken1 : Option (List ℕ)) (faults0 faults : ℕ)
      → Followed can_follow writes after_run entries limit b now w v taken0 taken faults0 faults → IsPlaced now → HasNoRecords now → IsPart next enough entries limit now c v u
      → (k : ℕ) × (taken1 ≡ grown taken (take k (part_writes u (records_of c))))
      → (k : ℕ) × (taken1 ≡ grown taken0 (take k (writes w entries limit b)))
  cut-part entries limit b now c w v u taken0 taken taken1 faults0 faults h placed none part cut =
      let p = part-is entries limit now c v u placed none h.room part in
      let rest = writes (after_part u (records_of c)) entries limit (cleared c) in
      let piece = part_writes u (records_of c) in
      let whole = took_then taken0 taken taken1 h.sent (piece ++ rest) h.took (took_first taken taken1 piece rest cut) in
      (whole.0, whole.1 ∙ ap (λ l. grown taken0 (take whole.0 l)) (sym (h.text ∙ ap (λ l. h.sent ++ l) p.text)))
