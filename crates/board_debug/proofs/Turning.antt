-- Turns of a session: several at once come to where one after another do.
use Rattle.std.proofs.Common.{◌≡◌, ℕ, ◌+◌, ◌-◌, ◌==◌, ◌<◌, ◌≤◌, Bool, true, false, cond, ◌&&◌, ◌||◌, find, map, nat_le}
use Rattle.std.proofs.Common.{is_none, is_some, unwrap_or, List, [], ◌∷◌, Option, Some, None, suc, zero, refl, sym, ap, ◌∙◌, arith}
use Rattle.std.specs.List.{list_any}
use Rattle.std.specs.Option.{option_map}
use Rattle.std.proofs.lemmas.Bool.{leb-false, lt-leb, or_parts}
use Rattle.tape_ports.specs.declared.entry.TapeEntry.{TapeEntry}
use Rattle.tape_ports.specs.Tape.{TapeValue}
use Rattle.lockstep_board.specs.Breaks.{BreakRun, TurnsTo, is_at_any, turn, turned}
use Rattle.lockstep_board.specs.Order.{HasNoRecords, cleared, records_of}
use Rattle.lockstep_board.specs.Lockstep.{Board}
use Rattle.lockstep_board.specs.Run.{IsPlaced, is_over, to_boundary}
use Rattle.lockstep_board.proofs.Behind.{behind-cleared}
use Rattle.lockstep_board.proofs.Ended.{cleared-empty}
use Rattle.catchup_engine.specs.StopConditions.{ConditionsValue, has_changed, is_other, stops_at}
use Rattle.catchup_engine.proofs.RunsOn.{open-before}
use Rattle.catchup_engine.proofs.StopLaws.{changed-same}
use Rattle.lockstep_board.proofs.TurnLaws.{turn-behind, turn-boundary, turn-later, turned-next, turned-placed, turns-to}
use Rattle.debug_script.specs.Breakpoints.{StopsValue}
use Rattle.board_debug.specs.declared.stop_reason.StopReason.{StopReason}
use Rattle.board_debug.specs.declared.stop_reason.StopReason.TheVariants.{Jam, End, Step, Until}
use Rattle.board_debug.specs.Looks.{conditions_of, first_of, jam_look, look_after, look_before, look_until, vg_look, watch_look, watched}
use Rattle.board_debug.proofs.WatchLaws.{IsSame, halts-none, halts-same, same-self, watches-none, watches-same}
use Rattle.board_debug.specs.Session.{Reached, go_from, turn_done, step_from, turning, unless_found, until_from}

-- a look that finds nothing stands before its limit, and isn't jammed
pub record Opens (limit : ℕ) (b : Board) : Type 0 where
  pub running : b.cpu.jam ≡ None
  pub clock : b.peripherals.clock < limit

before-parts : (jam : Option ℕ) (ended : Bool) → first_of (option_map Jam jam ∷ cond ended (Some End) None ∷ []) ≡ None → (jam ≡ None) × (ended ≡ false)
before-parts (Some opcode) ended none = cc
before-parts None true none = cc
before-parts None false none = (refl, refl)

pub before-opens : (end : ℕ) (b : Board) → look_before end b ≡ None → Opens end b
before-opens end b none =
    let parts = before-parts b.cpu.jam (nat_le end b.peripherals.clock) none in
    record { running = parts.0; clock = leb-false end b.peripherals.clock parts.1 }

until-parts : (jam : Option ℕ) (ended come : Bool) → first_of (option_map Jam jam ∷ cond ended (Some End) None ∷ cond come (Some Until) None ∷ []) ≡ None
    → (jam ≡ None) × (ended ≡ false) × (come ≡ false)
until-parts (Some opcode) ended come none = cc
until-parts None true come none = cc
until-parts None false true none = cc
until-parts None false false none = (refl, refl, refl)

until-opens : (end clock : ℕ) (b : Board) → look_until end clock b ≡ None → Opens clock b
until-opens end clock b none =
    let parts = until-parts b.cpu.jam (nat_le end b.peripherals.clock) (nat_le clock b.peripherals.clock) none in
    record { running = parts.0; clock = leb-false clock b.peripherals.clock parts.2 }

-- looks at a board before their limits that isn't jammed find nothing
before-none : (end : ℕ) (b : Board) → b.cpu.jam ≡ None → b.peripherals.clock < end → look_before end b ≡ None
before-none end b running early = rw (running, lt-leb end b.peripherals.clock early) refl

until-none : (end clock : ℕ) (b : Board) → b.cpu.jam ≡ None → b.peripherals.clock < end → b.peripherals.clock < clock → look_until end clock b ≡ None
until-none end clock b running early before = rw (running, lt-leb end b.peripherals.clock early, lt-leb clock b.peripherals.clock before) refl

find-none : (test : ℕ → Bool) (xs : List ℕ) → list_any test xs ≡ false → find test xs ≡ None
find-none test [] none = refl
find-none test (x ∷ xs) none = by_test (test x) refl none (find-none test xs)
  where
    by_test : (found : Bool) → test x ≡ found → found || list_any test xs ≡ false → (list_any test xs ≡ false → find test xs ≡ None)
        → cond (test x) (Some x) (find test xs) ≡ None
    by_test true is none rest = cc
    by_test false is none rest = rw is (rest none)

-- looks after a turn that each find nothing
none-after : (end : ℕ) (stops : StopsValue) (before b : Board) → b.cpu.jam ≡ None → b.peripherals.clock < end → is_at_any stops.breaks b ≡ false
    → watch_look stops.watches before b ≡ None → vg_look stops.vg before b ≡ None → look_after end stops before b ≡ None
none-after end stops before b running early apart watches halts =
    rw (running, lt-leb end b.peripherals.clock early, find-none (λ address. address == b.cpu.pc) stops.breaks apart, watches, halts) refl

and-false : (x : Bool) → x && false ≡ false
and-false true = refl
and-false false = refl

before-open : (end : ℕ) (b : Board) → b.cpu.jam ≡ None → b.peripherals.clock < end → is_over end b ≡ false
before-open end b running early = rw (running, lt-leb end b.peripherals.clock early) (and-false (is_none b.cpu.mid))

module _ (entries : List TapeEntry) where
  turn-cleared : (b : Board) → cleared (turn entries (cleared b)) ≡ cleared (turn entries b)
  turn-cleared b =
      sym (ap cleared (turn-behind entries (records_of b) (cleared b))) ∙ ap (λ (c : Board). cleared (turn entries c)) (behind-cleared b)

  -- the board after so many turns, each of whose records are forgotten
  unfoldable pub moves : ℕ → Board → Board
  moves zero b = b
  moves (suc n) b = moves n (turn_done entries b)

  cleared-turned : (n : ℕ) (b : Board) → cleared (turned entries n b) ≡ moves n (cleared b)
  unfolding turned moves turn_done
  cleared-turned zero b = refl
  cleared-turned (suc n) b = cleared-turned n (turn entries b) ∙ ap (moves n) (sym (turn-cleared b))

  pub moves-are : (n : ℕ) (b c : Board) → HasNoRecords b → c ≡ cleared (turned entries n b) → c ≡ moves n b
  moves-are n b c none is = is ∙ cleared-turned n b ∙ ap (moves n) (cleared-empty b none)

  pub moved-later : (b : Board) → b.cpu.jam ≡ None → b.peripherals.clock < (turn_done entries b).peripherals.clock
  unfolding turn_done
  moved-later b running = turn-later entries b running

  moves-next : (n : ℕ) (b : Board) → moves (suc n) b ≡ turn_done entries (moves n b)
  unfolding moves
  moves-next zero b = refl
  moves-next (suc n) b = moves-next n (turn_done entries b)

  module _ (before : Board → Option StopReason) (after : Board → Board → Option StopReason) where
    -- a turn between its looks, and what comes of it
    abbrev then_on : Board → Reached → Reached
    then_on b more = unless_found (before b) b (unless_found (after b (turn_done entries b)) (turn_done entries b) more)

    turning-next : (most : ℕ) (b : Board) → turning entries before after (suc most) b ≡ then_on b (turning entries before after most (turn_done entries b))
    unfolding turning
    turning-next most b = refl

    then_on-same : (b : Board) (r s : Reached) → (before b ≡ None → r ≡ s) → then_on b r ≡ then_on b s
    then_on-same b r s same = by_look (before b) refl
      where
        by_look : (look : Option StopReason) → before b ≡ look → then_on b r ≡ then_on b s
        by_look (Some found) is = rw is refl
        by_look None is = ap (then_on b) (same is)

    then_on-none : (b : Board) (r : Reached) → before b ≡ None → after b (turn_done entries b) ≡ None → then_on b r ≡ r
    then_on-none b r first last = rw (first, last) refl

    -- turns that no look finds anything at
    pub passes : (n f most : ℕ) (b : Board) → most ≡ n + f
        → ((k : ℕ) → k < n → (before (moves k b) ≡ None) × (after (moves k b) (moves (suc k) b) ≡ None))
        → turning entries before after most b ≡ turning entries before after f (moves n b)
    unfolding moves
    passes zero f most b is quiet = let same : most ≡ f = omega arith in rw same refl
    passes (suc n) f most b is quiet =
        let first = quiet 0 (omega arith) in
        let same : most ≡ suc (n + f) = omega arith in
        ap (λ m. turning entries before after m b) same
        ∙ turning-next (n + f) b
        ∙ then_on-none b (turning entries before after (n + f) (turn_done entries b)) first.0 first.1
        ∙ passes n f (n + f) (turn_done entries b) refl (λ k inside. quiet (suc k) (omega arith))

    module _ (limit : ℕ) (opens : (b : Board) → before b ≡ None → Opens limit b) where
      -- more turns than there are clocks up to the limit make no difference
      pub enough : (f g : ℕ) (b : Board) → limit < b.peripherals.clock + suc f → limit < b.peripherals.clock + suc g
          → turning entries before after (suc f) b ≡ turning entries before after (suc g) b
      enough zero zero b more_f more_g = refl
      enough zero (suc g) b more_f more_g =
          turning-next zero b
          ∙ then_on-same b _ _ (λ none. let early = (opens b none).clock in absurd (omega arith))
          ∙ sym (turning-next (suc g) b)
      enough (suc f) zero b more_f more_g =
          turning-next (suc f) b
          ∙ then_on-same b _ _ (λ none. let early = (opens b none).clock in absurd (omega arith))
          ∙ sym (turning-next zero b)
      enough (suc f) (suc g) b more_f more_g =
          turning-next (suc f) b
          ∙ then_on-same b _ _ (λ none.
          let later = moved-later b (opens b none).running in
          enough f g (turn_done entries b) (omega arith) (omega arith))
          ∙ sym (turning-next (suc g) b)

      -- and so many turns that no look finds anything at come to the same
      pub passes-on : (n : ℕ) (b : Board)
          → ((k : ℕ) → k < n → (before (moves k b) ≡ None) × (after (moves k b) (moves (suc k) b) ≡ None))
          → turning entries before after (suc (limit - b.peripherals.clock)) b
          ≡ turning entries before after (suc (limit - (moves n b).peripherals.clock)) (moves n b)
      passes-on n b quiet =
          enough (limit - b.peripherals.clock) (n + limit) b (omega arith) (omega arith)
          ∙ passes n (suc limit) (suc (n + limit)) b (omega arith) quiet
          ∙ enough limit (limit - (moves n b).peripherals.clock) (moves n b) (omega arith) (omega arith)

      -- one turn, and then the looks after it
      pub turns-on : (b : Board) → before b ≡ None
          → turning entries before after (suc (limit - b.peripherals.clock)) b
          ≡ unless_found (after b (turn_done entries b)) (turn_done entries b)
          (turning entries before after (suc (limit - (turn_done entries b).peripherals.clock)) (turn_done entries b))
      turns-on b none =
          let next = turn_done entries b in
          enough (limit - b.peripherals.clock) (suc limit) b (omega arith) (omega arith)
          ∙ turning-next (suc limit) b
          ∙ ap (λ look. unless_found look b (unless_found (after b next) next (turning entries before after (suc limit) next))) none
          ∙ ap (unless_found (after b next) next) (enough limit (limit - next.peripherals.clock) next (omega arith) (omega arith))

-- where turns don't stop
away-same : (stops : StopsValue) (b d : Board) → stops_at (conditions_of stops b) d ≡ false → IsSame stops b (cleared d)
away-same stops b d away =
    let changed = list_any (has_changed d.peripherals) (map (watched b) stops.watches) in
    let other = is_other (conditions_of stops b).halted d.peripherals.vg.halted in
    let first = or_parts (is_at_any stops.breaks d) (changed || other) away in
    let more = or_parts changed other first.1 in
    record { bytes = changed-same (map (watched b) stops.watches) (cleared d).peripherals d.peripherals refl refl refl ∙ more.0; halted = more.1 }

away-breaks : (stops : StopsValue) (b d : Board) → stops_at (conditions_of stops b) d ≡ false → is_at_any stops.breaks (cleared d) ≡ false
away-breaks stops b d away =
    (or_parts (is_at_any stops.breaks d)
    (list_any (has_changed d.peripherals) (map (watched b) stops.watches) || is_other (conditions_of stops b).halted d.peripherals.vg.halted) away).0

look-same : (end : ℕ) (stops : StopsValue) (b d c : Board) → IsSame stops b d → look_after end stops d c ≡ look_after end stops b c
look-same end stops b d c same = rw (watches-same stops b d same c, halts-same stops b d same c) refl

-- a board from which a session goes on
pub record Stands (b : Board) : Type 0 where
  pub placed : IsPlaced b
  pub empty : HasNoRecords b

module _ (entries : List TapeEntry) (b : Board) (stands : Stands b) where
  -- turns up to a limit, before each of which a run to it isn't over
  early : (limit n : ℕ) → ((k : ℕ) → k < n → is_over limit (turned entries k b) ≡ false) → (k : ℕ) → suc k < n
      → Opens limit (turned entries (suc k) b)
  early limit n open_yet k inside =
      let here = turned entries k b in
      let there = turned entries (suc k) b in
      let is = turned-next entries k b in
      let placed = turned-placed entries k b stands.placed in
      let first = by_jam here.cpu.jam refl (open_yet k (omega arith)) in
      let boundary : there.cpu.mid ≡ None = rw is (turn-boundary entries here placed first) in
      let stands_there = open-before limit there boundary (open_yet (suc k) inside) in
      record { running = stands_there.running; clock = stands_there.clock }
    where
      by_jam : (jam : Option ℕ) → (turned entries k b).cpu.jam ≡ jam → is_over limit (turned entries k b) ≡ false → (turned entries k b).cpu.jam ≡ None
      by_jam None is open_ = is
      by_jam (Some opcode) is open_ = let h = rw is at open_ in cc

  -- a window of `until`
  pub until-window : (tape : TapeValue) (end clock limit : ℕ) (c : Board) → tape.entries ≡ entries → end ≡ tape.end → limit ≤ clock → limit ≤ end
      → None ≡ look_until end clock b → c ≡ cleared (to_boundary entries limit b) → until_from tape clock b ≡ until_from tape clock c
  unfolding moves
  until-window tape end clock limit c these last below before found is =
      let runs = turns-to entries limit b stands.placed in
      let n = runs.count in
      let there : c ≡ moves entries n b = moves-are entries n b c stands.empty (is ∙ ap cleared runs.board) in
      let same = passes-on entries (look_until tape.end clock) (λ _ _. None) clock (until-opens tape.end clock) n b (λ k inside. (quiet runs k inside, refl)) in
      rw these (same ∙ ap (λ (d : Board). turning entries (look_until tape.end clock) (λ _ _. None) (suc (clock - d.peripherals.clock)) d) (sym there))
    where
      none : look_until tape.end clock b ≡ None
      none = rw (← last) (sym found)

      quiet : (runs : TurnsTo entries limit b) (k : ℕ) → k < runs.count → look_until tape.end clock (moves entries k b) ≡ None
      quiet runs zero inside = none
      quiet runs (suc k) inside =
          let opens = early limit runs.count runs.over k inside in
          let before_limit = opens.clock in
          let at : cleared (turned entries (suc k) b) ≡ moves entries (suc k) b = moves-are entries (suc k) b _ stands.empty refl in
          rw (← at) (until-none tape.end clock (cleared (turned entries (suc k) b)) opens.running (omega arith) (omega arith))

  -- turns up to a stop
  module _ (end : ℕ) (stops : StopsValue) (c0 : Board) (none : look_before end b ≡ None) (run : BreakRun entries end (stops_at (conditions_of stops b)) b c0) where
    open_yet : (k : ℕ) → k < run.count → is_over end (turned entries k b) ≡ false
    unfolding turned
    open_yet zero inside = let opens = before-opens end b none in before-open end b opens.running opens.clock
    open_yet (suc k) inside = run.over (suc k) (omega arith) inside

    -- before each turn the looks find nothing
    still : (k : ℕ) → k < run.count → look_before end (moves entries k b) ≡ None
    unfolding moves
    still zero inside = none
    still (suc k) inside =
        let opens = early end run.count open_yet k inside in
        let at : cleared (turned entries (suc k) b) ≡ moves entries (suc k) b = moves-are entries (suc k) b _ stands.empty refl in
        rw (← at) (before-none end (cleared (turned entries (suc k) b)) opens.running opens.clock)

    -- and what is watched has stayed
    same : (k : ℕ) → k < run.count → IsSame stops b (moves entries k b)
    unfolding moves
    same zero inside = same-self stops b
    same (suc k) inside =
        let at : cleared (turned entries (suc k) b) ≡ moves entries (suc k) b = moves-are entries (suc k) b _ stands.empty refl in
        rw (← at) (away-same stops b (turned entries (suc k) b) (run.at (suc k) (omega arith) inside))

    -- nor after each but the last
    passed : (k : ℕ) → suc k < run.count → look_after end stops (moves entries k b) (moves entries (suc k) b) ≡ None
    passed k inside =
        let opens = early end run.count open_yet k inside in
        let at : cleared (turned entries (suc k) b) ≡ moves entries (suc k) b = moves-are entries (suc k) b _ stands.empty refl in
        let there = moves entries (suc k) b in
        let here = same k (omega arith) in
        let then = same (suc k) inside in
        none-after end stops (moves entries k b) there (rw (← at) opens.running) (rw (← at) opens.clock)
        (rw (← at) (away-breaks stops b (turned entries (suc k) b) (run.at (suc k) (omega arith) inside)))
        (watches-same stops b (moves entries k b) here there ∙ watches-none stops b there then)
        (halts-same stops b (moves entries k b) here there ∙ halts-none stops b there then)

    go-stops : (tape : TapeValue) (c : Board) → tape.entries ≡ entries → tape.end ≡ end → c ≡ cleared c0
        → go_from tape stops b ≡ unless_found (look_after end stops b c) c (go_from tape stops c)
    go-stops tape c these last is = by_count run.count refl
      where
        after : Board → Board → Option StopReason
        after before d = look_after end stops before d

        by_count : (count : ℕ) → run.count ≡ count → go_from tape stops b ≡ unless_found (look_after end stops b c) c (go_from tape stops c)
        by_count zero e = let some = run.some in absurd (omega arith)
        by_count (suc m) e =
            let d = moves entries m b in
            let whole : c0 ≡ turned entries (suc m) b = run.board ∙ ap (λ n. turned entries n b) e in
            let there : turn_done entries d ≡ c = sym (moves-are entries (suc m) b c stands.empty (is ∙ ap cleared whole) ∙ moves-next entries m b) in
            let up = passes-on entries (look_before end) after end (before-opens end) m b (λ k inside. (still k (omega arith), passed k (omega arith))) in
            let on = turns-on entries (look_before end) after end (before-opens end) d (still m (omega arith)) in
            rw (these, last)
            (up ∙ on
            ∙ ap (λ (x : Board). unless_found (after d x) x (turning entries (look_before end) after (suc (end - x.peripherals.clock)) x)) there
            ∙ ap (λ look. unless_found look c (turning entries (look_before end) after (suc (end - c.peripherals.clock)) c)) (look-same end stops b d c (same m (omega arith))))

-- turns of `go` that are made at once, up to where one of them is looked at
pub go-turns : (tape : TapeValue) (stops : StopsValue) (conditions : ConditionsValue) (end : ℕ) (b c : Board) → Stands b → end ≡ tape.end → None ≡ look_before end b
    → conditions ≡ conditions_of stops b → ((d : Board) × BreakRun tape.entries end (stops_at conditions) b d × (c ≡ cleared d))
    → go_from tape stops b ≡ unless_found (look_after end stops b c) c (go_from tape stops c)
go-turns tape stops conditions end b c stands last none are went =
    go-stops tape.entries b stands end stops went.0 (sym none) (rw are at went.1) tape c refl (sym last) went.2

turning-found : (entries : List TapeEntry) (before : Board → Option StopReason) (after : Board → Board → Option StopReason) (most : ℕ) (b : Board) (found : StopReason)
    → before b ≡ Some found → turning entries before after (suc most) b ≡ record { found = found; board = b }
unfolding turning
turning-found entries before after most b found is = rw is refl

pub until-found : (tape : TapeValue) (end clock : ℕ) (b : Board) (found : StopReason) → end ≡ tape.end → Some found ≡ look_until end clock b
    → record { found = found; board = b } ≡ until_from tape clock b
until-found tape end clock b found last is =
    let at : look_until tape.end clock b ≡ Some found = rw (← last) (sym is) in
    sym (turning-found tape.entries _ _ _ b found at)

pub go-found : (tape : TapeValue) (stops : StopsValue) (end : ℕ) (b : Board) (found : StopReason) → end ≡ tape.end → Some found ≡ look_before end b
    → record { found = found; board = b } ≡ go_from tape stops b
go-found tape stops end b found last is =
    let at : look_before tape.end b ≡ Some found = rw (← last) (sym is) in
    sym (turning-found tape.entries _ _ _ b found at)

-- what `until` looks at before a turn
pub record Waits (end clock : ℕ) (b : Board) : Type 0 where
  pub running : b.cpu.jam ≡ None
  pub early : b.peripherals.clock < end
  pub before : b.peripherals.clock < clock

pub until-waits : (end clock : ℕ) (b : Board) → None ≡ look_until end clock b → Waits end clock b
until-waits end clock b none =
    let parts = until-parts b.cpu.jam (nat_le end b.peripherals.clock) (nat_le clock b.peripherals.clock) (sym none) in
    record { running = parts.0; early = leb-false end b.peripherals.clock parts.1; before = leb-false clock b.peripherals.clock parts.2 }

-- the clocks that are left to a command that isn't over at a jam
abbrev pub left : ℕ → Board → ℕ
left clock b = cond (is_some b.cpu.jam) 0 (suc (clock - b.peripherals.clock))

pub left-less : (end clock : ℕ) (b c : Board) → Waits end clock b → (c.cpu.jam ≡ None → b.peripherals.clock < c.peripherals.clock) → left clock c < left clock b
left-less end clock b c waits later = rw waits.running (by_jam c.cpu.jam refl)
  where
    by_jam : (jam : Option ℕ) → c.cpu.jam ≡ jam → cond (is_some jam) 0 (suc (clock - c.peripherals.clock)) < suc (clock - b.peripherals.clock)
    by_jam None is = let on = later is in let before = waits.before in omega arith
    by_jam (Some opcode) is = omega arith

-- the looks after a turn begin with those before one
before-first : (jam : Option ℕ) (ended : Bool) (looks : List (Option StopReason)) → first_of (option_map Jam jam ∷ cond ended (Some End) None ∷ looks) ≡ None
    → first_of (option_map Jam jam ∷ cond ended (Some End) None ∷ []) ≡ None
before-first (Some opcode) ended looks none = cc
before-first None true looks none = cc
before-first None false looks none = refl

pub after-opens : (end : ℕ) (stops : StopsValue) (before b : Board) → None ≡ look_after end stops before b → None ≡ look_before end b
after-opens end stops before b none = sym (before-first b.cpu.jam (nat_le end b.peripherals.clock) _ (sym none))

-- a command stops where a look after a turn finds something, and else goes on
pub stops-at : (look : Option StopReason) (b : Board) (found : StopReason) (more whole : Reached) → whole ≡ unless_found look b more → look ≡ Some found
    → record { found = found; board = b } ≡ whole
stops-at look b found more whole is at = sym (is ∙ ap (λ l. unless_found l b more) at)

pub goes-on : (look : Option StopReason) (b : Board) (more whole : Reached) → whole ≡ unless_found look b more → look ≡ None → whole ≡ more
goes-on look b more whole is at = is ∙ ap (λ l. unless_found l b more) at

-- so many turns
pub step-found : (tape : TapeValue) (n end : ℕ) (b : Board) (found : StopReason) → 0 < n → end ≡ tape.end → Some found ≡ look_before end b
    → record { found = found; board = b } ≡ step_from tape n b
unfolding step_from
step-found tape zero end b found some last is = absurd (omega arith)
step-found tape (suc n) end b found some last is =
    let at : Some found ≡ look_before tape.end b = rw (← last) is in
    ap (λ look. unless_found look b (step_from tape n (turn_done tape.entries b))) at

pub step-next : (tape : TapeValue) (n m end : ℕ) (b : Board) → n ≡ suc m → end ≡ tape.end → None ≡ look_before end b
    → step_from tape n b ≡ step_from tape m (turn_done tape.entries b)
unfolding step_from
step-next tape n m end b is last none = ap (λ k. step_from tape k b) is ∙ first
  where
    first : step_from tape (suc m) b ≡ step_from tape m (turn_done tape.entries b)
    first =
        let at : None ≡ look_before tape.end b = rw (← last) none in
        sym (ap (λ look. unless_found look b (step_from tape m (turn_done tape.entries b))) at)

pub step-last : (tape : TapeValue) (n : ℕ) (b : Board) → n ≡ 0 → record { found = unwrap_or (jam_look b) Step; board = b } ≡ step_from tape n b
unfolding step_from
step-last tape n b is = rw is (by_jam (jam_look b))
  where
    by_jam : (look : Option StopReason) → record { found = unwrap_or look Step; board = b } ≡ unless_found look b (record { found = Step; board = b })
    by_jam None = refl
    by_jam (Some found) = refl

-- the board after a turn whose records are forgotten
pub done-turn : (entries : List TapeEntry) (b c : Board) → c ≡ cleared (turn entries b) → c ≡ turn_done entries b
unfolding turn_done
done-turn entries b c is = is
