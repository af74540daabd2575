-- A run up to the horizon, whose clocks the bus hasn't got yet.
use Rattle.std.proofs.Common.{◌≡◌, ℕ, List, ◌+◌, ◌-◌, ◌≤◌, ◌<◌, Bool, true, false, not, ◌&&◌, ◌||◌, min, None, refl, ap, ◌∙◌, arith}
use Rattle.std.proofs.lemmas.Bool.{and_parts, or_parts}
use Rattle.board_base.specs.declared.board.TheConstants.{CLOCK_LIMIT}
use Rattle.board_base.specs.declared.divider.TheConstants.{DIVIDER_PERIOD}
use Rattle.board_base.specs.declared.cpu.Sequence.TheVariants.{Opcode}
use Rattle.board_base.specs.Cpu.{CpuValue}
use Rattle.cpu_core.specs.BusCycles.{Access}
use Rattle.cpu_core.specs.Registers.{registers_of}
use Rattle.cpu_core.specs.Sequences.{Runs}
use Rattle.tape_ports.specs.declared.entry.TapeEntry.{TapeEntry}
use Rattle.tape_ports.specs.Tape.{TapeValue}
use Rattle.catchup_engine.specs.StopConditions.{ConditionsValue, asks_generator, stops_at}
use Rattle.lockstep_board.specs.Run.{is_over}
use Rattle.catchup_engine.specs.declared.bus.TheConstants.{MAX_SEQUENCE_CLOCKS}
use Rattle.catchup_engine.specs.declared.quiet.Horizon.{Horizon}
use Rattle.catchup_engine.specs.Bus.{Accepts, BusStep, BusValue, Looked, room_of}
use Rattle.catchup_engine.specs.Horizon.{IsHorizon, KeepsLines, NothingDue, is_before}
use Rattle.catchup_engine.specs.Quiet.{IsCounted, later, passed, quiet_room}
use Rattle.catchup_engine.specs.Runs.{GoesOn, HasRoomTo, IsInRange, TurnsOn, over_bus}
use Rattle.catchup_engine.specs.Turn.{TurnedBus, reads_opcode}
use Rattle.catchup_engine.proofs.BreaksOn.{turns-go_on, turns-start}
use Rattle.catchup_engine.proofs.HorizonLaws.{are-kept, horizon-goes_on, passed-leaves, passed-lines, runs-keep}
use Rattle.catchup_engine.proofs.OpcodeLaws.{reads-opcode}
use Rattle.catchup_engine.proofs.QuietLaws.{counted-start, passed-zero}
use Rattle.catchup_engine.proofs.RunsOn.{open-before}
use Rattle.catchup_engine.proofs.Seen.{runs-seen}
use Rattle.catchup_engine.proofs.StopLaws.{ends-looked, looked-clock, reads-looked, turns-looked}
use Rattle.catchup_engine.proofs.Turns.{opcode-turn}

-- from c and s such a run led to e and t, with so many clocks that t hasn't got yet; where it is to
-- go on, it goes on
pub record AtHorizon (tape : TapeValue) (limit : ℕ) (stops : ConditionsValue) (horizon : Horizon) (c : CpuValue) (s : BusValue) (elapsed : ℕ) (t : BusValue) (e : CpuValue) (more : Bool) : Type 0 where
  pub on : TurnsOn tape.entries limit stops c s (passed elapsed t) e
  pub counted : IsCounted tape elapsed t
  pub are : NothingDue limit horizon t
  pub goes : more ≡ true → GoesOn limit stops e (passed elapsed t)
  pub later : more ≡ false → s.peripherals.clock < (passed elapsed t).peripherals.clock

module _ (tape : TapeValue) (limit : ℕ) (stops : ConditionsValue) where
  -- what is known where it goes on
  pub record Before (c : CpuValue) (s : BusValue) : Type 0 where
    pub boundary : c.mid ≡ None
    pub running : c.jam ≡ None
    pub clock : s.peripherals.clock < limit
    pub no_event : s.peripherals.clock + MAX_SEQUENCE_CLOCKS ≤ s.event_at

  pub goes-before : (c : CpuValue) (s : BusValue) → GoesOn limit stops c s → Before c s
  goes-before c s goes =
      let reads = reads-opcode c s goes.reads in
      let both = or_parts (is_over limit (over_bus c s)) (stops_at stops (over_bus c s)) goes.open_yet in
      let before = open-before limit (over_bus c s) reads.reads.boundary both.0 in
      record { boundary = reads.reads.boundary; running = before.running; clock = before.clock; no_event = reads.no_event }

  pub room-before : (c e : CpuValue) (s t : BusValue) → limit ≤ CLOCK_LIMIT → HasRoomTo limit s → TurnsOn tape.entries limit stops c s t e
      → t.peripherals.clock < limit → MAX_SEQUENCE_CLOCKS ≤ room_of t
  room-before c e s t last room on early =
      let rooms : t.rooms.board ≡ s.rooms.board = ap (λ r. r.board) on.run.goes.rooms in
      omega arith

  pub horizon-starts : (horizon : Horizon) (c : CpuValue) (s : BusValue) → limit ≤ CLOCK_LIMIT → IsInRange c s → s.clock_open ≡ false → HasRoomTo limit s → Accepts tape s
      → GoesOn limit stops c s → IsHorizon limit horizon s → horizon.until ≡ min limit (s.event_at - 6) → AtHorizon tape limit stops horizon c s 0 s c true
  horizon-starts horizon c s last range between room accepts goes known until =
      let before = goes-before c s goes in
      let early = before.clock in
      let no_event = before.no_event in
      let on = turns-start tape.entries limit stops c s between before.boundary range in
      record {
        on = rw (passed-zero s) on;
        counted = counted-start tape 0 s refl accepts between no_event (room-before c c s s last room on early);
        are = known (omega arith);
        goes = λ _. rw (passed-zero s) goes;
        later = λ no. cc;
      }

  pub horizon-room : (horizon : Horizon) (c e : CpuValue) (s t : BusValue) (elapsed : ℕ) (more : Bool) → more ≡ true → limit ≤ CLOCK_LIMIT → HasRoomTo limit s
      → AtHorizon tape limit stops horizon c s elapsed t e more → MAX_SEQUENCE_CLOCKS ≤ quiet_room elapsed t
  unfolding passed later
  horizon-room horizon c e s t elapsed more on_yet last room at =
      let before = goes-before e (passed elapsed t) (at.goes on_yet) in
      let early = before.clock in
      let most = room-before c e s (passed elapsed t) last room at.on early in
      omega arith

  -- an instruction is a turn
  pub horizon-turn : (horizon : Horizon) (c e f : CpuValue) (s t u : BusValue) (elapsed n : ℕ) (more : Bool) → more ≡ true → AtHorizon tape limit stops horizon c s elapsed t e more
      → Runs (BusStep tape.entries) (registers_of e) Opcode (passed elapsed t) (passed n u) f → f.mid ≡ None
      → TurnedBus tape.entries 7 e (passed elapsed t) (passed n u) f
  horizon-turn horizon c e f s t u elapsed n more on_yet at runs boundary =
      let goes = at.goes on_yet in
      opcode-turn tape e (passed elapsed t) (passed n u) f (reads-opcode e (passed elapsed t) goes.reads).reads at.on.run.goes.between at.counted.accepts runs boundary

  -- it goes on where the clock and the flags are so
  tells-on : (asked : Bool) (horizon : Horizon) (f : CpuValue) (u : BusValue) (n : ℕ) (more : Bool) → f.mid ≡ None → IsCounted tape n u → NothingDue limit horizon u
      → (more ≡ true → u.peripherals.divider.phase + (u.event_at - u.peripherals.clock) < DIVIDER_PERIOD)
      → (more ≡ true → (is_before asked horizon f (passed n u) && not (stops_at stops (over_bus f (passed n u)))) ≡ true)
      → more ≡ true → GoesOn limit stops f (passed n u)
  unfolding passed later
  tells-on asked horizon f u n more boundary counted are wrap is on_yet =
      let both = and_parts (is_before asked horizon f (passed n u)) (not (stops_at stops (over_bus f (passed n u)))) (is on_yet) in
      let lines = passed-lines n u counted.no_event (wrap on_yet) in
      horizon-goes_on asked limit stops horizon f (passed n u) boundary both.0 (are-kept limit horizon u (passed n u) lines are)
      (λ early. passed-leaves n u (omega arith) (wrap on_yet)) (not-true (stops_at stops (over_bus f (passed n u))) both.1)
    where
      not-true : (b : Bool) → not b ≡ true → b ≡ false
      not-true false e = refl
      not-true true e = cc

  pub horizon-goes : (asked : Bool) (horizon : Horizon) (c e f : CpuValue) (s t u : BusValue) (elapsed n : ℕ) (more then : Bool) → more ≡ true → limit ≤ CLOCK_LIMIT
      → AtHorizon tape limit stops horizon c s elapsed t e more
      → Runs (BusStep tape.entries) (registers_of e) Opcode (passed elapsed t) (passed n u) f → f.mid ≡ None → IsCounted tape n u → KeepsLines t u
      → (then ≡ true → u.peripherals.divider.phase + (u.event_at - u.peripherals.clock) < DIVIDER_PERIOD)
      → (then ≡ true → (is_before asked horizon f (passed n u) && not (stops_at stops (over_bus f (passed n u)))) ≡ true)
      → AtHorizon tape limit stops horizon c s n u f then
  horizon-goes asked horizon c e f s t u elapsed n more then on_yet last at runs boundary counted lines wrap is =
      let goes = at.goes on_yet in
      let turned = horizon-turn horizon c e f s t u elapsed n more on_yet at runs boundary in
      let are = are-kept limit horizon t u lines at.are in
      record {
        on = turns-go_on tape.entries limit stops c s (passed elapsed t) (passed n u) e f last at.on goes.open_yet turned;
        counted = counted;
        are = are;
        goes = tells-on asked horizon f u n then boundary counted are wrap is;
        later = λ _. omega arith;
      }

  -- a look leaves it where it was
  pub horizon-looked : (horizon : Horizon) (c f : CpuValue) (s u v : BusValue) (n m : ℕ) (more : Bool) → AtHorizon tape limit stops horizon c s n u f more
      → Looked (asks_generator stops) (passed n u) (passed m v) → KeepsLines u v → IsCounted tape m v → AtHorizon tape limit stops horizon c s m v f more
  horizon-looked horizon c f s u v n m more at looked lines counted =
      let asked = asks_generator stops in
      let same = looked-clock asked (passed n u) (passed m v) looked in
      record {
        on = turns-looked tape.entries limit stops c s (passed n u) (passed m v) f at.on looked;
        counted = counted;
        are = are-kept limit horizon u v lines at.are;
        goes = λ on_yet. (
            let goes = at.goes on_yet in
            record {
              open_yet = ends-looked asked limit stops f (passed n u) (passed m v) looked ∙ goes.open_yet;
              reads = reads-looked asked f (passed n u) (passed m v) looked ∙ goes.reads;
            }
            );
        later = λ ended. rw same (at.later ended);
      }

  pub horizon-smaller : (horizon : Horizon) (c e f : CpuValue) (s t u : BusValue) (elapsed n : ℕ) (more : Bool) → more ≡ true → AtHorizon tape limit stops horizon c s elapsed t e more
      → Runs (BusStep tape.entries) (registers_of e) Opcode (passed elapsed t) (passed n u) f → f.mid ≡ None
      → limit - (passed n u).peripherals.clock < limit - (passed elapsed t).peripherals.clock
  horizon-smaller horizon c e f s t u elapsed n more on_yet at runs boundary =
      let before = goes-before e (passed elapsed t) (at.goes on_yet) in
      let turned = horizon-turn horizon c e f s t u elapsed n more on_yet at runs boundary in
      omega arith

  -- where it goes on, no run ends and an opcode is read
  pub goes-on-tells : (c : CpuValue) (s : BusValue)
      → (not (is_over limit (over_bus c s) || stops_at stops (over_bus c s)) && reads_opcode c s) ≡ true → GoesOn limit stops c s
  goes-on-tells c s e =
      let both = and_parts (not (is_over limit (over_bus c s) || stops_at stops (over_bus c s))) (reads_opcode c s) e in
      record { open_yet = not-true (is_over limit (over_bus c s) || stops_at stops (over_bus c s)) both.0; reads = both.1 }
    where
      not-true : (b : Bool) → not b ≡ true → b ≡ false
      not-true false f = refl
      not-true true f = cc

  -- there is room for the rest of the run
  pub room-kept : (c e : CpuValue) (s t : BusValue) → limit ≤ CLOCK_LIMIT → HasRoomTo limit s → TurnsOn tape.entries limit stops c s t e → HasRoomTo limit t
  room-kept c e s t last room on =
      let rooms : t.rooms.board ≡ s.rooms.board = ap (λ r. r.board) on.run.goes.rooms in
      omega arith

-- an instruction over a bus that counts the clocks
pub record IsQuietBy {S : Type 0} (entries : List TapeEntry) (bus : S → BusValue) (elapsed name : S → ℕ) (e f : CpuValue) (s t : S) : Type 0 where
  pub runs : Runs (BusStep entries) (registers_of e) Opcode (passed (elapsed s) (bus s)) (passed (elapsed t) (bus t)) f
  pub lines : KeepsLines (bus s) (bus t)
  pub same : name t ≡ name s

pub quiet-by : {S : Type 0} {T : Access → S → S → Type 0} (entries : List TapeEntry) (bus : S → BusValue) (elapsed name : S → ℕ)
    → ((x : Access) (a b : S) → T x a b → (name b ≡ name a) × KeepsLines (bus a) (bus b) × BusStep entries x (passed (elapsed a) (bus a)) (passed (elapsed b) (bus b)))
    → (e f : CpuValue) (s t : S) → Runs T (registers_of e) Opcode s t f → IsQuietBy entries bus elapsed name e f s t
quiet-by {S} entries bus elapsed name lift e f s t runs =
    let seen = runs-seen (BusStep entries) (λ (k : S). passed (elapsed k) (bus k)) name (λ x a b h. ((lift x a b h).0, (lift x a b h).2)) (registers_of e) Opcode s t f runs in
    record { runs = seen.1; lines = runs-keep bus (λ x a b h. (lift x a b h).1) (registers_of e) Opcode s t f runs; same = seen.0 }

-- the boundary is before the horizon, so that it goes on unless it is at a break
pub and-then : (here at has : Bool) → here ≡ true → at ≡ has → not has ≡ true → (here && not at) ≡ true
and-then here at has e f on_yet = rw (e, f) on_yet

-- it isn't
pub and-else : (here result at : Bool) → result ≡ false → result ≡ true → (here && not at) ≡ true
and-else here result at f on_yet = absurd (never result f on_yet)
  where
    never : (b : Bool) → b ≡ false → b ≡ true → ⊥
    never true e g = cc
    never false e g = cc
