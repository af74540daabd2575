-- A run up to the horizon that is passed to a tracer.
use Rattle.std.proofs.Common.{◌≡◌, ℕ, ◌+◌, ◌-◌, ◌≤◌, ◌<◌, Bool, true, false, not, ◌&&◌, min, take, List, [], ◌++◌, None, refl, sym, ap, ◌∙◌, subst, add-zero, inl, inr, ◌⊎◌, arith}
use Rattle.std.proofs.lemmas.Bool.{or_parts}
use Rattle.board_base.specs.declared.board.TheConstants.{CLOCK_LIMIT}
use Rattle.board_base.specs.declared.divider.TheConstants.{DIVIDER_PERIOD}
use Rattle.board_base.specs.declared.cpu.Sequence.{Sequence}
use Rattle.board_base.specs.declared.cpu.Sequence.TheVariants.{Opcode}
use Rattle.board_base.specs.Cpu.{CpuValue}
use Rattle.cpu_core.specs.BusCycles as cycles
use Rattle.cpu_core.specs.Registers.{registers_of}
use Rattle.cpu_core.specs.Sequences.{Runs}
use Rattle.tape_ports.specs.declared.entry.TapeEntry.{TapeEntry}
use Rattle.tape_ports.specs.Tape.{TapeValue}
use Rattle.lockstep_board.specs.Lockstep.{Board}
use Rattle.catchup_engine.specs.StopConditions.{no_conditions, stops_at}
use Rattle.lockstep_board.specs.Run.{is_over}
use Rattle.lockstep_board.specs.Peripherals.{Peripherals, byte_read, devices_ticked, ticked}
use Rattle.catchup_engine.specs.declared.quiet.Horizon.{Horizon}
use Rattle.catchup_engine.specs.Bus.{Accepts, BusStep, BusValue}
use Rattle.catchup_engine.specs.Horizon.{IsHorizon, KeepsLines, is_before}
use Rattle.catchup_engine.specs.Notes.{NoteValue, NotedStep, NotedValue, ReachedValue, note_of, nothing_reached, noting}
use Rattle.catchup_engine.specs.Quiet.{IsCounted, later, passed}
use Rattle.catchup_engine.specs.Runs.{GoesOn, HasRoomTo, IsInRange, over_bus}
use Rattle.catchup_engine.specs.Together.{IsPlain, NotedRun, TakesTogether, opcode_note}
use Rattle.catchup_engine.specs.Trace.{TraceValue}
use Rattle.catchup_engine.specs.Traced.{NotedTurns}
use Rattle.catchup_engine.specs.Turn.{ReadsOpcode}
use Rattle.catchup_engine.proofs.HorizonLaws.{runs-keep}
use Rattle.catchup_engine.proofs.HorizonRuns.{AtHorizon, horizon-goes, horizon-smaller, horizon-starts}
use Rattle.catchup_engine.proofs.Notes.{IsNotedTurn, noted-turn, reached-first, reached_then}
use Rattle.catchup_engine.proofs.QuietLaws.{passed-zero}
use Rattle.catchup_engine.proofs.OpcodeLaws.{reads-opcode}
use Rattle.catchup_engine.proofs.Seen.{runs-seen}
use Rattle.catchup_engine.proofs.TapeLaws.{ticked-quiet}
use Rattle.catchup_engine.proofs.TracedRuns.{turns-more, turns-none}

-- the ticks of a clock in which no event is due, and those before it, don't change the RAM and the
-- program ROM
pub kept-memories : (tape : TapeValue) (elapsed : ℕ) (t : BusValue) → Accepts tape (passed elapsed t) → (passed elapsed t).peripherals.clock < (passed elapsed t).event_at
    → ((ticked tape.entries (passed elapsed t).peripherals).ram ≡ t.peripherals.ram) × ((ticked tape.entries (passed elapsed t).peripherals).program ≡ t.peripherals.program)
unfolding passed later devices_ticked
kept-memories tape elapsed t accepts no_event =
    let same = ticked-quiet tape (passed elapsed t) accepts no_event in (ap (λ (w : Peripherals). w.ram) same, ap (λ (w : Peripherals). w.program) same)

module _ {T : Type 0} (next : T → TraceValue → ℕ → T) (enough : T → Bool) (plain : ℕ → Bool) (after_plain : T → ℕ → ℕ → List ℕ → T) (tape : TapeValue) (limit : ℕ) where
  -- no turn is made yet
  pub record IsFresh (c : CpuValue) (s : BusValue) (elapsed : ℕ) (t : BusValue) (e : CpuValue) (r : ReachedValue) : Type 0 where
    pub turns : (w : T) → NotedTurns next enough tape.entries limit (over_bus c s) (over_bus e (passed elapsed t)) w w false
    pub clock : t.peripherals.clock + elapsed ≡ s.peripherals.clock
    pub ram : t.peripherals.ram ≡ s.peripherals.ram
    pub program : t.peripherals.program ≡ s.peripherals.program
    pub pc : e.pc ≡ c.pc
    pub reached : r ≡ nothing_reached

  -- some are made, and where the run goes on, the next one is taken with them
  pub record HasTurns (together : Bool) (c : CpuValue) (s : BusValue) (elapsed : ℕ) (t : BusValue) (e : CpuValue) (r : ReachedValue) (more : Bool) : Type 0 where
    pub runs : (w : T) → NotedRun next enough after_plain tape.entries limit together (over_bus c s) (over_bus e (passed elapsed t)) r w
    pub joined : more ≡ true → together ≡ true
    pub opcode : more ≡ true → (k : Peripherals) → k.ram ≡ t.peripherals.ram → k.program ≡ t.peripherals.program → plain (byte_read e.pc k) ≡ true

  -- From c and s such a run led to e and t, with so many clocks that t hasn't got yet, and its
  -- accesses reached this. The flag says whether it goes on.
  pub record AtNoted (horizon : Horizon) (together : Bool) (c : CpuValue) (s : BusValue) (elapsed : ℕ) (t : BusValue) (e : CpuValue) (r : ReachedValue) (more : Bool) : Type 0 where
    pub at : AtHorizon tape limit no_conditions horizon c s elapsed t e more
    pub starts : more ≡ true → r.starts ≡ []
    pub few : r.accesses ≤ t.peripherals.clock + elapsed
    pub turns : IsFresh c s elapsed t e r ⊎ HasTurns together c s elapsed t e r more

  pub noted-starts : (horizon : Horizon) (together : Bool) (c : CpuValue) (s : BusValue) (r : ReachedValue) → limit ≤ CLOCK_LIMIT → IsInRange c s → s.clock_open ≡ false
      → HasRoomTo limit s → Accepts tape s → GoesOn limit no_conditions c s → IsHorizon limit horizon s → horizon.until ≡ min limit (s.event_at - 6)
      → r ≡ nothing_reached → AtNoted horizon together c s 0 s c r true
  noted-starts horizon together c s r last range between room accepts goes known until none =
      let no_starts = ap (λ (k : ReachedValue). k.starts) none in
      let no_accesses = ap (λ (k : ReachedValue). k.accesses) none in
      record {
        at = horizon-starts tape limit no_conditions horizon c s last range between room accepts goes known until;
        starts = λ _. no_starts;
        few = omega (arith, no_accesses);
        turns = inl (record {
          turns = λ w. rw (passed-zero s) (turns-none next enough tape.entries limit (over_bus c s) w).0;
          clock = add-zero s.peripherals.clock;
          ram = refl;
          program = refl;
          pc = refl;
          reached = none;
        });
      }

  -- one instruction more, which is a turn
  module _ (horizon : Horizon) (together : Bool) (c e f : CpuValue) (s t u : BusValue) (elapsed n : ℕ) (r then : ReachedValue) (more : Bool) (on_yet : more ≡ true)
      (at : AtNoted horizon together c s elapsed t e r more)
      (runs : Runs (NotedStep tape.entries) (registers_of e) Opcode (noting (passed elapsed t) r) (noting (passed n u) then) f) (boundary : f.mid ≡ None) where
    bus-runs : Runs (BusStep tape.entries) (registers_of e) Opcode (passed elapsed t) (passed n u) f
    bus-runs =
        (runs-seen (BusStep tape.entries) (λ (k : NotedValue). k.bus) (λ k. 0) (λ x a b h. (refl, h.step)) (registers_of e) Opcode
        (noting (passed elapsed t) r) (noting (passed n u) then) f runs).1

    reads : ReadsOpcode e (passed elapsed t)
    reads = (reads-opcode e (passed elapsed t) (at.at.goes on_yet).reads).reads

    abbrev turn : IsNotedTurn tape.entries e (passed elapsed t) r (noting (passed n u) then) f
    turn = noted-turn tape e (passed elapsed t) r (noting (passed n u) then) f reads at.at.on.run.goes.between at.at.counted.accepts runs boundary

    memories : ((ticked tape.entries (passed elapsed t).peripherals).ram ≡ t.peripherals.ram) × ((ticked tape.entries (passed elapsed t).peripherals).program ≡ t.peripherals.program)
    memories = kept-memories tape elapsed t at.at.counted.accepts reads.no_event

    count : turn.trace.count ≡ u.peripherals.clock + n - (t.peripherals.clock + elapsed)
    unfolding passed later
    count = turn.count

    some : 1 ≤ turn.trace.count
    unfolding passed later
    some = let clock = turn.turned.turned.clock in let is = count in omega (arith, clock, is)

    later-clock : t.peripherals.clock + elapsed ≤ u.peripherals.clock + n
    unfolding passed later
    later-clock = let clock = turn.turned.turned.clock in omega (arith, clock)

    -- what is noted more is that of its trace
    abbrev one : ReachedValue
    one = (note_of turn.trace).reached

    accesses : then.accesses ≡ r.accesses + one.accesses
    accesses = ap (λ (k : ReachedValue). k.accesses) turn.reached

    starts : then.starts ≡ one.starts
    starts = ap (λ (k : ReachedValue). k.starts) turn.reached ∙ ap (λ l. l ++ one.starts) (at.starts on_yet)

    is-plain : plain (byte_read e.pc (ticked tape.entries (passed elapsed t).peripherals)) ≡ true → IsPlain plain turn.trace
    is-plain is = record { sequence = turn.sequence; opcode = ap plain turn.opcode ∙ is; some = some }

    -- a tracer that was w, and v before it
    turned : (w v : T) → NotedTurns next enough tape.entries limit (over_bus c s) (over_bus e (passed elapsed t)) w v false → limit ≤ CLOCK_LIMIT
        → NotedTurns next enough tape.entries limit (over_bus c s) (over_bus f (passed n u)) w (next v turn.trace f.pc) (enough (next v turn.trace f.pc))
    turned w v before last =
        (turns-more next enough tape.entries limit (over_bus c s) (passed elapsed t) (passed n u) e f w v (next v turn.trace f.pc) turn.trace (enough (next v turn.trace f.pc)) last
        before
        (or_parts (is_over limit (over_bus e (passed elapsed t))) (stops_at no_conditions (over_bus e (passed elapsed t))) (at.at.goes on_yet).open_yet).0
        at.at.on.range turn.turned turn.is refl refl).0

    -- the first turn
    first : limit ≤ CLOCK_LIMIT → TakesTogether next enough after_plain plain → IsFresh c s elapsed t e r
        → (together ≡ true → (k : Peripherals) → k.ram ≡ s.peripherals.ram → k.program ≡ s.peripherals.program → plain (byte_read c.pc k) ≡ true) → (w : T)
        → NotedRun next enough after_plain tape.entries limit together (over_bus c s) (over_bus f (passed n u)) then w
    unfolding passed later
    first last laws fresh opcode w =
        let w_then = next w turn.trace f.pc in
        let k = ticked tape.entries (passed elapsed t).peripherals in
        let clocks : u.peripherals.clock + n - s.peripherals.clock ≡ turn.trace.count = ap (λ m. u.peripherals.clock + n - m) (sym fresh.clock) ∙ sym count in
        let made = take turn.trace.count turn.trace.accesses in
        let all : then ≡ one = turn.reached ∙ ap (λ (l : ReachedValue). reached_then l made) fresh.reached ∙ reached-first made in
        let total = ap (λ (l : ReachedValue). l.accesses) all in
        record {
          v = w_then;
          turns = turned w w (fresh.turns w) last;
          plain = λ is. (
              laws.first w turn.trace f.pc (is-plain (ap (λ m. plain (byte_read m k)) fresh.pc ∙ opcode is k (memories.0 ∙ fresh.ram) (memories.1 ∙ fresh.program)))
              ∙ ap (λ m. after_plain w m one.accesses one.starts) (sym clocks)
              ∙ ap (λ (l : ReachedValue). after_plain w (u.peripherals.clock + n - s.peripherals.clock) l.accesses l.starts) (sym all)
              );
          single = λ _. record {
            trace = turn.trace;
            note = λ code is. (
                let byte : code ≡ turn.trace.opcode = is k (memories.0 ∙ fresh.ram) (memories.1 ∙ fresh.program) ∙ ap (λ m. byte_read m k) (sym fresh.pc) ∙ sym turn.opcode in
                ap (λ o. opcode_note o (u.peripherals.clock + n - s.peripherals.clock) then) byte
                ∙ ap (λ m. opcode_note turn.trace.opcode m then) clocks
                ∙ ap (opcode_note turn.trace.opcode turn.trace.count) all
                ∙ ap (λ (q : Sequence). let note : NoteValue = record { sequence = q; opcode = turn.trace.opcode; clocks = turn.trace.count; reached = one } in note) (sym turn.sequence)
                );
            tracer = refl;
            few = (let few = turn.few in let same = count in omega (arith, few, clocks, same));
          };
        }

    -- one more, taken with those before it
    another : limit ≤ CLOCK_LIMIT → TakesTogether next enough after_plain plain → HasTurns together c s elapsed t e r more → (w : T)
        → NotedRun next enough after_plain tape.entries limit together (over_bus c s) (over_bus f (passed n u)) then w
    unfolding passed later
    another last laws has w =
        let before = has.runs w in
        let k = ticked tape.entries (passed elapsed t).peripherals in
        let so_far = t.peripherals.clock + elapsed - s.peripherals.clock in
        let is : before.v ≡ after_plain w so_far r.accesses [] = before.plain (has.joined on_yet) ∙ ap (after_plain w so_far r.accesses) (at.starts on_yet) in
        let open_yet : enough before.v ≡ false = ap enough is ∙ laws.goes_on w so_far r.accesses in
        let from = at.at.on.run.clock in
        let to = later-clock in
        let same = count in
        let clocks : so_far + turn.trace.count ≡ u.peripherals.clock + n - s.peripherals.clock = omega (arith, from, to, same) in
        record {
          v = next before.v turn.trace f.pc;
          turns = turned w before.v (subst (λ flag. NotedTurns next enough tape.entries limit (over_bus c s) (over_bus e (passed elapsed t)) w before.v flag) open_yet before.turns) last;
          plain = λ _. (
              ap (λ v. next v turn.trace f.pc) is
              ∙ laws.more w so_far r.accesses turn.trace f.pc (is-plain (has.opcode on_yet k memories.0 memories.1))
              ∙ ap (λ m. after_plain w m (r.accesses + one.accesses) one.starts) clocks
              ∙ ap (λ m. after_plain w (u.peripherals.clock + n - s.peripherals.clock) m one.starts) (sym accesses)
              ∙ ap (after_plain w (u.peripherals.clock + n - s.peripherals.clock) then.accesses) (sym starts)
              );
          single = λ off. (let on = has.joined on_yet in cc);
        }

    pub noted-goes : (asked goes : Bool) → limit ≤ CLOCK_LIMIT → TakesTogether next enough after_plain plain
        → (together ≡ true → (k : Peripherals) → k.ram ≡ s.peripherals.ram → k.program ≡ s.peripherals.program → plain (byte_read c.pc k) ≡ true)
        → IsCounted tape n u → KeepsLines t u → then.accesses ≤ u.peripherals.clock + n
        → (goes ≡ true → u.peripherals.divider.phase + (u.event_at - u.peripherals.clock) < DIVIDER_PERIOD)
        → (goes ≡ true → is_before asked horizon f (passed n u) ≡ true) → (goes ≡ true → then.starts ≡ [])
        → (goes ≡ true → together ≡ true) → (goes ≡ true → (k : Peripherals) → k.ram ≡ u.peripherals.ram → k.program ≡ u.peripherals.program → plain (byte_read f.pc k) ≡ true)
        → AtNoted horizon together c s n u f then goes
    noted-goes asked goes last laws opcode counted lines few wrap before no_starts joined plain_then = record {
      at = horizon-goes tape limit no_conditions asked horizon c e f s t u elapsed n more goes on_yet last at.at bus-runs boundary counted lines wrap (λ on. and-none _ (before on));
      starts = no_starts;
      few = few;
      turns = inr (record { runs = λ w. by_turns at.turns w; joined = joined; opcode = plain_then });
    }
      where
        and-none : (b : Bool) → b ≡ true → (b && not false) ≡ true
        and-none true is = refl
        and-none false is = cc

        by_turns : IsFresh c s elapsed t e r ⊎ HasTurns together c s elapsed t e r more → (w : T)
            → NotedRun next enough after_plain tape.entries limit together (over_bus c s) (over_bus f (passed n u)) then w
        by_turns (inl fresh) w = first last laws fresh opcode w
        by_turns (inr has) w = another last laws has w

    -- and the run has less to go
    pub noted-smaller : limit - (passed n u).peripherals.clock < limit - (passed elapsed t).peripherals.clock
    noted-smaller = horizon-smaller tape limit no_conditions horizon c e f s t u elapsed n more on_yet at.at bus-runs boundary

  -- where it doesn't go on, the turns are those of the run
  pub noted-ends : (horizon : Horizon) (together : Bool) (c e : CpuValue) (s t : BusValue) (elapsed : ℕ) (r : ReachedValue) (more : Bool) → more ≡ false
      → AtNoted horizon together c s elapsed t e r more → (w : T) (last : Peripherals) (all : ReachedValue) → last ≡ (passed elapsed t).peripherals → all ≡ r
      → NotedRun next enough after_plain tape.entries limit together (over_bus c s) (record { cpu = e; peripherals = last }) all w
  unfolding passed later
  noted-ends horizon together c e s t elapsed r more ended at w last all flushed same =
      rw (flushed, same) (by_turns at.turns)
    where
      by_turns : IsFresh c s elapsed t e r ⊎ HasTurns together c s elapsed t e r more
          → NotedRun next enough after_plain tape.entries limit together (over_bus c s) (over_bus e (passed elapsed t)) r w
      by_turns (inl fresh) = let same = fresh.clock in let later = at.at.later ended in absurd (omega (arith, same, later))
      by_turns (inr has) = has.runs w

-- a tracer that took the turns together
pub together-ends : {T : Type 0} (next : T → TraceValue → ℕ → T) (enough : T → Bool) (after_plain : T → ℕ → ℕ → List ℕ → T) (entries : List TapeEntry) (limit : ℕ) (together : Bool)
    (b c : Board) (r : ReachedValue) (w new : T) (flag : Bool) (clocks accesses : ℕ) (starts : List ℕ) → NotedRun next enough after_plain entries limit together b c r w → together ≡ true
    → clocks ≡ c.peripherals.clock - b.peripherals.clock → accesses ≡ r.accesses → starts ≡ r.starts → new ≡ after_plain w clocks accesses starts → flag ≡ enough new
    → NotedTurns next enough entries limit b c w new flag
together-ends next enough after_plain entries limit together b c r w new flag clocks accesses starts run on time count marks is full =
    let same : new ≡ run.v =
    is
    ∙ ap (λ k. after_plain w k accesses starts) time
    ∙ ap (λ k. after_plain w (c.peripherals.clock - b.peripherals.clock) k starts) count
    ∙ ap (after_plain w (c.peripherals.clock - b.peripherals.clock) r.accesses) marks
    ∙ sym (run.plain on) in
    rw (full, same) run.turns

-- and one that took the only one by its note
pub single-ends : {T : Type 0} (next : T → TraceValue → ℕ → T) (enough : T → Bool) (after_plain : T → ℕ → ℕ → List ℕ → T) (entries : List TapeEntry) (limit : ℕ) (together : Bool)
    (b c : Board) (r : ReachedValue) (w new : T) (flag : Bool) (opcode clocks : ℕ) → NotedRun next enough after_plain entries limit together b c r w → together ≡ false
    → clocks ≡ c.peripherals.clock - b.peripherals.clock
    → ((k : Peripherals) → k.ram ≡ b.peripherals.ram → k.program ≡ b.peripherals.program → opcode ≡ byte_read b.cpu.pc k)
    → ((trace : TraceValue) → opcode_note opcode clocks r ≡ note_of trace → new ≡ next w trace c.cpu.pc) → flag ≡ enough new
    → NotedTurns next enough entries limit b c w new flag
single-ends next enough after_plain entries limit together b c r w new flag opcode clocks run off time byte observed full =
    let one = run.single off in
    let same : new ≡ run.v = observed one.trace (ap (λ k. opcode_note opcode k r) time ∙ one.note opcode byte) ∙ sym one.tracer in
    rw (full, same) run.turns

-- an instruction over a bus that notes it
pub record IsNotedBy {S : Type 0} (entries : List TapeEntry) (seen : S → NotedValue) (bus : S → BusValue) (name name_then : S → ℕ) (e f : CpuValue) (s t : S) : Type 0 where
  pub runs : Runs (NotedStep entries) (registers_of e) Opcode (seen s) (seen t) f
  pub lines : KeepsLines (bus s) (bus t)
  pub same : name t ≡ name s
  pub same_then : name_then t ≡ name_then s

pub noted-by : {S : Type 0} {R : cycles.Access → S → S → Type 0} (entries : List TapeEntry) (seen : S → NotedValue) (bus : S → BusValue) (name name_then : S → ℕ)
    → ((x : cycles.Access) (a b : S) → R x a b → (name b ≡ name a) × (name_then b ≡ name_then a) × KeepsLines (bus a) (bus b) × NotedStep entries x (seen a) (seen b))
    → (e f : CpuValue) (s t : S) → Runs R (registers_of e) Opcode s t f → IsNotedBy entries seen bus name name_then e f s t
noted-by entries seen bus name name_then lift e f s t runs =
    let one = runs-seen (NotedStep entries) seen name (λ x a c h. ((lift x a c h).0, (lift x a c h).3)) (registers_of e) Opcode s t f runs in
    let two = runs-seen (NotedStep entries) seen name_then (λ x a c h. ((lift x a c h).1, (lift x a c h).3)) (registers_of e) Opcode s t f runs in
    record { runs = one.1; lines = runs-keep bus (λ x a c h. (lift x a c h).2) (registers_of e) Opcode s t f runs; same = one.0; same_then = two.0 }
