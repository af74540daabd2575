-- A turn: the rest of a sequence, a whole one, or as much of it as there are clocks for.
use Rattle.std.proofs.Common.{◌≡◌, ◌≢◌, ℕ, ◌+◌, ◌-◌, ◌*◌, ◌<◌, ◌≤◌, true, false, List, [], ◌∷◌, ◌++◌, length, Option, Some, None}
use Rattle.std.proofs.Common.{IfSome, IsSome, refl, sym, ap, ◌∙◌, subst, arith, append_assoc, length-append, append-nil, inl, inr, ◌⊎◌, suc, if◌then◌else◌, rules}
use Rattle.std.specs.Int.{from_bool}
use Rattle.std.proofs.lemmas.List.{length-take-le}
use Rattle.board_base.specs.declared.cpu.Sequence.{Sequence}
use Rattle.board_base.specs.declared.cpu.Sequence.TheVariants.{Opcode, Interrupt, Reset}
use Rattle.board_base.specs.Cpu.{CpuValue}
use Rattle.board_base.specs.Mid.{MidValue}
use Rattle.cpu_core.specs.declared.replay.Next.{Next}
use Rattle.cpu_core.specs.declared.replay.Next.TheVariants.{Read, Write, End}
use Rattle.cpu_core.specs.Registers.{RegistersValue, registers_of}
use Rattle.cpu_core.specs.BusCycles.{Access, read_of, write_of}
use Rattle.cpu_core.specs.Sequences.{next_of, start_of, IsAccess, IsEnd, Moves, Runs}
use Rattle.cpu_core.specs.Places.{standing, stopped, paused, given_by, Advances, IsPlace, IsMiddle}
use Rattle.cpu_core.proofs.LengthLemmas.{six_before_end}
use Rattle.cpu_core.proofs.PlaceLemmas.{place_due}
use Rattle.tape_ports.specs.declared.entry.TapeEntry.{TapeEntry}
use Rattle.lockstep_board.specs.Peripherals.{Peripherals, line_of, reset_started, ticked}
use Rattle.lockstep_board.specs.Lockstep.{Board, accessed, access_in, started, clocked, due_access, at_fetch, made_by, sequence_due, step}
use Rattle.lockstep_board.specs.Budget.{begins_reset, budget, counted, device_access, price, reaches_device, reset_count, ticks_price}
use Rattle.catchup_engine.specs.Bus.{BusValue, BusStep, Does, Accepts, at_clock, done_clock, in_clock}
use Rattle.tape_ports.specs.Tape.{TapeValue}
use Rattle.catchup_engine.proofs.TapeLaws.{ticked-quiet}
use Rattle.catchup_engine.specs.Turn.{Goes, ReadsOpcode, Resets, Turned, TurnedBus}
use Rattle.lockstep_board.specs.Steps.{Through}
use Rattle.lockstep_board.proofs.Clocks.{step-clock, through-clock, step-written, through-written, reset_by-clock}
use Rattle.catchup_engine.proofs.Steps.{board_after, accessed-is, in_clock-between, moves-length, moves-went, same-access, stays-of, Went}

-- the first clock of a turn: one step of the board, and an access of the bus
pub record First (entries : List TapeEntry) (b : Board) (r : RegistersValue) (q : Sequence) (bytes : List ℕ) (s m : BusValue) : Type 0 where
  pub step : step entries b ≡ board_after r q bytes m.peripherals
  pub paid : m.calls ≤ s.calls + price entries b
  pub goes : Goes s m

goes-on : (entries : List TapeEntry) (n : ℕ) (b last : Board) (s m t : BusValue) → Goes s m → Went entries n b last m t → Goes s t
goes-on entries n b last s m t first rest =
    record { more = omega arith; rooms = rest.rooms ∙ first.rooms; until = omega arith; between = rest.between }

budget-more : (entries : List TapeEntry) (n : ℕ) (b : Board) → budget entries (suc n) b ≡ price entries b + budget entries n (step entries b)
unfolding counted
budget-more entries n b = refl

-- the first clock, and the accesses after it
turned-by : (entries : List TapeEntry) (b : Board) (r : RegistersValue) (q : Sequence) (bytes more : List ℕ) (before : ℕ) (s m t : BusValue)
    → First entries b r q bytes s m → Went entries (length more) (board_after r q bytes m.peripherals) (board_after r q (bytes ++ more) t.peripherals) m t
    → before + suc (length more) ≤ 7 → Turned entries before b (board_after r q (bytes ++ more) t.peripherals) s.calls t.calls
turned-by entries b r q bytes more before s m t first rest few =
    let last = board_after r q (bytes ++ more) t.peripherals in
    let through : Through entries (length more) (step entries b) last = rw first.step rest.through in
    let paid_then : t.calls ≤ m.calls + budget entries (length more) (step entries b) = rw first.step rest.paid in
    let whole = budget-more entries (length more) b in
    let clock_first = step-clock entries b in
    let clock_then = through-clock entries (length more) (step entries b) last through in
    let written_first = step-written entries b in
    let written_then = through-written entries (length more) (step entries b) last through in
    record {
      count = length more;
      through = through;
      few = few;
      clock = omega arith;
      written = omega arith;
      paid = omega arith;
    }

pub turned-clock : (entries : List TapeEntry) (b : Board) (r : RegistersValue) (q : Sequence) (bytes more : List ℕ) (s m t : BusValue)
    → First entries b r q bytes s m → Went entries (length more) (board_after r q bytes m.peripherals) (board_after r q (bytes ++ more) t.peripherals) m t
    → t.peripherals.clock ≡ b.peripherals.clock + suc (length more)
turned-clock entries b r q bytes more s m t first rest =
    let last = board_after r q (bytes ++ more) t.peripherals in
    let through : Through entries (length more) (step entries b) last = rw first.step rest.through in
    let clock_first = step-clock entries b in
    let clock_then = through-clock entries (length more) (step entries b) last through in
    omega arith

pub end_or_not : (next : Next) → IsEnd next ⊎ (IsEnd next → ⊥)
end_or_not (Read a) = inr (λ end. end)
end_or_not (Write a v) = inr (λ end. end)
end_or_not (End e) = inl tt

-- a turn from what an advance made after its first clock
turn-bus : (entries : List TapeEntry) (c : CpuValue) (r : RegistersValue) (q : Sequence) (bytes : List ℕ) (before clocks made : ℕ) (s m t : BusValue) (e : CpuValue)
    → First entries (record { cpu = c; peripherals = s.peripherals }) r q bytes s m → (IsSome c.mid → 1 ≤ before) → before + 1 ≡ length bytes
    → length bytes ≤ 7 → Advances (BusStep entries) r q bytes clocks made m t e → TurnedBus entries (clocks + 1) c s t e
turn-bus entries c r q bytes before clocks made s m t e first inside count few advances =
    let more = advances.more in
    let went = moves-went entries r q bytes more m t advances.moves first.goes.between in
    let seven = moves-length entries r q bytes more m t advances.moves few in
    let turned = turned-by entries (record { cpu = c; peripherals = s.peripherals }) r q bytes more before s m t first went (omega arith) in
    let e_is : board_after r q (bytes ++ more) t.peripherals ≡ record { cpu = e; peripherals = t.peripherals } =
    ap (λ (k : CpuValue). let b : Board = record { cpu = k; peripherals = t.peripherals } in b) (sym advances.stands) in
    let clock : t.peripherals.clock ≡ s.peripherals.clock + suc (length more) =
    turned-clock entries (record { cpu = c; peripherals = s.peripherals }) r q bytes more s m t first went in
    record {
      before = before;
      turned = subst (λ (b : Board). Turned entries before (record { cpu = c; peripherals = s.peripherals }) b s.calls t.calls) e_is turned;
      inside = inside;
      goes = goes-on entries (length more) (board_after r q bytes m.peripherals) (board_after r q (bytes ++ more) t.peripherals) s m t first.goes went;
      at_most = omega arith;
      stops = λ some. (
          let due : IsEnd (next_of r q (bytes ++ more)) → ⊥ = λ end. some-none e.mid some (advances.complete.1 end) in
          let full : made ≡ clocks = advances.full due in
          omega arith
          );
      short = λ some. (
          let due : IsEnd (next_of r q (bytes ++ more)) → ⊥ = λ end. some-none e.mid some (advances.complete.1 end) in
          let seven : length (bytes ++ more) < 7 = six_before_end r q (bytes ++ more) due in
          let longer : length (bytes ++ more) ≡ length bytes + length more = length-append bytes more in
          omega arith
          );
    }
  where
    some-none : (mid : Option MidValue) → IsSome mid → mid ≡ None → ⊥
    some-none None some e = cc
    some-none (Some m) some e = cc

-- taking the first access of an advance apart
pub record Parted (entries : List TapeEntry) (r : RegistersValue) (q : Sequence) (given : List ℕ) (clocks made : ℕ) (s t : BusValue) (e : CpuValue) : Type 0 where
  pub value : ℕ
  pub access : Access
  pub then_s : BusValue
  pub is : IsAccess (next_of r q given) value access
  pub did : BusStep entries access s then_s
  pub rest : Advances (BusStep entries) r q (given ++ value ∷ []) (clocks - 1) (made - 1) then_s t e

pub part : (entries : List TapeEntry) (r : RegistersValue) (q : Sequence) (given : List ℕ) (clocks made : ℕ) (s t : BusValue) (e : CpuValue)
    → 1 ≤ clocks → (IsEnd (next_of r q given) → ⊥) → Advances (BusStep entries) r q given clocks made s t e
    → Parted entries r q given clocks made s t e
part entries r q given clocks made s t e some due a = by_more a.more a.moves a.count a.full a.stands a.complete
  where
    by_more : (more : List ℕ) → Moves (BusStep entries) r q given more s t → length more ≡ made
        → ((IsEnd (next_of r q (given ++ more)) → ⊥) → made ≡ clocks) → e ≡ standing r q (given ++ more)
        → ((e.mid ≡ None → IsEnd (next_of r q (given ++ more))) × (IsEnd (next_of r q (given ++ more)) → e.mid ≡ None))
        → Parted entries r q given clocks made s t e
    by_more [] m count full stands complete =
        let none : made ≡ clocks = full (rw (append-nil given) due) in
        absurd (omega arith)
    by_more (v ∷ more) (x, m, is, did, rest) count full stands complete =
        let same : (given ++ v ∷ []) ++ more ≡ given ++ v ∷ more = append_assoc given (v ∷ []) more in
        record {
          value = v;
          access = x;
          then_s = m;
          is = is;
          did = did;
          rest = record {
            more = more;
            moves = rest;
            count = omega arith;
            few = omega arith;
            full = λ open_yet. (let all : made ≡ clocks = full (rw (← same) open_yet) in omega arith);
            stands = rw same stands;
            complete = rw same complete;
          };
        }

-- each sequence begins with an access
pub next-first : (r : RegistersValue) (q : Sequence) → IsEnd (next_of r q []) → ⊥
unfolding next_of
next-first r Opcode end = end
next-first r Interrupt end = end
next-first r Reset end = end

-- a fetch of a board at a boundary
step-fetch : (entries : List TapeEntry) (c : CpuValue) (w : Peripherals) → c.mid ≡ None
    → step entries (record { cpu = c; peripherals = w })
    ≡ clocked (started (sequence_due c (ticked entries w)) (accessed (start_of (sequence_due c (ticked entries w)) c) (sequence_due c (ticked entries w)) [] (ticked entries w)))
unfolding step at_fetch
step-fetch entries c w boundary = rw boundary refl

price-fetch : (entries : List TapeEntry) (c : CpuValue) (w : Peripherals) (q : Sequence) (v : ℕ) (x : Access) → c.mid ≡ None → q ≡ sequence_due c (ticked entries w)
    → IsAccess (next_of (start_of q c) q []) v x
    → price entries (record { cpu = c; peripherals = w }) ≡ 2 * from_bool (reaches_device x) + 5 * reset_count q + ticks_price entries w
unfolding price access_in
price-fetch entries c w q v x boundary due is =
    let u = ticked entries w in
    let same : device_access (made_by (next_of (start_of q c) q []) u) ≡ from_bool (reaches_device x) =
    sym (same-access (next_of (start_of q c) q []) v x u is) in
    ap (λ (mid : Option MidValue). 2 * device_access (due_access mid c u) + 5 * begins_reset mid c u + ticks_price entries w) boundary
    ∙ ap (λ (p : Sequence). 2 * device_access (made_by (next_of (start_of p c) p []) u) + 5 * reset_count p + ticks_price entries w) (sym due)
    ∙ ap (λ n. 2 * n + 5 * reset_count q + ticks_price entries w) same

-- the line doesn't depend on the clock
line-clock : (clock : ℕ) (w : Peripherals) → line_of (at_clock clock w) ≡ line_of w
unfolding line_of
line-clock clock w = refl

pub due-clock : (c : CpuValue) (w : Peripherals) → sequence_due c (done_clock w) ≡ sequence_due c w
due-clock c w = rw (line-clock (w.clock + 1) w) refl

-- the bus after its clock is open
pub record Begins (entries : List TapeEntry) (s b : BusValue) : Type 0 where
  pub peripherals : b.peripherals ≡ done_clock (ticked entries s.peripherals)
  pub clock_open : b.clock_open ≡ true
  pub rooms : b.rooms ≡ s.rooms
  pub until : s.until ≤ b.until
  pub calls : b.calls ≤ s.calls + ticks_price entries s.peripherals
  pub more : s.calls ≤ b.calls

pub begins-by : (entries : List TapeEntry) (s b : BusValue)
    → b ≡ record s { peripherals = done_clock (ticked entries s.peripherals); clock_open = true; tape_pos = b.tape_pos; event_at = b.event_at; lagging = b.lagging; until = b.until; calls = b.calls }
    → s.until ≤ b.until → b.calls ≤ s.calls + ticks_price entries s.peripherals → s.calls ≤ b.calls → Begins entries s b
begins-by entries s b value later paid more = record {
  peripherals = ap (λ (k : BusValue). k.peripherals) value;
  clock_open = ap (λ (k : BusValue). k.clock_open) value;
  rooms = ap (λ (k : BusValue). k.rooms) value;
  until = later;
  calls = paid;
  more = more;
}

pub in_clock-open : (entries : List TapeEntry) (s b : BusValue) → Begins entries s b → in_clock entries b.clock_open b.peripherals ≡ ticked entries s.peripherals
unfolding in_clock
in_clock-open entries s b h =
    let w = ticked entries s.peripherals in
    let e : w.clock + 1 - 1 ≡ w.clock = omega arith in
    rw (h.clock_open, h.peripherals) (ap (λ n. at_clock n w) e)

started-other : (q : Sequence) (b : Board) → q ≢ Reset → started q b ≡ b
started-other Opcode b other = refl
started-other Interrupt b other = refl
started-other Reset b other = absurd (other refl)

reset_count-other : (q : Sequence) → q ≢ Reset → reset_count q ≡ 0
reset_count-other Opcode other = refl
reset_count-other Interrupt other = refl
reset_count-other Reset other = absurd (other refl)

-- the first clock of an instruction or an interrupt
pub fetch-first : (entries : List TapeEntry) (c : CpuValue) (q : Sequence) (s b m : BusValue) (v : ℕ) (x : Access) → c.mid ≡ None
    → Begins entries s b → q ≡ sequence_due c b.peripherals → q ≢ Reset → IsAccess (next_of (start_of q c) q []) v x → BusStep entries x b m
    → First entries (record { cpu = c; peripherals = s.peripherals }) (start_of q c) q (v ∷ []) s m
fetch-first entries c q s b m v x boundary begins due other is did =
    let w = ticked entries s.peripherals in
    let due_then : q ≡ sequence_due c w = due ∙ ap (sequence_due c) begins.peripherals ∙ due-clock c w in
    let clock = in_clock-open entries s b begins in
    let stays = stays-of entries x b m did in
    let none : (if b.clock_open then 0 else ticks_price entries b.peripherals) ≡ 0 = rw begins.clock_open refl in
    let whole = price-fetch entries c s.peripherals q v x boundary due_then is in
    let no_reset = reset_count-other q other in
    record {
      step =
          step-fetch entries c s.peripherals boundary
          ∙ ap (λ (p : Sequence). clocked (started p (accessed (start_of p c) p [] w))) (sym due_then)
          ∙ ap clocked (started-other q (accessed (start_of q c) q [] w) other)
          ∙ ap (λ (k : Peripherals). clocked (accessed (start_of q c) q [] k)) (sym clock)
          ∙ accessed-is entries (start_of q c) q [] v x b m is did;
      paid = omega arith;
      goes = record { more = omega arith; rooms = stays.rooms ∙ begins.rooms; until = omega arith; between = stays.clock_open };
    }

-- where a resume begins
step-resume : (entries : List TapeEntry) (c : CpuValue) (m : MidValue) (w : Peripherals) → c.mid ≡ Some m
    → step entries (record { cpu = c; peripherals = w }) ≡ clocked (accessed (registers_of c) m.sequence (given_by m) (ticked entries w))
unfolding step
step-resume entries c m w inside = rw inside refl

price-resume : (entries : List TapeEntry) (c : CpuValue) (m : MidValue) (w : Peripherals) (v : ℕ) (x : Access) → c.mid ≡ Some m
    → IsAccess (next_of (registers_of c) m.sequence (given_by m)) v x
    → price entries (record { cpu = c; peripherals = w }) ≡ 2 * from_bool (reaches_device x) + ticks_price entries w
unfolding price access_in
price-resume entries c m w v x inside is =
    let u = ticked entries w in
    let same : device_access (made_by (next_of (registers_of c) m.sequence (given_by m)) u) ≡ from_bool (reaches_device x) =
    sym (same-access (next_of (registers_of c) m.sequence (given_by m)) v x u is) in
    ap (λ (mid : Option MidValue). 2 * device_access (due_access mid c u) + 5 * begins_reset mid c u + ticks_price entries w) inside
    ∙ ap (λ n. 2 * n + 0 + ticks_price entries w) same
    ∙ (let e : 2 * from_bool (reaches_device x) + 0 + ticks_price entries w ≡ 2 * from_bool (reaches_device x) + ticks_price entries w = omega arith in e)

-- the first clock of what is left of a sequence
pub resume-first : (entries : List TapeEntry) (c : CpuValue) (m : MidValue) (s t : BusValue) (v : ℕ) (x : Access) → c.mid ≡ Some m
    → s.clock_open ≡ false → IsAccess (next_of (registers_of c) m.sequence (given_by m)) v x → BusStep entries x s t
    → First entries (record { cpu = c; peripherals = s.peripherals }) (registers_of c) m.sequence (given_by m ++ v ∷ []) s t
resume-first entries c m s t v x inside between is did =
    let stays = stays-of entries x s t did in
    let here : (if s.clock_open then 0 else ticks_price entries s.peripherals) ≡ ticks_price entries s.peripherals = rw between refl in
    let whole = price-resume entries c m s.peripherals v x inside is in
    record {
      step =
          step-resume entries c m s.peripherals inside
          ∙ ap (λ (w : Peripherals). clocked (accessed (registers_of c) m.sequence (given_by m) w)) (sym (in_clock-between entries s between))
          ∙ accessed-is entries (registers_of c) m.sequence (given_by m) v x s t is did;
      paid = omega arith;
      goes = record { more = stays.more; rooms = stays.rooms; until = stays.until; between = stays.clock_open };
    }

-- a reset begins with a read, which doesn't change the peripherals
reset-read : (r : RegistersValue) (w : Peripherals) → (accessed r Reset [] w).peripherals ≡ w
unfolding accessed next_of
reset-read r w = refl

reset_started-clock : (w : Peripherals) → (reset_started w).clock ≡ w.clock
unfolding reset_started
reset_started-clock w = reset_by-clock w.divider.pending w

-- the first clock of a reset: its read, and then its effects
pub reset-first : (entries : List TapeEntry) (c : CpuValue) (s b m n : BusValue) (v : ℕ) (x : Access) → c.mid ≡ None
    → Begins entries s b → Reset ≡ sequence_due c b.peripherals → IsAccess (next_of (start_of Reset c) Reset []) v x → BusStep entries x b m
    → n.peripherals ≡ at_clock m.peripherals.clock (reset_started (at_clock (m.peripherals.clock - 1) m.peripherals)) → n.calls ≤ m.calls + 4 → Goes m n
    → First entries (record { cpu = c; peripherals = s.peripherals }) (start_of Reset c) Reset (v ∷ []) s n
reset-first entries c s b m n v x boundary begins due is did effects few goes =
    let w = ticked entries s.peripherals in
    let r = start_of Reset c in
    let due_then : Reset ≡ sequence_due c w = due ∙ ap (sequence_due c) begins.peripherals ∙ due-clock c w in
    let clock = in_clock-open entries s b begins in
    let first : clocked (accessed r Reset [] w) ≡ board_after r Reset (v ∷ []) m.peripherals =
    ap (λ (k : Peripherals). clocked (accessed r Reset [] k)) (sym clock) ∙ accessed-is entries r Reset [] v x b m is did in
    let cpu : (accessed r Reset [] w).cpu ≡ standing r Reset (v ∷ []) = ap (λ (k : Board). k.cpu) first in
    let read : m.peripherals ≡ done_clock w =
    sym (ap (λ (k : Board). k.peripherals) first) ∙ ap done_clock (reset-read r w) in
    let back : w.clock + 1 - 1 ≡ w.clock = omega arith in
    let peripherals : n.peripherals ≡ at_clock (w.clock + 1) (reset_started w) =
    effects
    ∙ ap (λ (k : Peripherals). at_clock k.clock (reset_started (at_clock (k.clock - 1) k))) read
    ∙ ap (λ t. at_clock (w.clock + 1) (reset_started (at_clock t w))) back in
    let stays = stays-of entries x b m did in
    let none : (if b.clock_open then 0 else ticks_price entries b.peripherals) ≡ 0 = rw begins.clock_open refl in
    let whole = price-fetch entries c s.peripherals Reset v x boundary due_then is in
    record {
      step =
          step-fetch entries c s.peripherals boundary
          ∙ ap (λ (p : Sequence). clocked (started p (accessed (start_of p c) p [] w))) (sym due_then)
          ∙ ap (λ (k : CpuValue).
          let d : Board = record { cpu = k; peripherals = at_clock ((reset_started (accessed r Reset [] w).peripherals).clock + 1) (reset_started (accessed r Reset [] w).peripherals) } in d)
          cpu
          ∙ ap (λ (u : Peripherals). let d : Board = record { cpu = standing r Reset (v ∷ []); peripherals = at_clock ((reset_started u).clock + 1) (reset_started u) } in d) (reset-read r w)
          ∙ ap (λ t. let d : Board = record { cpu = standing r Reset (v ∷ []); peripherals = at_clock (t + 1) (reset_started w) } in d) (reset_started-clock w)
          ∙ ap (λ (u : Peripherals). board_after r Reset (v ∷ []) u) (sym peripherals);
      paid = omega arith;
      goes = record { more = omega arith; rooms = goes.rooms ∙ stays.rooms ∙ begins.rooms; until = omega arith; between = goes.between };
    }

clocks-back : (entries : List TapeEntry) (clocks : ℕ) (c : CpuValue) (s t : BusValue) (e : CpuValue) → 1 ≤ clocks
    → TurnedBus entries (clocks - 1 + 1) c s t e → TurnedBus entries clocks c s t e
clocks-back entries clocks c s t e some turned =
    let same : clocks - 1 + 1 ≡ clocks = omega arith in
    subst (λ n. TurnedBus entries n c s t e) same turned

none-inside : (mid : Option MidValue) → mid ≡ None → IsSome mid → 1 ≤ 0
none-inside None e some = cc
none-inside (Some m) e some = cc

-- an instruction or an interrupt is a turn
pub fetch-turn : (entries : List TapeEntry) (c : CpuValue) (q : Sequence) (clocks made : ℕ) (s b t : BusValue) (e : CpuValue) → c.mid ≡ None
    → Begins entries s b → q ≡ sequence_due c b.peripherals → q ≢ Reset → 1 ≤ clocks
    → Advances (BusStep entries) (start_of q c) q [] clocks made b t e → TurnedBus entries clocks c s t e
fetch-turn entries c q clocks made s b t e boundary begins due other some advances =
    let p = part entries (start_of q c) q [] clocks made b t e some (next-first (start_of q c) q) advances in
    let first = fetch-first entries c q s b p.then_s p.value p.access boundary begins due other p.is p.did in
    clocks-back entries clocks c s t e some
    (turn-bus entries c (start_of q c) q (p.value ∷ []) 0 (clocks - 1) (made - 1) s p.then_s t e first (none-inside c.mid boundary) refl (omega arith) p.rest)

-- a reset is a turn
pub reset-turn : (entries : List TapeEntry) (c : CpuValue) (clocks : ℕ) (s b t : BusValue) (e : CpuValue) → c.mid ≡ None
    → Begins entries s b → Reset ≡ sequence_due c b.peripherals → 1 ≤ clocks → Resets entries c clocks b t e → TurnedBus entries clocks c s t e
reset-turn entries c clocks s b t e boundary begins due some resets = by_moves resets.moves
  where
    by_moves : Moves (BusStep entries) (start_of Reset c) Reset [] (resets.value ∷ []) b resets.read → TurnedBus entries clocks c s t e
    by_moves (x, m, is, did, same) =
        let did_read : BusStep entries x b resets.read = subst (λ (k : BusValue). BusStep entries x b k) (sym same) did in
        let first = reset-first entries c s b resets.read resets.taken resets.value x boundary begins due is did_read resets.effects resets.calls resets.goes in
        clocks-back entries clocks c s t e some
        (turn-bus entries c (start_of Reset c) Reset (resets.value ∷ []) 0 (clocks - 1) resets.made s resets.taken t e first (none-inside c.mid boundary) refl (omega arith) resets.rest)

pub given-some : (m : MidValue) → 1 ≤ m.count → m.count ≤ 6 → length m.bytes ≡ 6 → length (given_by m) ≡ m.count
given-some m some short six = length-take-le m.count m.bytes (omega arith)

-- what is left of a sequence is a turn
pub resume-turn : (entries : List TapeEntry) (c : CpuValue) (m : MidValue) (clocks made : ℕ) (s t : BusValue) (e : CpuValue) → c.mid ≡ Some m
    → IfSome c.mid (λ _. IsMiddle c) → length m.bytes ≡ 6 → s.clock_open ≡ false → 1 ≤ clocks
    → IfSome c.mid (λ m. Advances (BusStep entries) (registers_of c) m.sequence (given_by m) clocks made s t e) → TurnedBus entries clocks c s t e
resume-turn entries c m clocks made s t e inside middle six between some advances =
    let place : IsPlace (registers_of c) m = (rw inside at middle).1 in
    let advanced : Advances (BusStep entries) (registers_of c) m.sequence (given_by m) clocks made s t e = rw inside at advances in
    let count = given-some m place.started place.short six in
    let p = part entries (registers_of c) m.sequence (given_by m) clocks made s t e some (place_due (registers_of c) m place) advanced in
    let longer : length (given_by m ++ p.value ∷ []) ≡ length (given_by m) + 1 = length-append (given_by m) (p.value ∷ []) in
    let first = resume-first entries c m s p.then_s p.value p.access inside between p.is p.did in
    clocks-back entries clocks c s t e some
    (turn-bus entries c (registers_of c) m.sequence (given_by m ++ p.value ∷ []) (length (given_by m)) (clocks - 1) (made - 1) s p.then_s t e first
    (λ _. omega arith) (omega arith) (omega arith) p.rest)

-- a whole sequence is an advance by seven clocks
pub runs-advance : (entries : List TapeEntry) (r : RegistersValue) (q : Sequence) (s t : BusValue) (e : CpuValue) → Runs (BusStep entries) r q s t e
    → e.mid ≡ None → (made : ℕ) × Advances (BusStep entries) r q [] 7 made s t e
runs-advance entries r q s t e runs boundary =
    let end : IsEnd (next_of r q runs.bytes) = rw runs.ends tt in
    let few = moves-length entries r q [] runs.bytes s t runs.moves (omega arith) in (
      length runs.bytes,
      record {
        more = runs.bytes;
        moves = runs.moves;
        count = refl;
        few = omega arith;
        full = λ due. absurd (due end);
        stands = sym (ap (stopped r q runs.bytes) runs.ends);
        complete = (λ _. end, λ _. boundary);
      },
    )

-- a reset after its read
pub record ResetStarted (entries : List TapeEntry) (c : CpuValue) (s m : BusValue) (k : CpuValue) : Type 0 where
  pub value : ℕ
  pub moves : Moves (BusStep entries) (start_of Reset c) Reset [] (value ∷ []) s m
  pub stands : k ≡ paused (start_of Reset c) Reset (value ∷ [])
  pub clock : 1 ≤ m.peripherals.clock
  pub between : m.clock_open ≡ false

pub clock-some : (entries : List TapeEntry) (x : Access) (s t : BusValue) → BusStep entries x s t → 1 ≤ t.peripherals.clock
clock-some entries (read_of a v) s t b = let e = ap (λ (w : Peripherals). w.clock) b.1 in omega arith
clock-some entries (write_of a v) s t b = let e = ap (λ (w : Peripherals). w.clock) b.0 in omega arith

pub standing-paused : (r : RegistersValue) (v : ℕ) → standing r Reset (v ∷ []) ≡ paused r Reset (v ∷ [])
unfolding next_of
standing-paused r v = refl

pub reset-started : (entries : List TapeEntry) (c : CpuValue) (s m : BusValue) (k : CpuValue)
    → ((made : ℕ) × Advances (BusStep entries) (start_of Reset c) Reset [] 1 made s m k) → ResetStarted entries c s m k
reset-started entries c s m k (made, a) = by_more a.more a.moves a.count a.full a.stands
  where
    by_more : (more : List ℕ) → Moves (BusStep entries) (start_of Reset c) Reset [] more s m → length more ≡ made
        → ((IsEnd (next_of (start_of Reset c) Reset more) → ⊥) → made ≡ 1) → k ≡ standing (start_of Reset c) Reset more
        → ResetStarted entries c s m k
    by_more [] moves count full stands =
        let one : made ≡ 1 = full (next-first (start_of Reset c) Reset) in
        absurd (omega arith)
    by_more (v ∷ []) (x, n, is, did, same) count full stands = record {
      value = v;
      moves = (x, n, is, did, same);
      stands = stands ∙ standing-paused (start_of Reset c) v;
      clock = (let e = ap (λ (b : BusValue). b.peripherals.clock) same in let h = clock-some entries x s n did in omega arith);
      between = ap (λ (b : BusValue). b.clock_open) same ∙ (stays-of entries x s n did).clock_open;
    }
    by_more (v ∷ (u ∷ more)) moves count full stands = let few = a.few in absurd (omega arith)

-- the effects of a reset, over a bus
pub record HasEffects (m n : BusValue) : Type 0 where
  pub peripherals : n.peripherals ≡ at_clock m.peripherals.clock (reset_started (at_clock (m.peripherals.clock - 1) m.peripherals))
  pub calls : n.calls ≤ m.calls + 4
  pub more : m.calls ≤ n.calls
  pub rooms : n.rooms ≡ m.rooms
  pub until : m.until ≤ n.until
  pub between : n.clock_open ≡ m.clock_open

pub effects-by : (m n : BusValue) → Does m n (at_clock m.peripherals.clock (reset_started (at_clock (m.peripherals.clock - 1) m.peripherals))) 4 → HasEffects m n
effects-by m n does = record {
  peripherals = ap (λ (b : BusValue). b.peripherals) does.value;
  calls = does.calls;
  more = does.more;
  rooms = ap (λ (b : BusValue). b.rooms) does.value;
  until = does.until;
  between = ap (λ (b : BusValue). b.clock_open) does.value;
}

paused-due : (r : RegistersValue) (v : ℕ) → IsEnd (next_of r Reset (v ∷ [])) → ⊥
unfolding next_of
paused-due r v end = end

-- a reset that has one clock
pub resets-one : (entries : List TapeEntry) (c : CpuValue) (clocks : ℕ) (s m n : BusValue) (k : CpuValue) → clocks ≡ 1
    → ResetStarted entries c s m k → HasEffects m n → Resets entries c clocks s n k
resets-one entries c clocks s m n k one b h =
    let r = start_of Reset c in
    record {
      value = b.value;
      read = m;
      moves = b.moves;
      taken = n;
      effects = h.peripherals;
      calls = h.calls;
      goes = record { more = h.more; rooms = h.rooms; until = h.until; between = h.between ∙ b.between };
      made = 0;
      rest = record {
        more = [];
        moves = refl;
        count = refl;
        few = omega arith;
        full = λ _. omega arith;
        stands = b.stands ∙ sym (standing-paused r b.value);
        complete = (
          λ none. absurd (some-none k.mid (ap (λ (j : CpuValue). j.mid) b.stands) none),
          λ end. absurd (paused-due r b.value end),
        );
      };
    }
  where
    some-none : (mid : Option MidValue) → mid ≡ (paused (start_of Reset c) Reset (b.value ∷ [])).mid → mid ≡ None → ⊥
    some-none None is none = cc
    some-none (Some p) is none = cc

-- the processor is inside the reset
pub reset-inside : (entries : List TapeEntry) (c : CpuValue) (s m : BusValue) (k : CpuValue) → ResetStarted entries c s m k → IsSome k.mid
reset-inside entries c s m k b = rw b.stands (search rules)

-- a reset that goes on
pub resets-more : (entries : List TapeEntry) (c : CpuValue) (clocks made : ℕ) (s m n t : BusValue) (k e : CpuValue)
    → ResetStarted entries c s m k → HasEffects m n
    → IfSome k.mid (λ p. Advances (BusStep entries) (registers_of k) p.sequence (given_by p) (clocks - 1) made n t e)
    → Resets entries c clocks s t e
resets-more entries c clocks made s m n t k e b h advances = record {
  value = b.value;
  read = m;
  moves = b.moves;
  taken = n;
  effects = h.peripherals;
  calls = h.calls;
  goes = record { more = h.more; rooms = h.rooms; until = h.until; between = h.between ∙ b.between };
  made = made;
  rest = subst (λ (j : CpuValue). IfSome j.mid (λ p. Advances (BusStep entries) (registers_of j) p.sequence (given_by p) (clocks - 1) made n t e)) b.stands advances;
}

-- an instruction in whose first clock no event is due
pub opcode-first : (entries : List TapeEntry) (c : CpuValue) (s m : BusValue) (v : ℕ) (x : Access) → c.mid ≡ None → s.clock_open ≡ false
    → Opcode ≡ sequence_due c (ticked entries s.peripherals) → IsAccess (next_of (start_of Opcode c) Opcode []) v x → BusStep entries x s m
    → First entries (record { cpu = c; peripherals = s.peripherals }) (start_of Opcode c) Opcode (v ∷ []) s m
opcode-first entries c s m v x boundary between due is did =
    let w = ticked entries s.peripherals in
    let stays = stays-of entries x s m did in
    let here : (if s.clock_open then 0 else ticks_price entries s.peripherals) ≡ ticks_price entries s.peripherals = rw between refl in
    let whole = price-fetch entries c s.peripherals Opcode v x boundary due is in
    record {
      step =
          step-fetch entries c s.peripherals boundary
          ∙ ap (λ (p : Sequence). clocked (started p (accessed (start_of p c) p [] w))) (sym due)
          ∙ ap (λ (k : Peripherals). clocked (accessed (start_of Opcode c) Opcode [] k)) (sym (in_clock-between entries s between))
          ∙ accessed-is entries (start_of Opcode c) Opcode [] v x s m is did;
      paid = omega arith;
      goes = record { more = stays.more; rooms = stays.rooms; until = stays.until; between = stays.clock_open };
    }

-- is a turn
pub opcode-turn : (tape : TapeValue) (c : CpuValue) (s t : BusValue) (e : CpuValue) → ReadsOpcode c s
    → s.clock_open ≡ false → Accepts tape s → Runs (BusStep tape.entries) (registers_of c) Opcode s t e → e.mid ≡ None
    → TurnedBus tape.entries 7 c s t e
opcode-turn tape c s t e reads between accepts runs boundary =
    let entries = tape.entries in
    let due : Opcode ≡ sequence_due c (ticked entries s.peripherals) =
    sym (ap (sequence_due c) (ticked-quiet tape s accepts reads.no_event) ∙ reads.due) in
    let a = runs-advance entries (registers_of c) Opcode s t e runs boundary in
    let p = part entries (registers_of c) Opcode [] 7 a.0 s t e (omega arith) (next-first (registers_of c) Opcode) a.1 in
    let first = opcode-first entries c s p.then_s p.value p.access reads.boundary between due p.is p.did in
    turn-bus entries c (registers_of c) Opcode (p.value ∷ []) 0 6 (a.0 - 1) s p.then_s t e first (none-inside c.mid reads.boundary) refl (omega arith) p.rest
