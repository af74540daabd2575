-- Which entries of a tape a clock has, by the place up to which they are past.
use Rattle.std.proofs.Common.{◌≡◌, ℕ, ◌+◌, ◌-◌, ◌*◌, ◌<◌, ◌≤◌, true, false, cond, ltb, List, [], ◌∷◌, length, get_or, take, drop, Option, Some, None, zero, suc, refl, sym, ap, ◌∙◌, arith}
use Rattle.std.specs.List.{All, slice_range}
use Rattle.std.proofs.lemmas.Bool.{lt-ltb, le-ltb}
use Rattle.std.proofs.lemmas.List.{length-take-le, length-drop, get_or-drop, get_or_default}
use Rattle.std.proofs.Math.Seq.{take-length}
use Rattle.std.proofs.lemmas.List.Elements.{All-drop, All-take}
use Rattle.std.proofs.lemmas.List.Sums.{sum_by-take-drop}
use Rattle.tape_ports.proofs.Places.{count_by-all, count_by-none}
use Rattle.tape_ports.proofs.DueLaws.{due_at-rising}
use Rattle.tape_ports.specs.declared.entry.Port.{Port}
use Rattle.tape_ports.specs.declared.entry.Port.TheVariants as port
use Rattle.tape_ports.specs.declared.entry.TapeEntry.{TapeEntry}
use Rattle.tape_ports.specs.Due.{due_at}
use Rattle.tape_ports.specs.Ports.{IsPort}
use Rattle.tape_ports.specs.Tape.{TapeValue, IsTape, count_before}
use Rattle.catchup_engine.specs.Events.{next_event_of}
use Rattle.lockstep_board.specs.Peripherals.{Peripherals, applied, devices_ticked, port_set, ticked}
use Rattle.catchup_engine.specs.Bus.{Accepts, BusValue, ComesNext, Does, IsTapePlace}

-- where the entries before a place are before a clock and the others aren't, that place is their
-- number
count-at : (t n : ℕ) (es : List TapeEntry) → n ≤ length es → All (λ e. e.clock < t) (take n es) → All (λ e. t ≤ e.clock) (drop n es)
    → count_before t es ≡ n
count-at t n es within before from =
    let pass : All (λ (e : TapeEntry). ltb e.clock t ≡ true) (take n es) = λ k d inside. lt-ltb (get_or (take n es) k d).clock t (before k d inside) in
    let fail : All (λ (e : TapeEntry). ltb e.clock t ≡ false) (drop n es) = λ k d inside. le-ltb (get_or (drop n es) k d).clock t (from k d inside) in
    omega (
      arith,
      sum_by-take-drop (λ (e : TapeEntry). cond (ltb e.clock t) 1 0) es n,
      count_by-all (λ (e : TapeEntry). ltb e.clock t) (take n es) pass,
      count_by-none (λ (e : TapeEntry). ltb e.clock t) (drop n es) fail,
      length-take-le n es within,
    )

-- the entries due at the bus's clock are those from the place of this clock to that of the next
pub due-between : (tape : TapeValue) (clock tape_pos after : ℕ) → IsTape tape → IsTapePlace tape clock tape_pos → IsTapePlace tape (clock + 1) after
    → due_at clock tape.entries ≡ slice_range tape.entries tape_pos after
due-between tape clock tape_pos after valid here then =
    due_at-rising clock tape.entries valid.rising
    ∙ ap (λ n. slice_range tape.entries n (count_before (clock + 1) tape.entries))
    (count-at clock tape_pos tape.entries here.within here.before here.from)
    ∙ ap (λ n. slice_range tape.entries tape_pos n) (count-at (clock + 1) after tape.entries then.within then.before then.from)

slice_none : (n : ℕ) (es : List TapeEntry) → slice_range es n n ≡ []
slice_none n es = let e : n - n ≡ 0 = omega arith in rw e refl

-- before the next event the place stays
pub place-stays : (tape : TapeValue) (s : BusValue) → Accepts tape s → s.peripherals.clock < s.event_at → IsTapePlace tape (s.peripherals.clock + 1) s.tape_pos
place-stays tape s f h = record {
  within = f.place.within;
  before = λ k d inside. (let a = f.place.before k d inside in omega arith);
  from = λ k d inside. (let a = f.no_event k d inside in omega arith);
}

-- and no entry is due
pub none-due : (tape : TapeValue) (s : BusValue) → Accepts tape s → s.peripherals.clock < s.event_at → due_at s.peripherals.clock tape.entries ≡ []
none-due tape s f h =
    due-between tape s.peripherals.clock s.tape_pos s.tape_pos f.valid f.place (place-stays tape s f h) ∙ slice_none s.tape_pos tape.entries

-- the place of the next clock isn't before that of this one
pub place-rises : (tape : TapeValue) (clock tape_pos after : ℕ) → IsTapePlace tape clock tape_pos → IsTapePlace tape (clock + 1) after → tape_pos ≤ after
place-rises tape clock tape_pos after here then = by_order tape_pos after tape.entries here.before then.from here.within
  where
    by_order : (n m : ℕ) (es : List TapeEntry) → All (λ (e : TapeEntry). e.clock < clock) (take n es)
        → All (λ (e : TapeEntry). clock + 1 ≤ e.clock) (drop m es) → n ≤ length es → n ≤ m
    by_order zero m es before later within = omega arith
    by_order (suc n) zero [] before later within = absurd (omega arith)
    by_order (suc n) zero (e ∷ es) before later within =
        let a : e.clock < clock = before 0 e (omega arith) in
        let b : clock + 1 ≤ e.clock = later 0 e (omega arith) in
        absurd (omega arith)
    by_order (suc n) (suc m) [] before later within = absurd (omega arith)
    by_order (suc n) (suc m) (e ∷ es) before later within =
        let rest : n ≤ m = by_order n m es (λ k d inside. before (suc k) d (omega arith)) later (omega arith) in
        omega arith

-- entries between two places set ports that there are
pub ports-between : (tape : TapeValue) (n m : ℕ) → IsTape tape → All (λ (e : TapeEntry). IsPort e.port) (slice_range tape.entries n m)
ports-between tape n m valid =
    All-take (λ (e : TapeEntry). IsPort e.port) (m - n) (drop n tape.entries) (All-drop (λ (e : TapeEntry). IsPort e.port) n tape.entries valid.ports)

-- what entries leave as it is
port_set-clock : (p : Port) (value : ℕ) (w : Peripherals) → (port_set p value w).clock ≡ w.clock
port_set-clock port.In0 value w = refl
port_set-clock port.In3 value w = refl
port_set-clock port.In4 value w = refl
port_set-clock (port.Pot1 which) value w = refl
port_set-clock (port.Pot2 which) value w = refl

pub applied-clock : (es : List TapeEntry) (w : Peripherals) → (applied es w).clock ≡ w.clock
unfolding applied
applied-clock [] w = refl
applied-clock (e ∷ es) w = applied-clock es (port_set e.port e.value w) ∙ port_set-clock e.port e.value w

-- one entry more
pub applied-more : (k : ℕ) (es : List TapeEntry) (d : TapeEntry) (w : Peripherals) → k < length es
    → applied (take (suc k) es) w ≡ port_set (get_or es k d).port (get_or es k d).value (applied (take k es) w)
unfolding applied
applied-more zero [] d w h = absurd (omega arith)
applied-more zero (e ∷ es) d w h = refl
applied-more (suc k) [] d w h = absurd (omega arith)
applied-more (suc k) (e ∷ es) d w h = applied-more k es d (port_set e.port e.value w) (omega arith)

-- what is due at a clock, in one
pub record Due (tape : TapeValue) (clock tape_pos after : ℕ) : Type 0 where
  pub order : tape_pos ≤ after
  pub due : slice_range tape.entries tape_pos after ≡ due_at clock tape.entries
  pub ports : All (λ (e : TapeEntry). IsPort e.port) (slice_range tape.entries tape_pos after)

pub due-entries : (tape : TapeValue) (clock tape_pos after : ℕ) → IsTape tape → IsTapePlace tape clock tape_pos → IsTapePlace tape (clock + 1) after
    → Due tape clock tape_pos after
due-entries tape clock tape_pos after valid here then = record {
  order = place-rises tape clock tape_pos after here then;
  due = sym (due-between tape clock tape_pos after valid here then);
  ports = ports-between tape tape_pos after valid;
}

pub ruleset due_entries = due-entries

-- the first k entries are applied
pub record HasApplied (es : List TapeEntry) (k : ℕ) (start now : BusValue) : Type 0 where
  pub value : now ≡ record start { peripherals = applied (take k es) start.peripherals; lagging = now.lagging; until = now.until; calls = now.calls }
  pub until : start.until ≤ now.until
  pub calls : now.calls ≤ start.calls + 5 * k
  pub more : start.calls ≤ now.calls

pub none-applied : (es : List TapeEntry) (start : BusValue) → HasApplied es 0 start start
unfolding applied
none-applied es start = record { value = refl; until = omega arith; calls = omega arith; more = omega arith }

pub one-applied : (es : List TapeEntry) (k : ℕ) (d : TapeEntry) (start now next : BusValue) → k < length es → HasApplied es k start now
    → Does now next (port_set (get_or es k d).port (get_or es k d).value now.peripherals) 2 → HasApplied es (k + 1) start next
one-applied es k d start now next inside h does =
    let e : k + 1 ≡ suc k = omega arith in
    let peripherals : port_set (get_or es k d).port (get_or es k d).value now.peripherals ≡ applied (take (k + 1) es) start.peripherals =
    ap (λ (b : BusValue). port_set (get_or es k d).port (get_or es k d).value b.peripherals) h.value
    ∙ sym (ap (λ n. applied (take n es) start.peripherals) e ∙ applied-more k es d start.peripherals inside) in
    record {
      value =
          does.value
          ∙ ap (λ (w : Peripherals). let r : BusValue = record now { peripherals = w; lagging = next.lagging; until = next.until; calls = next.calls } in r) peripherals
          ∙ ap (λ (b : BusValue).
          let r : BusValue = record b { peripherals = applied (take (k + 1) es) start.peripherals; lagging = next.lagging; until = next.until; calls = next.calls } in r)
          h.value;
      until = omega arith;
      calls = omega arith;
      more = omega arith;
    }

pub all-applied : (es : List TapeEntry) (k : ℕ) (start now : BusValue) → k ≤ length es → length es ≤ k → HasApplied es k start now
    → now ≡ record start { peripherals = applied es start.peripherals; lagging = now.lagging; until = now.until; calls = now.calls }
all-applied es k start now h g has =
    let e : k ≡ length es = omega arith in
    has.value ∙ ap (λ (xs : List TapeEntry). let r : BusValue = record start { peripherals = applied xs start.peripherals; lagging = now.lagging; until = now.until; calls = now.calls } in r)
    (ap (λ n. take n es) e ∙ take-length es)

-- no entry after a place has an earlier clock
pub rises-from : (tape : TapeValue) → IsTape tape → (tape_pos k : ℕ) (d e : TapeEntry) → k < length (drop tape_pos tape.entries)
    → (get_or tape.entries tape_pos e).clock ≤ (get_or (drop tape_pos tape.entries) k d).clock
rises-from tape valid tape_pos k d e inside =
    let within : tape_pos + k < length tape.entries = omega (arith, length-drop tape_pos tape.entries) in
    let up : (get_or tape.entries tape_pos e).clock ≤ (get_or tape.entries (tape_pos + k) e).clock = valid.rising tape_pos (tape_pos + k) e (omega arith) within in
    let same : get_or (drop tape_pos tape.entries) k d ≡ get_or tape.entries (tape_pos + k) e =
    get_or-drop tape_pos tape.entries k d ∙ get_or_default tape.entries (tape_pos + k) d e within in
    rw (ap (λ (t : TapeEntry). t.clock) same) up

-- the same for the entry as it was read
pub rises-read : (tape : TapeValue) → IsTape tape → (tape_pos k : ℕ) (d e : TapeEntry) (es : List TapeEntry) → k < length (drop tape_pos tape.entries)
    → es ≡ tape.entries → (get_or es tape_pos e).clock ≤ (get_or (drop tape_pos tape.entries) k d).clock
rises-read tape valid tape_pos k d e es inside same =
    rw (ap (λ (xs : List TapeEntry). (get_or xs tape_pos e).clock) same) (rises-from tape valid tape_pos k d e inside)

-- a clock in which no event is due has its devices' ticks alone
pub ticked-quiet : (tape : TapeValue) (s : BusValue) → Accepts tape s → s.peripherals.clock < s.event_at → ticked tape.entries s.peripherals ≡ devices_ticked s.peripherals
unfolding ticked applied
ticked-quiet tape s f h = ap (λ (es : List TapeEntry). devices_ticked (applied es s.peripherals)) (none-due tape s f h)

-- the bus accepts its tape after such a clock too
pub fits-quiet : (tape : TapeValue) (s t : BusValue) → Accepts tape s → s.peripherals.clock < s.event_at → t.peripherals.clock ≡ s.peripherals.clock + 1 → t.tape_pos ≡ s.tape_pos
    → t.event_at ≡ s.event_at → Accepts tape t
fits-quiet tape s t f h clock tape_pos event = record {
  valid = f.valid;
  place = rw (clock, tape_pos) (place-stays tape s f h);
  no_event = rw (event, tape_pos) f.no_event;
}

-- the sooner of a wrap and the next entry isn't later than the wrap
pub sooner-wrap : (wrap : ℕ) (entry : Option ℕ) → next_event_of wrap entry ≤ wrap
unfolding next_event_of
sooner-wrap wrap None = omega arith
sooner-wrap wrap (Some e) = omega arith

-- nor than any entry
pub sooner-entries : (tape : TapeValue) (tape_pos wrap at : ℕ) (entry : Option ℕ) → at ≡ next_event_of wrap entry → ComesNext tape tape_pos entry
    → All (λ (e : TapeEntry). at ≤ e.clock) (drop tape_pos tape.entries)
unfolding next_event_of
sooner-entries tape tape_pos wrap at None is none = λ k d inside. absurd (let e = ap (λ (es : List TapeEntry). length es) none in omega arith)
sooner-entries tape tape_pos wrap at (Some first) is later = λ k d inside. let h = later k d inside in omega arith

pub ruleset comes = (sooner-wrap, sooner-entries)
