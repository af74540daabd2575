-- Clocks in which no event is due.
use Rattle.std.proofs.Common.{◌≡◌, ℕ, ◌+◌, ◌-◌, ◌*◌, ◌≤◌, ◌<◌, Bool, true, false, ◌&&◌, ◌||◌, List, ◌++◌, length, refl, sym}
use Rattle.std.proofs.Common.{ap, ◌∙◌, append_assoc, append-nil, add-zero, arith, slice_index, slice_set, ◌==◌, zero, suc, if◌then◌else◌}
use Rattle.std.proofs.lemmas.Bool.Decides.{nat_tests}
use Rattle.std.specs.Int.{from_bool}
use Rattle.board_base.specs.Pokey.{PokeyValue}
use Rattle.board_base.specs.Ticks.{made, ticks, times}
use Rattle.board_base.proofs.TickLaws.{ticks-add, made-add, ticks-more, ticks-times, made-more, times-add, times-more}
use Rattle.pokey_chip.specs.Tick.{levels_made, pokey_gives, pokey_tick}
use Rattle.cpu_core.specs.BusCycles.{Access, read_of, write_of}
use Rattle.tape_ports.specs.Tape.{TapeValue}
use Rattle.board_map.specs.Map.{row_of}
use Rattle.catchup_engine.specs.declared.bus.TheConstants.{PROGRAM_START, MAX_SEQUENCE_CLOCKS}
use Rattle.lockstep_board.specs.Budget.{reaches_device}
use Rattle.catchup_engine.specs.Lags.{DeviceLags, all_lag, lagging_at}
use Rattle.catchup_devices.specs.Lags.{lags}
use Rattle.catchup_engine.specs.Bus.{Accepts, BusStep, BusValue, Does, Stays, at_clock, begin_price, done_clock, in_clock, room_of}
use Rattle.catchup_engine.specs.Quiet.{IsCounted, later, passed, quiet_room}
use Rattle.lockstep_board.specs.Peripherals.{Peripherals, byte_put, byte_read, devices_ticked, has_request}
use Rattle.catchup_engine.proofs.AccessLaws.{write-step}
use Rattle.catchup_engine.proofs.ClockLaws.{clock-back}
use Rattle.catchup_engine.proofs.DividerLaws.{irq-later}
use Rattle.catchup_engine.proofs.MapLaws.{program-byte, ram-byte, row-program, row-ram}
use Rattle.catchup_engine.proofs.TapeLaws.{fits-quiet, ticked-quiet}

module _ {S : Type 0} (tick : ℕ → S → S) where
  -- ticks up to a clock, and then as many more
  pub ticks-later : (from at n : ℕ) (s : S) → from ≤ at → ticks tick from (at + n - from) s ≡ ticks tick at n (ticks tick from (at - from) s)
  ticks-later from at n s h =
      let e : at + n - from ≡ (at - from) + n = omega arith in
      let f : from + (at - from) ≡ at = omega arith in
      rw (e, ticks-add tick from (at - from) n s, f) refl

module _ {S R : Type 0} (tick : ℕ → S → S) (gives : ℕ → S → List R) where
  pub made-later : (from at n : ℕ) (s : S) → from ≤ at
      → made tick gives from (at + n - from) s ≡ made tick gives from (at - from) s ++ made tick gives at n (ticks tick from (at - from) s)
  made-later from at n s h =
      let e : at + n - from ≡ (at - from) + n = omega arith in
      let f : from + (at - from) ≡ at = omega arith in
      rw (e, made-add tick gives from (at - from) n s, f) refl

module _ {S : Type 0} (tick : S → S) where
  pub times-later : (from at n : ℕ) (s : S) → from ≤ at → times tick (at + n - from) s ≡ times tick n (times tick (at - from) s)
  times-later from at n s h =
      let e : at + n - from ≡ (at - from) + n = omega arith in
      rw e (times-add tick (at - from) n s)

pub levels-later : (from at n : ℕ) (p : PokeyValue) → from ≤ at
    → levels_made from (at + n - from) p ≡ levels_made from (at - from) p ++ levels_made at n (times pokey_tick (at - from) p)
levels-later from at n p h =
    made-later (λ _. pokey_tick) pokey_gives from at n p h
    ∙ ap (λ (q : PokeyValue). levels_made from (at - from) p ++ levels_made at n q) (ticks-times pokey_tick from (at - from) p)

-- after one such clock at least each device lags
lags-all : (done clock n : ℕ) → done ≤ clock → lags done (clock + suc n) ≡ 1
lags-all done clock n h = grind (arith, nat_tests)

later-some : (n : ℕ) → (suc n == 0) ≡ false
later-some n = grind (arith, nat_tests)

-- the lags of five devices that were moved up to these clocks
abbrev lags_at : ℕ → ℕ → ℕ → ℕ → ℕ → ℕ → DeviceLags
lags_at a b c d e clock =
    record { vector = lags a clock; sound1 = lags b clock; sound2 = lags c clock; cells = lags d clock; divider = lags e clock }

pub lagging-later : (a b c d e clock n : ℕ) → a ≤ clock → b ≤ clock → c ≤ clock → d ≤ clock → e ≤ clock
    → lags_at a b c d e (clock + n) ≡ (if n == 0 then lags_at a b c d e clock else all_lag)
lagging-later a b c d e clock zero ha hb hc hd he = rw add-zero refl
lagging-later a b c d e clock (suc n) ha hb hc hd he = rw (lags-all, lags-all, lags-all, lags-all, lags-all, later-some) refl

-- a POKEY that was moved up to an earlier clock
pub requests-later : (from at n : ℕ) (p : PokeyValue) → from ≤ at
    → has_request (pokey_tick (times pokey_tick n (times pokey_tick (at - from) p))) ≡ has_request (pokey_tick (times pokey_tick (at + n - from) p))
requests-later from at n p h = ap (λ q. has_request (pokey_tick q)) (sym (times-later pokey_tick from at n p h))

-- the first of two doesn't assert the line
pub either-asks : (wired wired_too first second a b : Bool) → wired_too ≡ wired → a ≡ false → a ≡ (wired && first) → b ≡ (wired_too && second)
    → b ≡ (wired && (first || second))
either-asks false _ first second a b e f h k = rw e at k
either-asks true _ false second a b e f h k = rw e at k
either-asks true _ true second a b e f h k = cc

pub ruleset later_lines = (irq-later, requests-later)

pub ruleset later_devices = (ticks-later, made-later, times-later, append_assoc, lagging-later)

-- no clock doesn't change the peripherals
pub later-zero : (w : Peripherals) → later 0 w ≡ w
unfolding later ticks made
later-zero w = rw (add-zero, append-nil, append-nil, append-nil) refl

pub passed-zero : (s : BusValue) → passed 0 s ≡ s
unfolding passed
passed-zero s = ap (λ (w : Peripherals). let r : BusValue = record s { peripherals = w } in r) (later-zero s.peripherals)

pub ruleset none_later = later-zero

-- and one clock more has its devices' ticks
later-more : (n : ℕ) (w : Peripherals) → later (n + 1) w ≡ done_clock (devices_ticked (later n w))
unfolding later devices_ticked
later-more n w =
    let e : w.clock + (n + 1) ≡ w.clock + n + 1 = omega arith in
    rw e (simp (times-more, ticks-more, made-more, ticks-times, append_assoc))

passed-clock : (n : ℕ) (s : BusValue) → (passed n s).peripherals.clock ≡ s.peripherals.clock + n
unfolding passed later
passed-clock n s = refl

-- in a clock in which no event is due, an access finds the devices after their ticks
pub in-quiet : (tape : TapeValue) (n : ℕ) (s : BusValue) → IsCounted tape n s → s.peripherals.clock + n < s.event_at
    → in_clock tape.entries (passed n s).clock_open (passed n s).peripherals ≡ devices_ticked (later n s.peripherals)
unfolding passed in_clock
in-quiet tape n s c h = rw c.between (ticked-quiet tape (passed n s) c.accepts (rw (passed-clock n s) h))

-- and the clock is done after it
pub quiet-entered : (tape : TapeValue) (n : ℕ) (s : BusValue) → IsCounted tape n s → s.peripherals.clock + n < s.event_at
    → (passed (n + 1) s).peripherals ≡ done_clock (in_clock tape.entries (passed n s).clock_open (passed n s).peripherals)
unfolding passed
quiet-entered tape n s c h = later-more n s.peripherals ∙ ap done_clock (sym (in-quiet tape n s c h))

-- the bus with this in its RAM
abbrev with_ram : List ℕ → BusValue → BusValue
with_ram ram s = record s { peripherals = record s.peripherals { ram = ram } }

-- one more clock is counted, in which the RAM alone is written
counted-ram : (tape : TapeValue) (n : ℕ) (ram : List ℕ) (s : BusValue) → IsCounted tape n s → 1 ≤ quiet_room n s → IsCounted tape (n + 1) (with_ram ram s)
unfolding passed later
counted-ram tape n ram s c room = record {
  accepts = fits-quiet tape (passed n s) (passed (n + 1) (with_ram ram s)) c.accepts (omega arith) (omega arith) refl refl;
  between = c.between;
  no_event = omega arith;
  last = omega arith;
  until = omega arith;
}

pub counted-more : (tape : TapeValue) (n : ℕ) (s : BusValue) → IsCounted tape n s → 1 ≤ quiet_room n s → IsCounted tape (n + 1) s
counted-more tape n s c room = counted-ram tape n s.peripherals.ram s c room

-- one access of a bus that counts: n clocks were counted before it and k after it
pub record IsStep (tape : TapeValue) (x : Access) (n : ℕ) (s : BusValue) (k : ℕ) (t : BusValue) : Type 0 where
  pub step : BusStep tape.entries x (passed n s) (passed k t)
  pub accepts : IsCounted tape k t
  pub room : quiet_room n s ≤ quiet_room k t + 1

-- an access of the RAM or of the program ROM, which reaches no device
private-step : (tape : TapeValue) (x : Access) (n : ℕ) (ram : List ℕ) (s : BusValue) → IsCounted tape n s → 1 ≤ quiet_room n s
    → (Stays tape.entries x (passed n s) (passed (n + 1) (with_ram ram s)) → BusStep tape.entries x (passed n s) (passed (n + 1) (with_ram ram s)))
    → IsStep tape x n s (n + 1) (with_ram ram s)
unfolding passed later
private-step tape x n ram s c room step = record {
  step = step (record { clock_open = c.between; rooms = refl; until = omega arith; calls = omega arith; more = omega arith });
  accepts = counted-ram tape n ram s c room;
  room = omega arith;
}

private-reads : (tape : TapeValue) (n a v : ℕ) (s : BusValue) → IsCounted tape n s → 1 ≤ quiet_room n s → v ≡ byte_read a (devices_ticked (later n s.peripherals))
    → lagging_at (row_of a).reads (passed (n + 1) s).lagging ≡ 0 → IsStep tape (read_of a v) n s (n + 1) s
private-reads tape n a v s c room is current =
    private-step tape (read_of a v) n s.peripherals.ram s c room
    (λ stays. (is ∙ sym (ap (byte_read a) (in-quiet tape n s c (omega arith))), quiet-entered tape n s c (omega arith), stays, current))

pub ram-reads : (tape : TapeValue) (n a v : ℕ) (s : BusValue) → IsCounted tape n s → 1 ≤ quiet_room n s → a < 2048
    → v ≡ slice_index s.peripherals.ram a → IsStep tape (read_of a v) n s (n + 1) s
unfolding later devices_ticked
ram-reads tape n a v s c room near is = private-reads tape n a v s c room (is ∙ sym (ram-byte a (devices_ticked (later n s.peripherals)) near)) (rw (row-ram a near) refl)

pub program-reads : (tape : TapeValue) (n a v : ℕ) (s : BusValue) → IsCounted tape n s → 1 ≤ quiet_room n s → PROGRAM_START ≤ a → a < 65536
    → v ≡ slice_index s.peripherals.program (a - PROGRAM_START) → IsStep tape (read_of a v) n s (n + 1) s
unfolding later devices_ticked
program-reads tape n a v s c room near last is =
    private-reads tape n a v s c room (is ∙ sym (program-byte a (devices_ticked (later n s.peripherals)) near last)) (rw (row-program a near last) refl)

put-ram : (n a v : ℕ) (w : Peripherals) → a < 2048
    → later (n + 1) (let r : Peripherals = record w { ram = slice_set w.ram a v } in r) ≡ done_clock (byte_put a v (devices_ticked (later n w)))
unfolding later devices_ticked byte_put
put-ram n a v w near = rw (row-ram a near) (ap (λ (k : Peripherals). let r : Peripherals = record k { ram = slice_set w.ram a v } in r) (later-more n w))

pub ram-writes : (tape : TapeValue) (n a v : ℕ) (s t : BusValue) → IsCounted tape n s → 1 ≤ quiet_room n s → a < 2048
    → t ≡ record s { peripherals = record s.peripherals { ram = slice_set s.peripherals.ram a v } } → IsStep tape (write_of a v) n s (n + 1) t
unfolding passed
ram-writes tape n a v s t c room near is =
    rw is (private-step tape (write_of a v) n (slice_set s.peripherals.ram a v) s c room
    (λ stays. (put-ram n a v s.peripherals near ∙ ap (λ (w : Peripherals). done_clock (byte_put a v w)) (sym (in-quiet tape n s c (omega arith))), stays)))

-- an access of a device, whose clock the bus got before
device-step : (tape : TapeValue) (x : Access) (n : ℕ) (s m t : BusValue) (w : Peripherals) → IsCounted tape n s → 1 ≤ quiet_room n s → m ≡ passed (n + 1) s
    → Does m t w (2 * from_bool (reaches_device x)) → w.clock ≡ m.peripherals.clock → length t.peripherals.written ≤ length m.peripherals.written + 1
    → (Stays tape.entries x (passed n s) t → BusStep tape.entries x (passed n s) t) → IsStep tape x n s 0 t
unfolding passed later
device-step tape x n s m t w c room flushed does clock few step =
    let more = counted-more tape n s c room in
    let now : w.clock ≡ s.peripherals.clock + (n + 1) = clock ∙ ap (λ (b : BusValue). b.peripherals.clock) flushed in
    let d = rw flushed at does in
    let written : length w.written ≤ length s.peripherals.written + 1 = rw (← ap (λ (b : BusValue). b.peripherals) does.value, ← ap (λ (b : BusValue). b.peripherals.written) flushed) few in
    record {
      step = rw (passed-zero t) (step (rw d.value (record { clock_open = c.between; rooms = refl; until = omega arith; calls = omega arith; more = omega arith })));
      accepts = rw d.value (record {
        accepts = record { valid = c.accepts.valid; place = rw (add-zero, now) more.accepts.place; no_event = c.accepts.no_event };
        between = c.between;
        no_event = omega arith;
        last = omega arith;
        until = omega arith;
      });
      room = rw d.value (omega arith);
    }

-- there is room for it
pub flushed-room : (n : ℕ) (s m : BusValue) → 1 ≤ quiet_room n s → m ≡ passed (n + 1) s → length m.peripherals.written < m.rooms.board
unfolding passed later
flushed-room n s m room flushed = rw flushed (omega arith)

pub flushed-clock : (n : ℕ) (s m : BusValue) → m ≡ passed (n + 1) s → 1 ≤ m.peripherals.clock
unfolding passed later
flushed-clock n s m flushed = rw flushed (omega arith)

flushed-entered : (tape : TapeValue) (n : ℕ) (s m : BusValue) → IsCounted tape n s → 1 ≤ quiet_room n s → m ≡ passed (n + 1) s
    → m.peripherals ≡ done_clock (in_clock tape.entries (passed n s).clock_open (passed n s).peripherals)
flushed-entered tape n s m c room flushed = rw flushed (quiet-entered tape n s c (omega arith))

pub device-reads : (tape : TapeValue) (n k a v : ℕ) (s m t : BusValue) → IsCounted tape n s → 1 ≤ quiet_room n s → m ≡ passed (n + 1) s → k ≡ 0
    → Does m t m.peripherals (2 * from_bool (reaches_device (read_of a v))) → v ≡ byte_read a (at_clock (m.peripherals.clock - 1) m.peripherals)
    → lagging_at (row_of a).reads t.lagging ≡ 0 → IsStep tape (read_of a v) n s k t
device-reads tape n k a v s m t c room flushed none does is current =
    let entered = flushed-entered tape n s m c room flushed in
    let same : t.peripherals ≡ m.peripherals = ap (λ (b : BusValue). b.peripherals) does.value in
    let w = in_clock tape.entries (passed n s).clock_open (passed n s).peripherals in
    let byte = is ∙ ap (λ (k : Peripherals). byte_read a (at_clock (k.clock - 1) k)) entered ∙ ap (byte_read a) (clock-back w) in
    rw none (device-step tape (read_of a v) n s m t m.peripherals c room flushed does refl (rw same (omega arith)) (λ stays. (byte, same ∙ entered, stays, current)))

pub device-writes : (tape : TapeValue) (n k a v : ℕ) (s m t : BusValue) → IsCounted tape n s → 1 ≤ quiet_room n s → m ≡ passed (n + 1) s → k ≡ 0
    → Does m t (at_clock m.peripherals.clock (byte_put a v (at_clock (m.peripherals.clock - 1) m.peripherals))) (2 * from_bool (reaches_device (write_of a v)))
    → length t.peripherals.written ≤ length m.peripherals.written + 1 → IsStep tape (write_of a v) n s k t
device-writes tape n k a v s m t c room flushed none does few =
    let put = at_clock m.peripherals.clock (byte_put a v (at_clock (m.peripherals.clock - 1) m.peripherals)) in
    rw none (device-step tape (write_of a v) n s m t put c room flushed does refl few
    (write-step tape.entries a v (passed n s) m t (flushed-entered tape n s m c room flushed) (ap (λ (b : BusValue). b.peripherals) does.value)))

-- one such clock has its devices' ticks
pub passed-one : (s : BusValue) → (passed 1 s).peripherals ≡ done_clock (devices_ticked s.peripherals)
unfolding passed
passed-one s = later-more 0 s.peripherals ∙ ap (λ (w : Peripherals). done_clock (devices_ticked w)) (later-zero s.peripherals)

entered-peripherals : (tape : TapeValue) (s : BusValue) → Accepts tape s → s.peripherals.clock < s.event_at → s.clock_open ≡ false
    → (passed 1 s).peripherals ≡ done_clock (in_clock tape.entries s.clock_open s.peripherals)
unfolding in_clock passed
entered-peripherals tape s f h between = rw between (passed-one s ∙ ap done_clock (sym (ticked-quiet tape s f h)))

entered-value : (tape : TapeValue) (s : BusValue) → Accepts tape s → s.peripherals.clock < s.event_at → s.clock_open ≡ false
    → passed 1 s ≡ record s { peripherals = done_clock (in_clock tape.entries s.clock_open s.peripherals); clock_open = false; lagging = (passed 1 s).lagging }
unfolding passed
entered-value tape s f h between = rw (← entered-peripherals tape s f h between, ← between) refl

-- the clock of an access in which no event is due, on a bus that doesn't count
pub record IsEntered (tape : TapeValue) (s t : BusValue) : Type 0 where
  pub value : t ≡ record s {
    peripherals = done_clock (in_clock tape.entries s.clock_open s.peripherals);
    clock_open = false;
    tape_pos = t.tape_pos;
    event_at = t.event_at;
    lagging = t.lagging;
    until = t.until;
    calls = t.calls;
  }
  pub accepts : Accepts tape t
  pub until : s.until ≤ t.until
  pub calls : t.calls ≤ s.calls + begin_price tape.entries s.clock_open s.peripherals
  pub more : s.calls ≤ t.calls
  pub clock_done : 1 ≤ t.peripherals.clock

pub entered-quiet : (tape : TapeValue) (s t : BusValue) → Accepts tape s → s.peripherals.clock < s.event_at → s.clock_open ≡ false → t ≡ passed 1 s → IsEntered tape s t
unfolding passed later
entered-quiet tape s t f h between flushed = rw flushed (record {
  value = entered-value tape s f h between;
  accepts = fits-quiet tape s (passed 1 s) f h refl refl refl;
  until = omega arith;
  calls = omega arith;
  more = omega arith;
  clock_done = omega arith;
})

-- before the first of them
pub counted-start : (tape : TapeValue) (n : ℕ) (s : BusValue) → n ≡ 0 → Accepts tape s → s.clock_open ≡ false → s.peripherals.clock + MAX_SEQUENCE_CLOCKS ≤ s.event_at → MAX_SEQUENCE_CLOCKS ≤ room_of s
    → IsCounted tape n s
counted-start tape n s none accepts between no_event room =
    rw none (record { accepts = rw (passed-zero s) accepts; between = between; no_event = omega arith; last = omega arith; until = omega arith })
