-- One access of a `NotedBus`.
use Rattle.std.proofs.Common.{◌≡◌, ℕ, ◌+◌, ◌-◌, ◌*◌, ◌≤◌, ◌<◌, Bool, true, false, [], ◌∷◌, ◌++◌, length, length-append, add-zero, refl, sym, ap, ◌∙◌, arith, if◌then◌else◌}
use Rattle.std.specs.Int.{from_bool}
use Rattle.board_map.specs.Map.{row_of}
use Rattle.cpu_core.specs.BusCycles as cycles
use Rattle.cpu_core.specs.BusCycles.{read_of, write_of}
use Rattle.tape_ports.specs.Tape.{TapeValue}
use Rattle.lockstep_board.specs.Budget.{reaches_device}
use Rattle.lockstep_board.specs.Peripherals.{byte_put, byte_read}
use Rattle.catchup_engine.specs.declared.trace.Access.{Access}
use Rattle.catchup_engine.specs.Bus.{BusValue, Does, at_clock}
use Rattle.catchup_engine.specs.Horizon.{KeepsLines}
use Rattle.catchup_engine.specs.Lags.{lagging_at}
use Rattle.catchup_engine.specs.Notes.{CanNote, IsNoted, ReachedValue, with_reached}
use Rattle.catchup_engine.specs.Starts.{starts_generator}
use Rattle.catchup_engine.specs.Quiet.{later, passed}
use Rattle.catchup_engine.specs.Trace.{access_at, made_of}
use Rattle.catchup_engine.proofs.HorizonLaws.{keeps-then, put-keeps, read-keeps}
use Rattle.catchup_engine.proofs.MapLaws.{row-program, row-ram}
use Rattle.catchup_engine.proofs.QuietLaws.{IsStep, device-reads, device-writes, passed-zero}

-- an access to the RAM and a read of the program ROM reach no device
pub ram-plain : (a v : ℕ) → a < 2048 → reaches_device (read_of a v) ≡ false
unfolding reaches_device
ram-plain a v near = rw (row-ram a near) refl

pub ram-put-plain : (a v : ℕ) → a < 2048 → reaches_device (write_of a v) ≡ false
unfolding reaches_device
ram-put-plain a v near = rw (row-ram a near) refl

pub program-plain : (a v : ℕ) → 36864 ≤ a → a < 65536 → reaches_device (read_of a v) ≡ false
unfolding reaches_device
program-plain a v from last = rw (row-program a from last) refl

made-at : (clock : ℕ) (x : cycles.Access) → made_of (access_at clock x) ≡ x
made-at clock (read_of a v) = refl
made-at clock (write_of a v) = refl

-- so that it reaches nothing, unless it starts the generator
pub plain-reached : (r : ReachedValue) (clock : ℕ) (x : cycles.Access) → reaches_device x ≡ false → starts_generator (access_at clock x) ≡ false → r ≡ with_reached r (access_at clock x)
plain-reached r clock x plain still = let same : r.accesses + 0 ≡ r.accesses = add-zero r.accesses in rw (made-at clock x, plain, still, same) refl

pub ram-still : (a v clock : ℕ) → a < 2048 → starts_generator (access_at clock (write_of a v)) ≡ false
ram-still a v clock near = rw (row-ram a near) refl

-- an access reaches a device once at most, and starts the generator once at most
pub record IsOneMore (r more : ReachedValue) : Type 0 where
  pub accesses : more.accesses ≤ r.accesses + 1
  pub starts : length more.starts ≤ length r.starts + 1

pub one-more : (r : ReachedValue) (a : Access) → IsOneMore r (with_reached r a)
one-more r a = record { accesses = by_reach (reaches_device (made_of a)); starts = by_start (starts_generator a) }
  where
    by_reach : (t : Bool) → r.accesses + from_bool t ≤ r.accesses + 1
    by_reach true = omega arith
    by_reach false = omega arith

    by_start : (t : Bool) → length (if t then r.starts ++ a.clock ∷ [] else r.starts) ≤ length r.starts + 1
    by_start true = let more = length-append r.starts (a.clock ∷ []) in omega (arith, more)
    by_start false = omega arith

-- an access of a device
noted-access : (tape : TapeValue) (n : ℕ) (x : cycles.Access) (s t : BusValue) (r more : ReachedValue) → r.accesses ≤ s.peripherals.clock + n
    → t.peripherals.clock ≡ s.peripherals.clock + (n + 1) → more ≡ with_reached r (access_at (t.peripherals.clock - 1) x) → KeepsLines s t → IsStep tape x n s 0 t
    → IsNoted tape n x s t r more
noted-access tape n x s t r more few clock noted lines is = record {
  lines = lines;
  noted = record { step = is.step; reached = noted ∙ ap (λ (b : BusValue). with_reached r (access_at (b.peripherals.clock - 1) x)) (sym (passed-zero t)) };
  accepts = is.accepts;
  room = is.room;
  accesses = (let most = (one-more r (access_at (t.peripherals.clock - 1) x)).accesses in let same = ap (λ (k : ReachedValue). k.accesses) noted in omega (arith, few, clock, most, same));
}

later-clock : (n : ℕ) (s m : BusValue) → m ≡ passed (n + 1) s → m.peripherals.clock ≡ s.peripherals.clock + (n + 1)
unfolding passed later
later-clock n s m observed = ap (λ (b : BusValue). b.peripherals.clock) observed

pub noted-read : (tape : TapeValue) (n a v : ℕ) (s m t : BusValue) (r more : ReachedValue) → CanNote tape n s r
    → m ≡ passed (n + 1) s → KeepsLines s m
    → Does m t m.peripherals (2 * from_bool (reaches_device (read_of a v))) → v ≡ byte_read a (at_clock (m.peripherals.clock - 1) m.peripherals)
    → lagging_at (row_of a).reads t.lagging ≡ 0 → ((clock : ℕ) → more ≡ with_reached r (access_at clock (read_of a v))) → IsNoted tape n (read_of a v) s t r more
noted-read tape n a v s m t r more can observed lines does is current noted =
    noted-access tape n (read_of a v) s t r more can.accesses (ap (λ (b : BusValue). b.peripherals.clock) does.value ∙ later-clock n s m observed) (noted (t.peripherals.clock - 1))
    (keeps-then s m t lines (read-keeps m t (2 * from_bool (reaches_device (read_of a v))) does)) (device-reads tape n 0 a v s m t can.accepts can.room observed refl does is current)

pub noted-written : (tape : TapeValue) (n a v : ℕ) (s m t : BusValue) (r more : ReachedValue) → CanNote tape n s r
    → m ≡ passed (n + 1) s → KeepsLines s m
    → Does m t (at_clock m.peripherals.clock (byte_put a v (at_clock (m.peripherals.clock - 1) m.peripherals))) (2 * from_bool (reaches_device (write_of a v)))
    → length t.peripherals.written ≤ length m.peripherals.written + 1 → more ≡ with_reached r (access_at (m.peripherals.clock - 1) (write_of a v))
    → IsNoted tape n (write_of a v) s t r more
noted-written tape n a v s m t r more can observed lines does written noted =
    let clock : t.peripherals.clock ≡ m.peripherals.clock = ap (λ (b : BusValue). b.peripherals.clock) does.value in
    noted-access tape n (write_of a v) s t r more can.accesses (clock ∙ later-clock n s m observed) (noted ∙ ap (λ k. with_reached r (access_at (k - 1) (write_of a v))) (sym clock))
    (keeps-then s m t lines (put-keeps a v m t (2 * from_bool (reaches_device (write_of a v))) does)) (device-writes tape n 0 a v s m t can.accepts can.room observed refl does written)
