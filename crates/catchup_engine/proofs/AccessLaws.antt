-- One access of the bus, as a step of its relation.
use Rattle.std.proofs.Common.{◌≡◌, ℕ, ◌+◌, ◌-◌, ◌≤◌, ◌<◌, Bool, true, false, List, length, refl, sym, ap, ◌∙◌, arith}
use Rattle.board_base.specs.declared.record.Record.{Record}
use Rattle.board_map.specs.Map.{row_of}
use Rattle.cpu_core.specs.BusCycles.{write_of}
use Rattle.tape_ports.specs.declared.entry.TapeEntry.{TapeEntry}
use Rattle.lockstep_board.specs.Peripherals.{Peripherals, byte_put}
use Rattle.catchup_engine.specs.Bus.{BusValue, BusStep, Stays, at_clock, done_clock, in_clock, room_of}
use Rattle.lockstep_board.proofs.Clocks.{put_in-clock, ticked-clock, ticked-written}

-- the clock in which an access comes is the one that counts as done, or the next
in_clock-clock : (entries : List TapeEntry) (clock_open : Bool) (w : Peripherals) → (in_clock entries clock_open w).clock ≤ w.clock
unfolding in_clock
in_clock-clock entries true w = omega arith
in_clock-clock entries false w = let e = ticked-clock entries w in omega arith

in_clock-written : (entries : List TapeEntry) (clock_open : Bool) (w : Peripherals) → (in_clock entries clock_open w).written ≡ w.written
unfolding in_clock
in_clock-written entries true w = refl
in_clock-written entries false w = ticked-written entries w

-- the bus entered the clock of an access
pub record HasEntered (entries : List TapeEntry) (s m : BusValue) : Type 0 where
  pub clock : m.peripherals.clock ≤ s.peripherals.clock + 1
  pub written : m.peripherals.written ≡ s.peripherals.written

pub has-entered : (entries : List TapeEntry) (s m : BusValue) → m.peripherals ≡ done_clock (in_clock entries s.clock_open s.peripherals) → HasEntered entries s m
has-entered entries s m peripherals = record {
  clock =
      let e : m.peripherals.clock ≡ (in_clock entries s.clock_open s.peripherals).clock + 1 = ap (λ (w : Peripherals). w.clock) peripherals in
      let f = in_clock-clock entries s.clock_open s.peripherals in
      omega arith;
  written = ap (λ (w : Peripherals). w.written) peripherals ∙ in_clock-written entries s.clock_open s.peripherals;
}

-- room for one access more than is left after it
pub room-after : (s t : BusValue) → t.peripherals.clock ≤ s.peripherals.clock + 1 → length t.peripherals.written ≤ length s.peripherals.written + 1
    → t.rooms ≡ s.rooms → s.until ≤ t.until → room_of s ≤ room_of t + 1
room-after s t clock written rooms until =
    let e : t.rooms.board ≡ s.rooms.board = ap (λ r. r.board) rooms in
    omega arith

-- where there is room for an access, there is for its record
pub room-written : (s m : BusValue) → 1 ≤ room_of s → m.peripherals.written ≡ s.peripherals.written → m.rooms ≡ s.rooms → length m.peripherals.written < m.rooms.board
room-written s m room written rooms =
    let e : m.rooms.board ≡ s.rooms.board = ap (λ r. r.board) rooms in
    let f : length m.peripherals.written ≡ length s.peripherals.written = ap (λ (records : List Record). length records) written in
    omega arith

byte_put-clock : (a v : ℕ) (w : Peripherals) → (byte_put a v w).clock ≡ w.clock
unfolding byte_put
byte_put-clock a v w = put_in-clock (row_of a).writes (row_of a).offset v w

-- a byte written in the clock that counts as done is one written in that clock
put-done : (a v : ℕ) (w : Peripherals) → at_clock (w.clock + 1) (byte_put a v (at_clock (w.clock + 1 - 1) w)) ≡ done_clock (byte_put a v w)
put-done a v w =
    let e : w.clock + 1 - 1 ≡ w.clock = omega arith in
    ap (λ n. at_clock (w.clock + 1) (byte_put a v (at_clock n w))) e
    ∙ ap (λ n. at_clock (n + 1) (byte_put a v w)) (sym (byte_put-clock a v w))

put-entered : (a v : ℕ) (m w : Peripherals) → m ≡ done_clock w → at_clock m.clock (byte_put a v (at_clock (m.clock - 1) m)) ≡ done_clock (byte_put a v w)
put-entered a v m w e = ap (λ (k : Peripherals). at_clock k.clock (byte_put a v (at_clock (k.clock - 1) k))) e ∙ put-done a v w

-- a write is a step of the bus
pub write-step : (entries : List TapeEntry) (a v : ℕ) (s m t : BusValue) → m.peripherals ≡ done_clock (in_clock entries s.clock_open s.peripherals)
    → t.peripherals ≡ at_clock m.peripherals.clock (byte_put a v (at_clock (m.peripherals.clock - 1) m.peripherals)) → Stays entries (write_of a v) s t
    → BusStep entries (write_of a v) s t
write-step entries a v s m t enter put stays = (put ∙ put-entered a v m.peripherals (in_clock entries s.clock_open s.peripherals) enter, stays)

-- and leaves room for one access less
pub write-room : (entries : List TapeEntry) (a v : ℕ) (s m t : BusValue) → m.peripherals ≡ done_clock (in_clock entries s.clock_open s.peripherals)
    → t.peripherals ≡ at_clock m.peripherals.clock (byte_put a v (at_clock (m.peripherals.clock - 1) m.peripherals)) → length t.peripherals.written ≤ length m.peripherals.written + 1
    → t.rooms ≡ s.rooms → s.until ≤ t.until → room_of s ≤ room_of t + 1
write-room entries a v s m t enter put few rooms until =
    let entered = has-entered entries s m enter in
    let same : t.peripherals.clock ≡ m.peripherals.clock = ap (λ (w : Peripherals). w.clock) put in
    let none : length m.peripherals.written ≡ length s.peripherals.written = ap (λ (records : List Record). length records) entered.written in
    room-after s t (omega arith) (omega arith) rooms until

-- so does a read
pub read-room : (entries : List TapeEntry) (s m t : BusValue) → m.peripherals ≡ done_clock (in_clock entries s.clock_open s.peripherals) → t.peripherals ≡ m.peripherals
    → t.rooms ≡ s.rooms → s.until ≤ t.until → room_of s ≤ room_of t + 1
read-room entries s m t enter same rooms until =
    let entered = has-entered entries s m enter in
    let clock : t.peripherals.clock ≡ m.peripherals.clock = ap (λ (w : Peripherals). w.clock) same in
    let none : length t.peripherals.written ≡ length s.peripherals.written =
    ap (λ (w : Peripherals). length w.written) same ∙ ap (λ (records : List Record). length records) entered.written in
    room-after s t (omega arith) (omega arith) rooms until
