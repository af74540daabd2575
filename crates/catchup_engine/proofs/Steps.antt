-- The accesses of a sequence are steps of the lockstep board.
use Rattle.std.proofs.Common.{◌≡◌, ℕ, ◌+◌, ◌*◌, ◌≤◌, false, List, [], ◌∷◌, ◌++◌, length, refl, sym, ap, ◌∙◌, subst, arith, append_assoc, append-nil, length-append, rules, suc}
use Rattle.std.specs.Int.{from_bool}
use Rattle.board_base.specs.declared.cpu.Sequence.{Sequence}
use Rattle.board_base.specs.Cpu.{CpuValue}
use Rattle.cpu_core.specs.declared.replay.Next.{Next}
use Rattle.cpu_core.specs.declared.replay.Next.TheVariants.{Read, Write, End}
use Rattle.cpu_core.specs.Registers.{RegistersValue}
use Rattle.cpu_core.specs.BusCycles.{Access, read_of, write_of}
use Rattle.cpu_core.specs.Sequences.{next_of, IsAccess, IsEnd, Moves}
use Rattle.cpu_core.specs.Places.{standing, stopped, paused}
use Rattle.cpu_core.proofs.LengthLemmas.{six_before_end}
use Rattle.cpu_core.proofs.PlaceLemmas.{given_paused}
use Rattle.tape_ports.specs.declared.entry.TapeEntry.{TapeEntry}
use Rattle.lockstep_board.specs.Peripherals.{Peripherals, ticked}
use Rattle.lockstep_board.specs.Lockstep.{Board, accessed, accessed_by, clocked, made_by, access_in, step}
use Rattle.catchup_engine.specs.Bus.{BusValue, BusStep, Stays, in_clock, begin_price}
use Rattle.lockstep_board.specs.Budget.{budget, counted, device_access, price, reaches_device, ticks_price}
use Rattle.lockstep_board.specs.Steps.{IsInside, Through}

-- a processor after these bytes of a sequence, and peripherals
abbrev pub board_after : RegistersValue → Sequence → List ℕ → Peripherals → Board
board_after r q bytes w = record { cpu = standing r q bytes; peripherals = w }

pub stays-of : (entries : List TapeEntry) (x : Access) (s t : BusValue) → BusStep entries x s t → Stays entries x s t
stays-of entries (read_of a v) s t b = b.2
stays-of entries (write_of a v) s t b = b.1

-- what the bus did is what the board does
accessed_by-is : (entries : List TapeEntry) (next : Next) (r : RegistersValue) (q : Sequence) (bytes : List ℕ) (v : ℕ) (x : Access) (s t : BusValue)
    → IsAccess next v x → BusStep entries x s t
    → clocked (accessed_by next r q bytes (in_clock entries s.clock_open s.peripherals)) ≡ board_after r q (bytes ++ v ∷ []) t.peripherals
accessed_by-is entries (Read a) r q bytes v x s t is b = let d = subst (λ y. BusStep entries y s t) is b in rw (d.0, d.1) refl
accessed_by-is entries (Write a w) r q bytes v x s t is b = let d = subst (λ y. BusStep entries y s t) is.1 b in rw (d.0, is.0) refl
accessed_by-is entries (End e) r q bytes v x s t is b = absurd is

pub accessed-is : (entries : List TapeEntry) (r : RegistersValue) (q : Sequence) (bytes : List ℕ) (v : ℕ) (x : Access) (s t : BusValue)
    → IsAccess (next_of r q bytes) v x → BusStep entries x s t
    → clocked (accessed r q bytes (in_clock entries s.clock_open s.peripherals)) ≡ board_after r q (bytes ++ v ∷ []) t.peripherals
unfolding accessed
accessed-is entries r q bytes v x s t is b = accessed_by-is entries (next_of r q bytes) r q bytes v x s t is b

-- the bus's access costs what the board's does
pub same-access : (next : Next) (v : ℕ) (x : Access) (w : Peripherals) → IsAccess next v x → from_bool (reaches_device x) ≡ device_access (made_by next w)
unfolding reaches_device
same-access (Read a) v x w is = rw is refl
same-access (Write a u) v x w is = rw is.1 refl
same-access (End e) v x w is = absurd is

pub not-end : (next : Next) (v : ℕ) (x : Access) → IsAccess next v x → IsEnd next → ⊥
not-end (Read a) v x is end = end
not-end (Write a w) v x is end = end
not-end (End e) v x is end = is

-- where an access is due, the processor is inside the sequence
pub paused-is : (next : Next) (r : RegistersValue) (q : Sequence) (bytes : List ℕ) (v : ℕ) (x : Access) → IsAccess next v x
    → stopped r q bytes next ≡ paused r q bytes
paused-is (Read a) r q bytes v x is = refl
paused-is (Write a w) r q bytes v x is = refl
paused-is (End e) r q bytes v x is = absurd is

-- a step of a board inside a sequence makes the next access
step-paused : (entries : List TapeEntry) (r : RegistersValue) (q : Sequence) (bytes : List ℕ) (w : Peripherals)
    → step entries (record { cpu = paused r q bytes; peripherals = w }) ≡ clocked (accessed r q bytes (ticked entries w))
unfolding step
step-paused entries r q bytes w = rw (given_paused bytes) refl

inside-paused : (r : RegistersValue) (q : Sequence) (bytes : List ℕ) (w : Peripherals) → IsInside (record { cpu = paused r q bytes; peripherals = w })
inside-paused r q bytes w = record { running = refl; middle = search rules }

pub in_clock-between : (entries : List TapeEntry) (s : BusValue) → s.clock_open ≡ false → in_clock entries s.clock_open s.peripherals ≡ ticked entries s.peripherals
unfolding in_clock
in_clock-between entries s between = rw between refl

-- where an access is due, a step makes it
pub step-access : (entries : List TapeEntry) (r : RegistersValue) (q : Sequence) (bytes : List ℕ) (v : ℕ) (x : Access) (s t : BusValue)
    → IsAccess (next_of r q bytes) v x → BusStep entries x s t → s.clock_open ≡ false
    → step entries (board_after r q bytes s.peripherals) ≡ board_after r q (bytes ++ v ∷ []) t.peripherals
step-access entries r q bytes v x s t is b between =
    ap (λ (c : CpuValue). step entries (record { cpu = c; peripherals = s.peripherals })) (paused-is (next_of r q bytes) r q bytes v x is)
    ∙ step-paused entries r q bytes s.peripherals
    ∙ ap (λ (w : Peripherals). clocked (accessed r q bytes w)) (sym (in_clock-between entries s between))
    ∙ accessed-is entries r q bytes v x s t is b

inside-access : (r : RegistersValue) (q : Sequence) (bytes : List ℕ) (v : ℕ) (x : Access) (w : Peripherals)
    → IsAccess (next_of r q bytes) v x → IsInside (board_after r q bytes w)
inside-access r q bytes v x w is =
    subst (λ (c : CpuValue). IsInside (record { cpu = c; peripherals = w })) (sym (paused-is (next_of r q bytes) r q bytes v x is)) (inside-paused r q bytes w)

-- the calls that a step inside a sequence may cost
price-paused : (entries : List TapeEntry) (r : RegistersValue) (q : Sequence) (bytes : List ℕ) (v : ℕ) (x : Access) (w : Peripherals)
    → IsAccess (next_of r q bytes) v x
    → price entries (record { cpu = paused r q bytes; peripherals = w }) ≡ 2 * from_bool (reaches_device x) + ticks_price entries w
unfolding price access_in
price-paused entries r q bytes v x w is =
    let same : device_access (made_by (next_of r q bytes) (ticked entries w)) ≡ from_bool (reaches_device x) =
    sym (same-access (next_of r q bytes) v x (ticked entries w) is) in
    rw (given_paused bytes) (omega arith)

begin-level : (entries : List TapeEntry) (s : BusValue) → s.clock_open ≡ false → begin_price entries s.clock_open s.peripherals ≡ ticks_price entries s.peripherals
begin-level entries s between = rw between refl

paid-access : (entries : List TapeEntry) (r : RegistersValue) (q : Sequence) (bytes : List ℕ) (v : ℕ) (x : Access) (s t : BusValue)
    → IsAccess (next_of r q bytes) v x → BusStep entries x s t → s.clock_open ≡ false
    → t.calls ≤ s.calls + price entries (board_after r q bytes s.peripherals)
paid-access entries r q bytes v x s t is b between =
    let stays = stays-of entries x s t b in
    let none = begin-level entries s between in
    let here : price entries (board_after r q bytes s.peripherals) ≡ 2 * from_bool (reaches_device x) + ticks_price entries s.peripherals =
    ap (λ (c : CpuValue). price entries (record { cpu = c; peripherals = s.peripherals })) (paused-is (next_of r q bytes) r q bytes v x is)
    ∙ price-paused entries r q bytes v x s.peripherals is in
    omega arith

-- the bus went from s to t while n steps led through the inside of a sequence
pub record Went (entries : List TapeEntry) (n : ℕ) (b last : Board) (s t : BusValue) : Type 0 where
  pub through : Through entries n b last
  pub paid : t.calls ≤ s.calls + budget entries n b
  pub more : s.calls ≤ t.calls
  pub rooms : t.rooms ≡ s.rooms
  pub until : s.until ≤ t.until
  pub between : t.clock_open ≡ false

budget-more : (entries : List TapeEntry) (n : ℕ) (b : Board) → budget entries (suc n) b ≡ price entries b + budget entries n (step entries b)
unfolding counted
budget-more entries n b = refl

-- the accesses left of a sequence are as many steps, none from a boundary
pub moves-went : (entries : List TapeEntry) (r : RegistersValue) (q : Sequence) (bytes more : List ℕ) (s t : BusValue)
    → Moves (BusStep entries) r q bytes more s t → s.clock_open ≡ false
    → Went entries (length more) (board_after r q bytes s.peripherals) (board_after r q (bytes ++ more) t.peripherals) s t
moves-went entries r q bytes [] s t m between = record {
  through = rw (append-nil bytes, m) refl;
  paid = (let e = ap (λ (b : BusValue). b.calls) m in omega arith);
  more = (let e = ap (λ (b : BusValue). b.calls) m in omega arith);
  rooms = ap (λ (b : BusValue). b.rooms) m;
  until = (let e = ap (λ (b : BusValue). b.until) m in omega arith);
  between = ap (λ (b : BusValue). b.clock_open) m ∙ between;
}
moves-went entries r q bytes (v ∷ more) s t (x, m, is, b, rest) between =
    let stays = stays-of entries x s m b in
    let e : (bytes ++ v ∷ []) ++ more ≡ bytes ++ v ∷ more = append_assoc bytes (v ∷ []) more in
    let later = moves-went entries r q (bytes ++ v ∷ []) more m t rest stays.clock_open in
    let here = step-access entries r q bytes v x s m is b between in
    let first = paid-access entries r q bytes v x s m is b between in
    let then_paid : t.calls ≤ m.calls + budget entries (length more) (step entries (board_after r q bytes s.peripherals)) = rw here later.paid in
    let whole = budget-more entries (length more) (board_after r q bytes s.peripherals) in
    record {
      through = (inside-access r q bytes v x s.peripherals is, rw (here, ← e) later.through);
      paid = omega arith;
      more = omega arith;
      rooms = later.rooms ∙ stays.rooms;
      until = omega arith;
      between = later.between;
    }

-- a sequence has seven bytes at most
pub moves-length : (entries : List TapeEntry) (r : RegistersValue) (q : Sequence) (bytes more : List ℕ) (s t : BusValue)
    → Moves (BusStep entries) r q bytes more s t → length bytes ≤ 7 → length bytes + length more ≤ 7
moves-length entries r q bytes [] s t m few = omega arith
moves-length entries r q bytes (v ∷ more) s t (x, m, is, b, rest) few =
    let short = six_before_end r q bytes (not-end (next_of r q bytes) v x is) in
    let longer : length (bytes ++ v ∷ []) ≡ length bytes + 1 = length-append bytes (v ∷ []) in
    let later = moves-length entries r q (bytes ++ v ∷ []) more m t rest (omega arith) in
    omega arith
