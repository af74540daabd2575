-- Boundaries at which only the clock has to be looked at.
use Rattle.std.proofs.Common.{◌≡◌, ℕ, ◌+◌, ◌-◌, ◌≤◌, ◌<◌, Bool, true, false, not, ◌&&◌, ◌||◌, nat_le, nat_lt, min, is_none}
use Rattle.std.proofs.Common.{is_some, List, [], ◌∷◌, ◌++◌, slice_set, Option, Some, None, refl, sym, ap, ◌∙◌, arith, if◌then◌else◌}
use Rattle.std.proofs.lemmas.Bool.{and_parts}
use Rattle.std.proofs.lemmas.Bool.Decides.{nat_tests}
use Rattle.board_base.specs.declared.divider.TheConstants.{DIVIDER_PERIOD}
use Rattle.board_base.specs.declared.divider.Pending.{Pending}
use Rattle.board_base.specs.declared.divider.Pending.TheVariants.{Nothing, Power, Watchdog}
use Rattle.board_base.specs.declared.cpu.Sequence.{Sequence}
use Rattle.board_base.specs.declared.cpu.Sequence.TheVariants.{Opcode, Interrupt, Reset}
use Rattle.board_base.specs.Cpu.{CpuValue}
use Rattle.board_map.specs.declared.map.Writes.{Writes}
use Rattle.board_map.specs.declared.map.Writes.TheVariants as writes
use Rattle.board_map.specs.Map.{row_of}
use Rattle.cpu_alu.specs.Flags.{is_masked}
use Rattle.cpu_core.specs.BusCycles.{Access}
use Rattle.cpu_core.specs.Registers.{RegistersValue}
use Rattle.cpu_core.specs.Sequences.{Moves, Runs}
use Rattle.catchup_engine.specs.declared.quiet.Horizon.{Horizon}
use Rattle.catchup_engine.specs.declared.bus.TheConstants.{MAX_SEQUENCE_CLOCKS}
use Rattle.catchup_engine.specs.StopConditions.{ConditionsValue, stops_at}
use Rattle.catchup_engine.specs.Bus.{BusValue, Does, at_clock}
use Rattle.catchup_engine.specs.Horizon.{IsHorizon, KeepsLines, LeavesLines, NothingDue, is_before}
use Rattle.lockstep_board.specs.Lockstep.{is_reset, sequence_due}
use Rattle.catchup_engine.specs.Quiet.{later, passed}
use Rattle.lockstep_board.specs.Run.{is_over}
use Rattle.catchup_engine.specs.Runs.{GoesOn, over_bus}
use Rattle.catchup_engine.proofs.DividerLaws.{irq-after, irq-quiet, pending-after, pending-quiet}
use Rattle.catchup_engine.specs.Turn.{is_opcode, reads_opcode}
use Rattle.lockstep_board.specs.Peripherals.{Peripherals, byte_put, devices_ticked, has_request, line_of, put_in}

both-not : (a b : Bool) → (not a && not b) ≡ true → (a ≡ false) × (b ≡ false)
both-not false false e = (refl, refl)
both-not false true e = cc
both-not true false e = cc
both-not true true e = cc

-- the boundaries from one on whose fetch reads an opcode
pub horizon-since : (limit until : ℕ) (irq_idle : Bool) (s : BusValue) → until ≡ min limit (s.event_at - 6) → LeavesLines s.peripherals
    → (devices_ticked s.peripherals).divider.pending ≡ Nothing → irq_idle ≡ (not s.peripherals.wired && not s.peripherals.divider.irq)
    → IsHorizon limit (record { until = until; irq_idle = irq_idle }) s
horizon-since limit until irq_idle s is leaves pending idle_is = λ early. record {
  before = omega arith;
  no_event = omega arith;
  pending = sym leaves.pending ∙ pending;
  irq_idle = λ e. both-not s.peripherals.wired s.peripherals.divider.irq (sym idle_is ∙ e);
}

pub ruleset horizon = horizon-since

-- nothing is done
pub keeps-refl : (s : BusValue) → KeepsLines s s
keeps-refl s = record { event = refl; wired = refl; pending = refl; irq = λ e. e }

pub keeps-then : (s m t : BusValue) → KeepsLines s m → KeepsLines m t → KeepsLines s t
keeps-then s m t first later = record {
  event = later.event ∙ first.event;
  wired = later.wired ∙ first.wired;
  pending = later.pending ∙ first.pending;
  irq = λ e. later.irq (first.irq e);
}

-- clocks pass
pub passed-keeps : (n : ℕ) (s t : BusValue) → t ≡ passed n s → t.peripherals.divider.irq ≡ s.peripherals.divider.irq → t.peripherals.divider.pending ≡ s.peripherals.divider.pending
    → KeepsLines s t
unfolding passed later
passed-keeps n s t observed irq pending = record {
  event = ap (λ (b : BusValue). b.event_at) observed;
  wired = ap (λ (b : BusValue). b.peripherals.wired) observed;
  pending = pending;
  irq = λ e. irq ∙ e;
}

-- a device is read
pub read-keeps : (m t : BusValue) (most : ℕ) → Does m t m.peripherals most → KeepsLines m t
read-keeps m t most does = record {
  event = ap (λ (b : BusValue). b.event_at) does.value;
  wired = ap (λ (b : BusValue). b.peripherals.wired) does.value;
  pending = ap (λ (b : BusValue). b.peripherals.divider.pending) does.value;
  irq = λ e. ap (λ (b : BusValue). b.peripherals.divider.irq) does.value ∙ e;
}

-- the RAM is written
pub ram-keeps : (s t : BusValue) (a v : ℕ) → t ≡ record s { peripherals = record s.peripherals { ram = slice_set s.peripherals.ram a v } } → KeepsLines s t
ram-keeps s t a v is = record {
  event = ap (λ (b : BusValue). b.event_at) is;
  wired = ap (λ (b : BusValue). b.peripherals.wired) is;
  pending = ap (λ (b : BusValue). b.peripherals.divider.pending) is;
  irq = λ e. ap (λ (b : BusValue). b.peripherals.divider.irq) is ∙ e;
}

put_in-wired : (put : Writes) (k value : ℕ) (w : Peripherals) → (put_in put k value w).wired ≡ w.wired
put_in-wired writes.Ram k value w = refl
put_in-wired _ k value w = refl

put_in-pending : (put : Writes) (k value : ℕ) (w : Peripherals) → (put_in put k value w).divider.pending ≡ w.divider.pending
put_in-pending writes.Ram k value w = refl
put_in-pending _ k value w = refl

put_in-irq : (put : Writes) (k value : ℕ) (w : Peripherals) → w.divider.irq ≡ false → (put_in put k value w).divider.irq ≡ false
put_in-irq writes.Acknowledge k value w e = refl
put_in-irq _ k value w e = e

-- a byte is written
pub put-keeps : (a v : ℕ) (m t : BusValue) (most : ℕ) → Does m t (at_clock m.peripherals.clock (byte_put a v (at_clock (m.peripherals.clock - 1) m.peripherals))) most → KeepsLines m t
unfolding byte_put
put-keeps a v m t most does =
    let w = at_clock (m.peripherals.clock - 1) m.peripherals in
    record {
      event = ap (λ (b : BusValue). b.event_at) does.value;
      wired = ap (λ (b : BusValue). b.peripherals.wired) does.value ∙ put_in-wired (row_of a).writes (row_of a).offset v w;
      pending = ap (λ (b : BusValue). b.peripherals.divider.pending) does.value ∙ put_in-pending (row_of a).writes (row_of a).offset v w;
      irq = λ e. ap (λ (b : BusValue). b.peripherals.divider.irq) does.value ∙ put_in-irq (row_of a).writes (row_of a).offset v w e;
    }

-- so does a whole sequence
moves-keep : {S : Type 0} {T : Access → S → S → Type 0} (bus : S → BusValue)
    → ((x : Access) (a b : S) → T x a b → KeepsLines (bus a) (bus b))
    → (r : RegistersValue) (q : Sequence) (bytes more : List ℕ) (s t : S) → Moves T r q bytes more s t → KeepsLines (bus s) (bus t)
moves-keep bus keeps r q bytes [] s t same = rw same (keeps-refl (bus s))
moves-keep bus keeps r q bytes (v ∷ more) s t (x, m, is, did, rest) =
    keeps-then (bus s) (bus m) (bus t) (keeps x s m did) (moves-keep bus keeps r q (bytes ++ v ∷ []) more m t rest)

pub runs-keep : {S : Type 0} {T : Access → S → S → Type 0} (bus : S → BusValue)
    → ((x : Access) (a b : S) → T x a b → KeepsLines (bus a) (bus b))
    → (r : RegistersValue) (q : Sequence) (s t : S) (e : CpuValue) → Runs T r q s t e → KeepsLines (bus s) (bus t)
runs-keep bus keeps r q s t e runs = moves-keep bus keeps r q [] runs.bytes s t runs.moves

-- what keeps the lines keeps the horizon
pub are-kept : (limit : ℕ) (horizon : Horizon) (s t : BusValue) → KeepsLines s t → NothingDue limit horizon s → NothingDue limit horizon t
are-kept limit horizon s t keeps are =
    record {
      before = are.before;
      no_event = omega arith;
      pending = keeps.pending ∙ are.pending;
      irq_idle = λ e. (keeps.wired ∙ (are.irq_idle e).0, keeps.irq (are.irq_idle e).1);
    }

-- clocks before the divider's wrap keep them
pub passed-lines : (n : ℕ) (s : BusValue) → s.peripherals.clock + n ≤ s.event_at → s.peripherals.divider.phase + (s.event_at - s.peripherals.clock) < DIVIDER_PERIOD
    → KeepsLines s (passed n s)
unfolding passed later
passed-lines n s h wrap = passed-keeps n s (passed n s) refl (irq-quiet n s.peripherals.divider (omega arith)) (pending-quiet n s.peripherals.divider (omega arith))

-- and so does the clock after them
pub passed-leaves : (n : ℕ) (s : BusValue) → s.peripherals.clock + n < s.event_at → s.peripherals.divider.phase + (s.event_at - s.peripherals.clock) < DIVIDER_PERIOD
    → LeavesLines (passed n s).peripherals
unfolding passed later devices_ticked
passed-leaves n s h wrap = record {
  irq = irq-after n s.peripherals.divider (omega arith) ∙ sym (irq-quiet n s.peripherals.divider (omega arith));
  pending = pending-after n s.peripherals.divider (omega arith) ∙ sym (pending-quiet n s.peripherals.divider (omega arith));
}

-- no interrupt is asserted, or it is masked
opcode-due : (pending : Pending) (line masked : Bool) → pending ≡ Nothing → line && not masked ≡ false
    → is_opcode (if is_reset pending then Reset else (if line && not masked then Interrupt else Opcode)) ≡ true
opcode-due Nothing line masked e f = rw f refl
opcode-due Power line masked e f = cc
opcode-due Watchdog line masked e f = cc

masked-off : (line irq_idle masked asked : Bool) → (irq_idle ≡ true → line ≡ false) → (irq_idle || masked) || (asked && not line) ≡ true
    → line && not masked ≡ false
masked-off false irq_idle masked asked deasserted e = refl
masked-off true irq_idle true asked deasserted e = refl
masked-off true true false asked deasserted e = let f = deasserted refl in cc
masked-off true false false true deasserted e = cc
masked-off true false false false deasserted e = cc

wired-ticked : (w : Peripherals) → (devices_ticked w).wired ≡ w.wired
unfolding devices_ticked
wired-ticked w = refl

line-off : (irq wired first second : Bool) → irq ≡ false → wired ≡ false → irq || (wired && (first || second)) ≡ false
line-off irq wired first second e f = rw (e, f) refl

-- an unwired line is the divider's interrupt
unwired : (w : Peripherals) → w.wired ≡ false → LeavesLines w → w.divider.irq ≡ false → line_of (devices_ticked w) ≡ false
unfolding line_of
unwired w off leaves deasserted =
    line-off (devices_ticked w).divider.irq (devices_ticked w).wired (has_request (devices_ticked w).sound1) (has_request (devices_ticked w).sound2)
    (leaves.irq ∙ deasserted) (wired-ticked w ∙ off)

before-limit : (jam : Option ℕ) (boundary : Bool) (limit clock : ℕ) → is_none jam ≡ true → clock < limit
    → is_some jam || (boundary && nat_le limit clock) ≡ false
before-limit None boundary limit clock e h = grind (arith, nat_tests)
before-limit (Some o) boundary limit clock e h = cc

both-false : (a b : Bool) → a ≡ false → b ≡ false → a || b ≡ false
both-false a b e f = rw (e, f) refl

all-true : (a b c : Bool) → a ≡ true → b ≡ true → c ≡ true → (a && (b && c)) ≡ true
all-true a b c e f h = rw (e, f, h) refl

quiet-yet : (clock event : ℕ) → clock + MAX_SEQUENCE_CLOCKS ≤ event → nat_le (clock + MAX_SEQUENCE_CLOCKS) event ≡ true
quiet-yet clock event h = grind (arith, nat_tests)

-- the parts of what is tested at a boundary
is-before-parts : (clock until : ℕ) (running no_interrupt : Bool) → (nat_lt clock until && (running && no_interrupt)) ≡ true
    → (clock < until) × (running ≡ true) × (no_interrupt ≡ true)
is-before-parts clock until running no_interrupt e =
    let both = and_parts (nat_lt clock until) (running && no_interrupt) e in
    let more = and_parts running no_interrupt both.1 in
    (grind (arith, nat_tests), more.0, more.1)

pub horizon-goes_on : (asked : Bool) (limit : ℕ) (stops : ConditionsValue) (horizon : Horizon) (c : CpuValue) (s : BusValue) → c.mid ≡ None
    → is_before asked horizon c s ≡ true → NothingDue limit horizon s → (s.peripherals.clock < horizon.until → LeavesLines s.peripherals)
    → stops_at stops (over_bus c s) ≡ false → GoesOn limit stops c s
unfolding reads_opcode
horizon-goes_on asked limit stops horizon c s boundary is are ticks elsewhere =
    let line = line_of (devices_ticked s.peripherals) in
    let parts =
    is-before-parts s.peripherals.clock horizon.until (is_none c.jam) ((horizon.irq_idle || is_masked c.p) || (asked && not line)) is in
    let early = parts.0 in
    let leaves = ticks early in
    let not_taken : line && not (is_masked c.p) ≡ false =
    masked-off line horizon.irq_idle (is_masked c.p) asked (λ e. unwired s.peripherals (are.irq_idle e).0 leaves (are.irq_idle e).1) parts.2 in
    record {
      open_yet =
          both-false (is_over limit (over_bus c s)) (stops_at stops (over_bus c s))
          (before-limit c.jam (is_none c.mid) limit s.peripherals.clock parts.1 (omega arith)) elsewhere;
      reads =
          all-true (is_none c.mid) (nat_le (s.peripherals.clock + MAX_SEQUENCE_CLOCKS) s.event_at) (is_opcode (sequence_due c (devices_ticked s.peripherals)))
          (rw boundary refl) (quiet-yet s.peripherals.clock s.event_at (omega arith))
          (opcode-due (devices_ticked s.peripherals).divider.pending line (is_masked c.p) (leaves.pending ∙ are.pending) not_taken);
    }

-- a fetch that reads an opcode finds no reset
pub none-pending : (c : CpuValue) (w : Peripherals) → sequence_due c w ≡ Opcode → w.divider.pending ≡ Nothing
none-pending c w e = of w.divider.pending (line_of w && not (is_masked c.p)) e
  where
    of : (p : Pending) (line : Bool) → (if is_reset p then Reset else (if line then Interrupt else Opcode)) ≡ Opcode → p ≡ Nothing
    of Nothing line f = refl
    of Power line f = cc
    of Watchdog line f = cc
