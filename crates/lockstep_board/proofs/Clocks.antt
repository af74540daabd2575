-- Each step is one clock, makes one access more of a sequence, and one record on the board's trail
-- at most.
use Rattle.std.proofs.Common.{◌≡◌, ℕ, ◌+◌, ◌++◌, List, ◌∷◌, [], Option, Some, None, IfSome, zero, suc, length, ◌≤◌, refl, sym, ap, subst, ◌∙◌, arith, add-zero, append-nil, length-append}
use Rattle.board_base.specs.declared.cpu.Sequence.{Sequence}
use Rattle.board_base.specs.declared.cpu.Sequence.TheVariants.{Reset}
use Rattle.board_base.specs.declared.divider.Pending.{Pending}
use Rattle.board_base.specs.declared.divider.Pending.TheVariants.{Watchdog}
use Rattle.board_base.specs.declared.part.Part.TheVariants as part
use Rattle.board_base.specs.declared.record.Record.{Record}
use Rattle.board_base.specs.declared.record.Record.TheVariants.{Latch, WatchdogReset}
use Rattle.board_base.specs.Cpu.{CpuValue}
use Rattle.board_base.specs.Mid.{MidValue}
use Rattle.board_base.specs.Divider.{DividerValue}
use Rattle.board_base.specs.Records.{MadeBetween}
use Rattle.board_map.specs.declared.map.Writes.{Writes}
use Rattle.board_map.specs.declared.map.Writes.TheVariants as writes
use Rattle.board_map.specs.Map.{row_of}
use Rattle.cpu_core.specs.declared.replay.Next.{Next}
use Rattle.cpu_core.specs.declared.replay.Next.TheVariants.{Read, Write, End}
use Rattle.cpu_core.specs.Registers.{RegistersValue, registers_of}
use Rattle.cpu_core.specs.Sequences.{next_of, start_of, IsEnd}
use Rattle.cpu_core.specs.Places.{standing, stopped, given_by}
use Rattle.cpu_core.proofs.LengthLemmas.{six_before_end}
use Rattle.cpu_core.proofs.EndLemmas.{end-closes}
use Rattle.cpu_core.proofs.PlaceLemmas.{given_paused}
use Rattle.tape_ports.specs.declared.entry.Port.{Port}
use Rattle.tape_ports.specs.declared.entry.Port.TheVariants as port
use Rattle.tape_ports.specs.declared.entry.TapeEntry.{TapeEntry}
use Rattle.tape_ports.specs.Due.{due_at}
use Rattle.lockstep_board.specs.Peripherals.{Peripherals, port_set, applied, devices_ticked, ticked, put_in, byte_put, reset_by, reset_started}
use Rattle.lockstep_board.specs.Lockstep.{Board, accessed, accessed_by, sequence_due, started, at_fetch, after_access, step}
use Rattle.lockstep_board.specs.Run.{stepped}
use Rattle.lockstep_board.specs.Steps.{Through}

-- entries of the tape are no clock and no record, and leave the divider
abbrev pub kept : Peripherals → ℕ × DividerValue × List Record × List Record × List Record × List Record
kept w = (w.clock, w.divider, w.strokes, w.levels1, w.levels2, w.written)

port_set-kept : (p : Port) (value : ℕ) (w : Peripherals) → kept (port_set p value w) ≡ kept w
port_set-kept port.In0 value w = refl
port_set-kept _ value w = refl

pub applied-kept : (entries : List TapeEntry) (w : Peripherals) → kept (applied entries w) ≡ kept w
unfolding applied
applied-kept [] w = refl
applied-kept (entry ∷ entries) w = applied-kept entries (port_set entry.port entry.value w) ∙ port_set-kept entry.port entry.value w

-- the ticks of a clock don't raise it yet, and aren't recorded on the board's own trail
pub ticked-clock : (entries : List TapeEntry) (w : Peripherals) → (ticked entries w).clock ≡ w.clock
unfolding ticked devices_ticked
ticked-clock entries w = ap (λ k. k.0) (applied-kept (due_at w.clock entries) w)

pub ticked-written : (entries : List TapeEntry) (w : Peripherals) → (ticked entries w).written ≡ w.written
unfolding ticked devices_ticked
ticked-written entries w = ap (λ k. k.5) (applied-kept (due_at w.clock entries) w)

-- an access leaves the clock, the divider's phase and the other trails, and makes one record of its
-- clock on the board's own at most
abbrev pub left : Peripherals → ℕ × ℕ × List Record × List Record × List Record
left w = (w.clock, w.divider.phase, w.strokes, w.levels1, w.levels2)

pub record AddsOne (w v : Peripherals) : Type 0 where
  pub added : List Record
  pub same : left v ≡ left w
  pub written : v.written ≡ w.written ++ added
  pub made : MadeBetween part.Board w.clock added (w.clock + 1)
  pub few : length added ≤ 1

adds-none : (w v : Peripherals) → left v ≡ left w → v.written ≡ w.written → AddsOne w v
adds-none w v same written = record { added = []; same = same; written = written ∙ sym (append-nil w.written); made = omega arith; few = omega arith }

adds-few : (w v : Peripherals) → AddsOne w v → length v.written ≤ length w.written + 1
adds-few w v one = let few = one.few in rw one.written (omega (arith, length-append w.written one.added))

put_in-adds : (put : Writes) (k value : ℕ) (w : Peripherals) → AddsOne w (put_in put k value w)
put_in-adds writes.OutputLatch k value w = record { added = Latch w.clock value ∷ []; same = refl; written = refl; made = (tt, omega arith, omega arith, omega arith); few = omega arith }
put_in-adds _ k value w = adds-none w _ refl refl

reset_by-adds : (p : Pending) (w : Peripherals) → AddsOne w (reset_by p w)
reset_by-adds Watchdog w = record { added = WatchdogReset w.clock ∷ []; same = refl; written = refl; made = (tt, omega arith, omega arith, omega arith); few = omega arith }
reset_by-adds _ w = adds-none w _ refl refl

-- inside a sequence so many of its accesses are made, of which there are six at most, and the
-- processor isn't jammed
abbrev pub StandsAt : ℕ → CpuValue → Type 0
StandsAt n c = IfSome c.mid (λ m. (length (given_by m) ≡ n) × (n ≤ 6) × (c.jam ≡ None))

stopped-at : (next : Next) (r : RegistersValue) (q : Sequence) (bytes : List ℕ) → next_of r q bytes ≡ next → StandsAt (length bytes) (stopped r q bytes next)
stopped-at (End e) r q bytes is = rw (end-closes r q bytes e is) tt
stopped-at _ r q bytes is = let short = six_before_end r q bytes (λ end. subst IsEnd is end) in (ap length (given_paused bytes), omega arith, refl)

standing-one : (r : RegistersValue) (q : Sequence) (bytes : List ℕ) (v : ℕ) → StandsAt (length bytes + 1) (standing r q (bytes ++ v ∷ []))
standing-one r q bytes v = subst (λ n. StandsAt n (standing r q (bytes ++ v ∷ []))) (length-append bytes (v ∷ [])) (stopped-at _ r q (bytes ++ v ∷ []) refl)

-- how many accesses of its sequence are made where the next one is made too
abbrev pub next_count : Option MidValue → ℕ
next_count None = 1
next_count (Some m) = length (given_by m) + 1

-- what an access leaves
pub record Accessed (n : ℕ) (w : Peripherals) (b : Board) : Type 0 where
  pub at : StandsAt n b.cpu
  pub adds : AddsOne w b.peripherals

accessed_by-is : (next : Next) (r : RegistersValue) (q : Sequence) (bytes : List ℕ) (w : Peripherals) → next_of r q bytes ≡ next → Accessed (length bytes + 1) w (accessed_by next r q bytes w)
unfolding byte_put
accessed_by-is (Read a) r q bytes w is = record { at = standing-one r q bytes _; adds = adds-none w w refl refl }
accessed_by-is (Write a v) r q bytes w is = record { at = standing-one r q bytes v; adds = put_in-adds (row_of a).writes (row_of a).offset v w }
accessed_by-is (End e) r q bytes w is = record { at = rw (end-closes r q bytes e is) tt; adds = adds-none w w refl refl }

-- a sequence begins with a read
first-is : (q : Sequence) (r : RegistersValue) (w : Peripherals) → Accessed 1 w (started q (accessed r q [] w))
unfolding accessed next_of reset_started
first-is Reset r w = record { at = (accessed_by-is _ r Reset [] w refl).at; adds = reset_by-adds w.divider.pending w }
first-is q r w = record { at = (accessed_by-is _ r q [] w refl).at; adds = adds-none w w refl refl }

pub after_access-is : (mid : Option MidValue) (c : CpuValue) (w : Peripherals) → Accessed (next_count mid) w (after_access mid c w)
unfolding at_fetch accessed
after_access-is None c w = first-is (sequence_due c w) (start_of (sequence_due c w) c) w
after_access-is (Some m) c w = accessed_by-is _ (registers_of c) m.sequence (given_by m) w refl

pub put_in-clock : (put : Writes) (k value : ℕ) (w : Peripherals) → (put_in put k value w).clock ≡ w.clock
put_in-clock put k value w = ap (λ k. k.0) (put_in-adds put k value w).same

pub reset_by-clock : (p : Pending) (w : Peripherals) → (reset_by p w).clock ≡ w.clock
reset_by-clock p w = ap (λ k. k.0) (reset_by-adds p w).same

-- a step is a clock
pub step-clock : (entries : List TapeEntry) (b : Board) → (step entries b).peripherals.clock ≡ b.peripherals.clock + 1
unfolding step
step-clock entries b = let one = (after_access-is b.cpu.mid b.cpu (ticked entries b.peripherals)).adds in ap (λ n. n + 1) (ap (λ k. k.0) one.same ∙ ticked-clock entries b.peripherals)

-- and makes one record at most
pub step-written : (entries : List TapeEntry) (b : Board) → length (step entries b).peripherals.written ≤ length b.peripherals.written + 1
unfolding step
step-written entries b =
    let more = adds-few _ _ (after_access-is b.cpu.mid b.cpu (ticked entries b.peripherals)).adds in
    let same = ap (λ (records : List Record). length records) (ticked-written entries b.peripherals) in omega arith

-- n steps are n clocks
pub stepped-clock : (entries : List TapeEntry) (n : ℕ) (b : Board) → (stepped entries n b).peripherals.clock ≡ b.peripherals.clock + n
unfolding stepped
stepped-clock entries zero b = sym (add-zero b.peripherals.clock)
stepped-clock entries (suc n) b = omega (arith, stepped-clock entries n (step entries b), step-clock entries b)

-- steps through the inside of a sequence are as many clocks
pub through-clock : (entries : List TapeEntry) (n : ℕ) (b last : Board) → Through entries n b last → last.peripherals.clock ≡ b.peripherals.clock + n
through-clock entries zero b last e = rw e (omega arith)
through-clock entries (suc n) b last t = omega (arith, through-clock entries n (step entries b) last t.1, step-clock entries b)

-- and make as many records at most
pub through-written : (entries : List TapeEntry) (n : ℕ) (b last : Board) → Through entries n b last → length last.peripherals.written ≤ length b.peripherals.written + n
through-written entries zero b last e = rw e (omega arith)
through-written entries (suc n) b last t = omega (arith, through-written entries n (step entries b) last t.1, step-written entries b)
