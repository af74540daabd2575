-- Records made before don't change what a board does: it only adds to them.
use Rattle.std.proofs.Common.{◌≡◌, ℕ, ◌+◌, ◌-◌, Bool, List, [], ◌∷◌, ◌++◌, Option, Some, None, zero, suc, refl, ap, ◌∙◌, append_assoc, append-nil}
use Rattle.board_base.specs.declared.cpu.Sequence.{Sequence}
use Rattle.board_base.specs.declared.cpu.Sequence.TheVariants.{Reset}
use Rattle.board_base.specs.declared.divider.Pending.{Pending}
use Rattle.board_base.specs.declared.divider.Pending.TheVariants.{Watchdog}
use Rattle.board_base.specs.Cpu.{CpuValue}
use Rattle.board_base.specs.Mid.{MidValue}
use Rattle.board_map.specs.declared.map.Reads.{Reads}
use Rattle.board_map.specs.declared.map.Reads.TheVariants as reads
use Rattle.board_map.specs.declared.map.Writes.{Writes}
use Rattle.board_map.specs.declared.map.Writes.TheVariants as writes
use Rattle.board_map.specs.Map.{row_of}
use Rattle.cpu_core.specs.declared.replay.Next.{Next}
use Rattle.cpu_core.specs.declared.replay.Next.TheVariants.{Read, Write, End}
use Rattle.cpu_core.specs.Registers.{RegistersValue, registers_of}
use Rattle.cpu_core.specs.Sequences.{next_of, start_of}
use Rattle.cpu_core.specs.Places.{given_by}
use Rattle.tape_ports.specs.declared.entry.Port.{Port}
use Rattle.tape_ports.specs.declared.entry.Port.TheVariants as port
use Rattle.tape_ports.specs.declared.entry.TapeEntry.{TapeEntry}
use Rattle.tape_ports.specs.Due.{due_at}
use Rattle.lockstep_board.specs.Peripherals.{Peripherals, port_set, applied, devices_ticked, ticked, line_of, byte_in, byte_read, put_in, byte_put, reset_by, reset_started}
use Rattle.lockstep_board.specs.Lockstep.{Board, accessed, accessed_by, sequence_due, started, at_fetch, after_access, step, made_by, due_access, access_in}
use Rattle.lockstep_board.specs.Run.{stepped, steps_until, is_over, is_at, is_cut, boundary_steps, clock_steps, to_boundary, to_clock, to_cut}
use Rattle.lockstep_board.specs.Budget.{counted, begins_reset, ticks_price, price, budget}
use Rattle.lockstep_board.specs.Order.{cleared, Recorded, behind, records_of}

-- peripherals with earlier records
abbrev front : Recorded → Peripherals → Peripherals
front l w = record w { strokes = l.strokes ++ w.strokes; levels1 = l.levels1 ++ w.levels1; levels2 = l.levels2 ++ w.levels2; written = l.written ++ w.written }

port_set-front : (p : Port) (value : ℕ) (l : Recorded) (w : Peripherals) → port_set p value (front l w) ≡ front l (port_set p value w)
port_set-front port.In0 value l w = refl
port_set-front _ value l w = refl

applied-front : (entries : List TapeEntry) (l : Recorded) (w : Peripherals) → applied entries (front l w) ≡ front l (applied entries w)
unfolding applied
applied-front [] l w = refl
applied-front (entry ∷ entries) l w = rw (port_set-front entry.port entry.value l w) (applied-front entries l (port_set entry.port entry.value w))

ticked-front : (entries : List TapeEntry) (l : Recorded) (w : Peripherals) → ticked entries (front l w) ≡ front l (ticked entries w)
unfolding ticked devices_ticked
ticked-front entries l w = rw (applied-front (due_at w.clock entries) l w) (simp append_assoc)

byte_read-front : (got : Reads) (k : ℕ) (l : Recorded) (w : Peripherals) → byte_in got k (front l w) ≡ byte_in got k w
byte_read-front reads.Ram k l w = refl
byte_read-front _ k l w = refl

put_in-front : (put : Writes) (k value : ℕ) (l : Recorded) (w : Peripherals) → put_in put k value (front l w) ≡ front l (put_in put k value w)
put_in-front writes.OutputLatch k value l w = rw append_assoc refl
put_in-front _ k value l w = refl

accessed_by-front : (next : Next) (r : RegistersValue) (q : Sequence) (bytes : List ℕ) (l : Recorded) (w : Peripherals)
    → accessed_by next r q bytes (front l w) ≡ behind l (accessed_by next r q bytes w)
unfolding byte_read byte_put
accessed_by-front (Read a) r q bytes l w = rw (byte_read-front (row_of a).reads (row_of a).offset l w) refl
accessed_by-front (Write a v) r q bytes l w = rw (put_in-front (row_of a).writes (row_of a).offset v l w) refl
accessed_by-front (End e) r q bytes l w = refl

reset_by-front : (p : Pending) (l : Recorded) (w : Peripherals) → reset_by p (front l w) ≡ front l (reset_by p w)
reset_by-front Watchdog l w = rw append_assoc refl
reset_by-front _ l w = refl

started-behind : (q : Sequence) (l : Recorded) (b : Board) → started q (behind l b) ≡ behind l (started q b)
unfolding reset_started
started-behind Reset l b = ap (λ (w : Peripherals). record b { peripherals = w }) (reset_by-front b.peripherals.divider.pending l b.peripherals)
started-behind _ l b = refl

after_access-front : (mid : Option MidValue) (c : CpuValue) (l : Recorded) (w : Peripherals) → after_access mid c (front l w) ≡ behind l (after_access mid c w)
unfolding at_fetch accessed line_of
after_access-front None c l w =
    let q = sequence_due c w in
    ap (started q) (accessed_by-front (next_of (start_of q c) q []) (start_of q c) q [] l w) ∙ started-behind q l (accessed (start_of q c) q [] w)
after_access-front (Some m) c l w = accessed_by-front (next_of (registers_of c) m.sequence (given_by m)) (registers_of c) m.sequence (given_by m) l w

-- a step adds to the records made before
pub step-behind : (entries : List TapeEntry) (l : Recorded) (b : Board) → step entries (behind l b) ≡ behind l (step entries b)
unfolding step
step-behind entries l b = rw (ticked-front entries l b.peripherals, after_access-front b.cpu.mid b.cpu l (ticked entries b.peripherals)) refl

-- and so do n steps
pub stepped-behind : (entries : List TapeEntry) (n : ℕ) (l : Recorded) (b : Board) → stepped entries n (behind l b) ≡ behind l (stepped entries n b)
unfolding stepped
stepped-behind entries zero l b = refl
stepped-behind entries (suc n) l b = ap (stepped entries n) (step-behind entries l b) ∙ stepped-behind entries n l (step entries b)

-- what is asked of a board without its records is found after as many steps
pub steps_until-behind : (entries : List TapeEntry) (asked : Board → Bool) → ((l : Recorded) (b : Board) → asked (behind l b) ≡ asked b)
    → (most : ℕ) (l : Recorded) (b : Board) → steps_until entries asked most (behind l b) ≡ steps_until entries asked most b
unfolding steps_until
steps_until-behind entries asked same zero l b = refl
steps_until-behind entries asked same (suc most) l b = rw (step-behind entries l b, steps_until-behind entries asked same most l (step entries b), same l b) refl

-- as many steps and the same board, but for the records
behind-by : (entries : List TapeEntry) (asked : Board → Bool) → ((l : Recorded) (b : Board) → asked (behind l b) ≡ asked b) → (most : ℕ) (l : Recorded) (b : Board)
    → stepped entries (steps_until entries asked most (behind l b)) (behind l b) ≡ behind l (stepped entries (steps_until entries asked most b) b)
behind-by entries asked same most l b = rw (steps_until-behind entries asked same most l b) (stepped-behind entries (steps_until entries asked most b) l b)

-- a run adds to the records made before
pub to_clock-behind : (entries : List TapeEntry) (cut : ℕ) (l : Recorded) (b : Board) → to_clock entries cut (behind l b) ≡ behind l (to_clock entries cut b)
unfolding to_clock
to_clock-behind entries cut l b = behind-by entries (is_at cut) (λ _ _. refl) (cut - b.peripherals.clock) l b

-- the same for a run to a boundary
pub to_boundary-behind : (entries : List TapeEntry) (limit : ℕ) (l : Recorded) (b : Board) → to_boundary entries limit (behind l b) ≡ behind l (to_boundary entries limit b)
unfolding to_boundary
to_boundary-behind entries limit l b = behind-by entries (is_over limit) (λ _ _. refl) ((limit - b.peripherals.clock) + 6) l b

-- and for one to a clock or a window's end
pub to_cut-behind : (entries : List TapeEntry) (cut wrap : ℕ) (l : Recorded) (b : Board) → to_cut entries cut wrap (behind l b) ≡ behind l (to_cut entries cut wrap b)
unfolding to_cut
to_cut-behind entries cut wrap l b = behind-by entries (is_cut cut wrap) (λ _ _. refl) (cut - b.peripherals.clock) l b

-- each run takes as many steps
pub clock_steps-behind : (entries : List TapeEntry) (cut : ℕ) (l : Recorded) (b : Board) → clock_steps entries cut (behind l b) ≡ clock_steps entries cut b
clock_steps-behind entries cut l b = steps_until-behind entries (is_at cut) (λ _ _. refl) (cut - b.peripherals.clock) l b

pub boundary_steps-behind : (entries : List TapeEntry) (limit : ℕ) (l : Recorded) (b : Board) → boundary_steps entries limit (behind l b) ≡ boundary_steps entries limit b
boundary_steps-behind entries limit l b = steps_until-behind entries (is_over limit) (λ _ _. refl) ((limit - b.peripherals.clock) + 6) l b

made_by-front : (next : Next) (l : Recorded) (w : Peripherals) → made_by next (front l w) ≡ made_by next w
unfolding byte_read
made_by-front (Read a) l w = rw (byte_read-front (row_of a).reads (row_of a).offset l w) refl
made_by-front _ l w = refl

due-front : (mid : Option MidValue) (c : CpuValue) (l : Recorded) (w : Peripherals) → (due_access mid c (front l w) ≡ due_access mid c w) × (begins_reset mid c (front l w) ≡ begins_reset mid c w)
unfolding line_of
due-front None c l w = let q = sequence_due c w in (made_by-front (next_of (start_of q c) q []) l w, refl)
due-front (Some mid) c l w = (made_by-front (next_of (registers_of c) mid.sequence (given_by mid)) l w, refl)

-- the next access is the same
pub access_in-behind : (entries : List TapeEntry) (l : Recorded) (b : Board) → access_in entries (behind l b) ≡ access_in entries b
unfolding access_in
access_in-behind entries l b = rw (ticked-front entries l b.peripherals) (due-front b.cpu.mid b.cpu l (ticked entries b.peripherals)).0

-- and so is its price
price-behind : (entries : List TapeEntry) (l : Recorded) (b : Board) → price entries (behind l b) ≡ price entries b
unfolding price ticks_price
price-behind entries l b =
    rw (
      access_in-behind entries l b,
      ticked-front entries l b.peripherals,
      (due-front b.cpu.mid b.cpu l (ticked entries b.peripherals)).1,
      applied-front (due_at b.peripherals.clock entries) l b.peripherals,
    ) refl

-- a count of what the records don't change is the same
pub counted-behind : (entries : List TapeEntry) (of_clock : Board → ℕ) → ((l : Recorded) (b : Board) → of_clock (behind l b) ≡ of_clock b)
    → (n : ℕ) (l : Recorded) (b : Board) → counted entries of_clock n (behind l b) ≡ counted entries of_clock n b
unfolding counted
counted-behind entries of_clock same zero l b = refl
counted-behind entries of_clock same (suc n) l b = rw (step-behind entries l b, counted-behind entries of_clock same n l (step entries b), same l b) refl

-- so that a budget is the same
pub budget-behind : (entries : List TapeEntry) (n : ℕ) (l : Recorded) (b : Board) → budget entries n (behind l b) ≡ budget entries n b
budget-behind entries n l b = counted-behind entries (price entries) (price-behind entries) n l b

-- a board is its own records, and itself without them
pub behind-cleared : (b : Board) → behind (records_of b) (cleared b) ≡ b
behind-cleared b = simp append-nil

pub ruleset behinds = (to_clock-behind, to_boundary-behind, to_cut-behind, access_in-behind, budget-behind, behind-cleared)
