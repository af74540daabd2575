-- A run keeps the image of its board: its wiring, its program and the vector ROM.
use Rattle.std.proofs.Common.{◌≡◌, ℕ, Bool, List, [], ◌∷◌, Option, Some, None, drop, zero, suc, refl, ap, ◌∙◌}
use Rattle.std.proofs.lemmas.List.{drop-set-lt}
use Rattle.board_base.specs.declared.cpu.Sequence.{Sequence}
use Rattle.board_base.specs.declared.cpu.Sequence.TheVariants.{Reset}
use Rattle.board_base.specs.declared.divider.Pending.{Pending}
use Rattle.board_base.specs.declared.divider.Pending.TheVariants.{Nothing}
use Rattle.board_base.specs.declared.vector_memory.TheConstants.{VECTOR_RAM_LEN}
use Rattle.board_base.specs.Cpu.{CpuValue}
use Rattle.board_base.specs.Mid.{MidValue}
use Rattle.board_map.specs.declared.map.Writes.{Writes}
use Rattle.board_map.specs.declared.map.Writes.TheVariants as writes
use Rattle.board_map.specs.Map.{row_of, IsWritable}
use Rattle.board_map.proofs.Within.{writable}
use Rattle.cpu_core.specs.declared.replay.Next.{Next}
use Rattle.cpu_core.specs.declared.replay.Next.TheVariants.{Write}
use Rattle.cpu_core.specs.Registers.{RegistersValue, registers_of}
use Rattle.cpu_core.specs.Sequences.{next_of, start_of}
use Rattle.cpu_core.specs.Places.{given_by}
use Rattle.tape_ports.specs.declared.entry.Port.{Port}
use Rattle.tape_ports.specs.declared.entry.Port.TheVariants as port
use Rattle.tape_ports.specs.declared.entry.TapeEntry.{TapeEntry}
use Rattle.tape_ports.specs.Due.{due_at}
use Rattle.lockstep_board.specs.Lockstep.{Board, accessed, accessed_by, after_access, at_fetch, started, sequence_due, step}
use Rattle.lockstep_board.specs.Run.{clock_steps, stepped, to_clock}
use Rattle.lockstep_board.specs.Peripherals.{Peripherals, applied, byte_put, devices_ticked, port_set, put_in, reset_started, reset_by, ticked}

-- what a state doesn't have
pub record Image : Type 0 where
  pub wired : Bool
  pub program : List ℕ
  pub rom : List ℕ

abbrev pub image_of : Peripherals → Image
image_of w = record { wired = w.wired; program = w.program; rom = drop VECTOR_RAM_LEN w.memory }

port_set-image : (p : Port) (value : ℕ) (w : Peripherals) → image_of (port_set p value w) ≡ image_of w
port_set-image port.In0 value w = refl
port_set-image _ value w = refl

applied-image : (entries : List TapeEntry) (w : Peripherals) → image_of (applied entries w) ≡ image_of w
unfolding applied
applied-image [] w = refl
applied-image (entry ∷ entries) w = applied-image entries (port_set entry.port entry.value w) ∙ port_set-image entry.port entry.value w

ticked-image : (entries : List TapeEntry) (w : Peripherals) → image_of (ticked entries w) ≡ image_of w
unfolding ticked devices_ticked
ticked-image entries w = applied-image (due_at w.clock entries) w

-- a write reaches the vector RAM and not the vector ROM after it
put_in-image : (put : Writes) (k value : ℕ) (w : Peripherals) → IsWritable put k → image_of (put_in put k value w) ≡ image_of w
put_in-image writes.VectorRam k value w at =
    ap (λ (rom : List ℕ). let image : Image = record { wired = w.wired; program = w.program; rom = rom } in image) (drop-set-lt VECTOR_RAM_LEN w.memory k value at)
put_in-image _ k value w at = refl

accessed_by-image : (next : Next) (r : RegistersValue) (q : Sequence) (bytes : List ℕ) (w : Peripherals) → image_of (accessed_by next r q bytes w).peripherals ≡ image_of w
unfolding byte_put
accessed_by-image (Write a v) r q bytes w = put_in-image (row_of a).writes (row_of a).offset v w (writable a)
accessed_by-image _ r q bytes w = refl

accessed-image : (r : RegistersValue) (q : Sequence) (bytes : List ℕ) (w : Peripherals) → image_of (accessed r q bytes w).peripherals ≡ image_of w
unfolding accessed
accessed-image r q bytes w = accessed_by-image (next_of r q bytes) r q bytes w

reset_by-image : (p : Pending) (w : Peripherals) → image_of (reset_by p w) ≡ image_of w
reset_by-image Nothing w = refl
reset_by-image _ w = refl

started-image : (q : Sequence) (b : Board) → image_of (started q b).peripherals ≡ image_of b.peripherals
unfolding reset_started
started-image Reset b = reset_by-image b.peripherals.divider.pending b.peripherals
started-image _ b = refl

after_access-image : (mid : Option MidValue) (c : CpuValue) (w : Peripherals) → image_of (after_access mid c w).peripherals ≡ image_of w
unfolding at_fetch
after_access-image None c w =
    started-image (sequence_due c w) (accessed (start_of (sequence_due c w) c) (sequence_due c w) [] w) ∙ accessed-image (start_of (sequence_due c w) c) (sequence_due c w) [] w
after_access-image (Some mid) c w = accessed-image (registers_of c) mid.sequence (given_by mid) w

step-image : (entries : List TapeEntry) (b : Board) → image_of (step entries b).peripherals ≡ image_of b.peripherals
unfolding step
step-image entries b = after_access-image b.cpu.mid b.cpu (ticked entries b.peripherals) ∙ ticked-image entries b.peripherals

pub stepped-image : (entries : List TapeEntry) (n : ℕ) (b : Board) → image_of (stepped entries n b).peripherals ≡ image_of b.peripherals
unfolding stepped
stepped-image entries zero b = refl
stepped-image entries (suc n) b = stepped-image entries n (step entries b) ∙ step-image entries b

pub clock-image : (entries : List TapeEntry) (cut : ℕ) (b : Board) → image_of (to_clock entries cut b).peripherals ≡ image_of b.peripherals
unfolding to_clock
clock-image entries cut b = stepped-image entries (clock_steps entries cut b) b
