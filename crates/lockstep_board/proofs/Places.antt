-- Where a step leaves the processor: between two sequences, or after one access more of its
-- sequence.
use Rattle.std.proofs.Common.{◌≡◌, ℕ, ◌≤◌, List, length, Option, Some, None, IfSome, arith}
use Rattle.board_base.specs.Mid.{MidValue}
use Rattle.cpu_core.specs.Places.{given_by}
use Rattle.tape_ports.specs.declared.entry.TapeEntry.{TapeEntry}
use Rattle.lockstep_board.specs.Peripherals.{ticked}
use Rattle.lockstep_board.specs.Lockstep.{Board, step}
use Rattle.lockstep_board.specs.Run.{stepped, to_clock, to_boundary, to_cut, clock_steps, boundary_steps, cut_steps, IsPlaced}
use Rattle.lockstep_board.proofs.Clocks.{StandsAt, next_count, after_access-is}
use Rattle.lockstep_board.proofs.Runs.{stepped-keeps}

-- a step makes one access more
pub step-at : (entries : List TapeEntry) (b : Board) → StandsAt (next_count b.cpu.mid) (step entries b).cpu
unfolding step
step-at entries b = (after_access-is b.cpu.mid b.cpu (ticked entries b.peripherals)).at

placed-at : (P : Type 0) (before after : Option MidValue) → IfSome after (λ m. (length (given_by m) ≡ next_count before) × (next_count before ≤ 6) × P)
    → IfSome after (λ m. 1 ≤ length (given_by m)) × IfSome after (λ _. P)
placed-at P before None at = (tt, tt)
placed-at P None (Some m) at = let same = at.0 in (omega arith, at.2)
placed-at P (Some k) (Some m) at = let same = at.0 in (omega arith, at.2)

-- a jammed processor stands at a boundary
abbrev pub RunsInside : Board → Type 0
RunsInside b = IfSome b.cpu.mid (λ _. b.cpu.jam ≡ None)

-- whatever was before, after a step inside a sequence an access is made
pub step-placed : (entries : List TapeEntry) (b : Board) → IsPlaced (step entries b)
step-placed entries b = (placed-at _ b.cpu.mid (step entries b).cpu.mid (step-at entries b)).0

-- and an undocumented opcode jams the processor at the end of its sequence
pub step-inside : (entries : List TapeEntry) (b : Board) → RunsInside (step entries b)
step-inside entries b = (placed-at _ b.cpu.mid (step entries b).cpu.mid (step-at entries b)).1

-- n steps keep it
pub stepped-placed : (entries : List TapeEntry) (n : ℕ) (b : Board) → IsPlaced b → IsPlaced (stepped entries n b)
stepped-placed entries n b placed = stepped-keeps entries IsPlaced (λ c _. step-placed entries c) n b placed

-- and so do the three runs
pub to_clock-placed : (entries : List TapeEntry) (cut : ℕ) (b : Board) → IsPlaced b → IsPlaced (to_clock entries cut b)
unfolding to_clock
to_clock-placed entries cut b placed = stepped-placed entries (clock_steps entries cut b) b placed

pub to_boundary-placed : (entries : List TapeEntry) (limit : ℕ) (b : Board) → IsPlaced b → IsPlaced (to_boundary entries limit b)
unfolding to_boundary
to_boundary-placed entries limit b placed = stepped-placed entries (boundary_steps entries limit b) b placed

pub to_cut-placed : (entries : List TapeEntry) (cut wrap : ℕ) (b : Board) → IsPlaced b → IsPlaced (to_cut entries cut wrap b)
unfolding to_cut
to_cut-placed entries cut wrap b placed = stepped-placed entries (cut_steps entries cut wrap b) b placed

pub ruleset places = (step-placed, to_clock-placed, to_boundary-placed, to_cut-placed)
