-- The lockstep board turn by turn, and runs that also end at a board at which they stop.
use Rattle.std.specs.Prelude.{◌≡◌, ℕ, ◌+◌, ◌==◌, ◌<◌, ◌≤◌, Bool, false, List, zero, suc}
use Rattle.std.specs.List.{list_any}
use Rattle.tape_ports.specs.declared.entry.TapeEntry.{TapeEntry}
use Rattle.lockstep_board.specs.Lockstep.{Board}
use Rattle.lockstep_board.specs.Run.{is_over, to_boundary}

-- a turn is what is left of the sequence under way, or else one instruction or sequence; a jammed
-- board stays as it is
abbrev pub turn : List TapeEntry → Board → Board
turn entries b = to_boundary entries (b.peripherals.clock + 1) b

-- the board after n turns
unfoldable pub turned : List TapeEntry → ℕ → Board → Board
turned entries zero b = b
turned entries (suc n) b = turned entries n (turn entries b)

-- the processor stands at one of these addresses
abbrev pub is_at_any : List ℕ → Board → Bool
is_at_any addresses b = list_any (λ address. address == b.cpu.pc) addresses

-- Some turns lead from b to c, one at least. After none of them but the last a run to this limit is
-- over, or the board is one at which it stops.
pub record BreakRun (entries : List TapeEntry) (limit : ℕ) (stops : Board → Bool) (b c : Board) : Type 0 where
  pub count : ℕ
  pub some : 1 ≤ count
  pub board : c ≡ turned entries count b
  pub over : (k : ℕ) → 1 ≤ k → k < count → is_over limit (turned entries k b) ≡ false
  pub at : (k : ℕ) → 1 ≤ k → k < count → stops (turned entries k b) ≡ false

-- a run to a boundary is so many turns, before each of which it isn't over
pub record TurnsTo (entries : List TapeEntry) (limit : ℕ) (b : Board) : Type 0 where
  pub count : ℕ
  pub board : to_boundary entries limit b ≡ turned entries count b
  pub over : (k : ℕ) → k < count → is_over limit (turned entries k b) ≡ false
