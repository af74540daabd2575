-- Steps one after another, through boards that aren't as asked or that stand inside a sequence.
-- This project's own.
use Rattle.std.specs.Prelude.{◌≡◌, ℕ, List, Bool, false, None, IsSome, zero, suc}
use Rattle.tape_ports.specs.declared.entry.TapeEntry.{TapeEntry}
use Rattle.lockstep_board.specs.Lockstep.{Board, step}

-- the processor isn't jammed, and stands inside a sequence
pub record IsInside (b : Board) : Type 0 where
  pub running : b.cpu.jam ≡ None
  pub middle : IsSome b.cpu.mid

-- n steps lead through boards inside a sequence
abbrev pub Through : List TapeEntry → ℕ → Board → Board → Type 0
Through entries zero b last = last ≡ b
Through entries (suc n) b last = IsInside b × Through entries n (step entries b) last

-- n steps lead to the board last, none of them from a board that is as asked
abbrev pub StepsTo : List TapeEntry → (Board → Bool) → ℕ → Board → Board → Type 0
StepsTo entries asked zero b last = last ≡ b
StepsTo entries asked (suc n) b last = (asked b ≡ false) × StepsTo entries asked n (step entries b) last
