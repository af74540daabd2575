-- The board at which a run has ended, and boards without records.
use Rattle.std.proofs.Common.{◌≡◌, ◌≢◌, ℕ, true, ◌||◌, nat_le, is_some, Option, Some, None, refl}
use Rattle.std.proofs.lemmas.Bool.{true_from_ne_false}
use Rattle.lockstep_board.specs.declared.stop.Stop.TheVariants.{Window}
use Rattle.lockstep_board.specs.Order.{HasNoRecords, cleared}
use Rattle.lockstep_board.specs.Lockstep.{Board}
use Rattle.lockstep_board.specs.Run.{cause_at, cause_of, is_over}

-- a clock is reached, or the processor is jammed
pub at-stop : (jam : Option ℕ) (cut : ℕ) (b : Board) → (cause_at jam cut b ≢ Window) → is_some jam || nat_le cut b.peripherals.clock ≡ true
at-stop (Some o) cut b not_window = refl
at-stop None cut b not_window = true_from_ne_false (nat_le cut b.peripherals.clock) (λ e. not_window (rw e refl))

-- a run to a boundary is over where it didn't end with its window alone
pub over-stop : (limit : ℕ) (b : Board) → b.cpu.mid ≡ None → (cause_of limit b ≢ Window) → is_over limit b ≡ true
over-stop limit b none not_window = rw none (at-stop b.cpu.jam limit b not_window)

-- a board without records is as it is when they are forgotten
pub cleared-empty : (b : Board) → HasNoRecords b → cleared b ≡ b
cleared-empty b none = rw (none.strokes, none.levels1, none.levels2, none.written) refl
