-- Counts over the steps of a board, and the parts of a budget.
use Rattle.std.proofs.Common.{◌≡◌, ℕ, ◌+◌, ◌*◌, List, zero, suc, refl, sym, arith, zero-add}
use Rattle.tape_ports.specs.declared.entry.TapeEntry.{TapeEntry}
use Rattle.lockstep_board.specs.Lockstep.{Board, step}
use Rattle.lockstep_board.specs.Run.{stepped}
use Rattle.lockstep_board.specs.Budget.{device_accesses, wraps, entries_applied, requests, resets_started, counted, ticks_price, price, budget}

-- a count over some steps and then over others
pub counted-add : (entries : List TapeEntry) (of_clock : Board → ℕ) (n m : ℕ) (b : Board)
    → counted entries of_clock (n + m) b ≡ counted entries of_clock n b + counted entries of_clock m (stepped entries n b)
unfolding counted stepped
counted-add entries of_clock zero m b = rw (zero-add m) (sym (zero-add (counted entries of_clock m b)))
counted-add entries of_clock (suc n) m b = let e : suc n + m ≡ suc (n + m) = omega arith in rw e (omega (arith, counted-add entries of_clock n m (step entries b)))

-- a budget is two calls for each device access, and five for each wrap, entry, request and reset
pub budget-parts : (entries : List TapeEntry) (n : ℕ) (b : Board) → budget entries n b ≡ 2 * counted entries (device_accesses entries) n b
    + 5 * (counted entries (λ c. wraps c.peripherals) n b + counted entries (λ c. entries_applied entries c.peripherals) n b
    + counted entries (λ c. requests entries c.peripherals) n b + counted entries (resets_started entries) n b)
unfolding counted price ticks_price
budget-parts entries zero b = refl
budget-parts entries (suc n) b = let later = budget-parts entries n (step entries b) in omega arith

-- a budget for some steps and then for others
pub budget-add : (entries : List TapeEntry) (n m : ℕ) (b : Board) → budget entries (n + m) b ≡ budget entries n b + budget entries m (stepped entries n b)
budget-add entries n m b = counted-add entries (price entries) n m b

pub ruleset budgets = (counted-add, budget-parts, budget-add)
