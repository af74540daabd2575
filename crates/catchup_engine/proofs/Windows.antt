-- Why a run ended.
use Rattle.std.proofs.Common.{◌≡◌, ℕ, ◌≤◌, ◌<◌, Bool, true, ◌&&◌, ◌||◌, nat_le, is_some, is_none, min, Option, Some, None, arith}
use Rattle.std.proofs.lemmas.Bool.Decides.{nat_tests}
use Rattle.lockstep_board.specs.declared.stop.Stop.TheVariants.{Window}
use Rattle.lockstep_board.specs.Lockstep.{Board}
use Rattle.lockstep_board.specs.Run.{is_over, is_cut, cause_of, cause_at}

by_jam : (jam : Option ℕ) (none : Bool) (limit wrap : ℕ) (b : Board) → is_some jam || (none && nat_le (min limit wrap) b.peripherals.clock) ≡ true
    → cause_at jam limit b ≡ Window → wrap ≤ b.peripherals.clock
by_jam (Some o) none limit wrap b over cause = cc
by_jam None none limit wrap b over cause = grind (arith, nat_tests)

-- a run to the limit or to a wrap that ended before the limit has come to the wrap
pub window-wrapped : (limit wrap : ℕ) (b : Board) → is_over (min limit wrap) b ≡ true → cause_of limit b ≡ Window → wrap ≤ b.peripherals.clock
window-wrapped limit wrap b over cause = by_jam b.cpu.jam (is_none b.cpu.mid) limit wrap b over cause

cut-by_jam : (jam : Option ℕ) (none : Bool) (cut wrap : ℕ) (b : Board)
    → is_some jam || (nat_le cut b.peripherals.clock || (none && nat_le wrap b.peripherals.clock)) ≡ true → cause_at jam cut b ≡ Window → wrap ≤ b.peripherals.clock
cut-by_jam (Some o) none cut wrap b over cause = cc
cut-by_jam None none cut wrap b over cause = grind (arith, nat_tests)

-- the same for a run to a cut
pub cut-wrapped : (cut wrap : ℕ) (b : Board) → is_cut cut wrap b ≡ true → cause_of cut b ≡ Window → wrap ≤ b.peripherals.clock
cut-wrapped cut wrap b over cause = cut-by_jam b.cpu.jam (is_none b.cpu.mid) cut wrap b over cause

before-by_jam : (jam : Option ℕ) (limit : ℕ) (b : Board) → cause_at jam limit b ≡ Window → b.peripherals.clock < limit
before-by_jam (Some o) limit b cause = cc
before-by_jam None limit b cause = grind (arith, nat_tests)

-- and it is before the limit
pub window-before : (limit : ℕ) (b : Board) → cause_of limit b ≡ Window → b.peripherals.clock < limit
window-before limit b cause = before-by_jam b.cpu.jam limit b cause

pub ruleset windows = (window-wrapped, cut-wrapped, window-before)
