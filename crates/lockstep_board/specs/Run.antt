-- Runs of the lockstep board.
use Rattle.std.specs.Prelude.{ℕ, ◌+◌, ◌-◌, Bool, ◌&&◌, ◌||◌, nat_le, is_some, is_none, min, ◌≤◌, length, List, Option, Some, None, IfSome, if◌then◌else◌, zero, suc}
use Rattle.board_base.specs.declared.divider.TheConstants.{DIVIDER_PERIOD}
use Rattle.cpu_core.specs.Places.{given_by}
use Rattle.tape_ports.specs.declared.entry.TapeEntry.{TapeEntry}
use Rattle.lockstep_board.specs.declared.stop.Stop.{Stop}
use Rattle.lockstep_board.specs.declared.stop.Stop.TheVariants.{Limit, Window, Jammed}
use Rattle.lockstep_board.specs.Lockstep.{Board, step}

-- the board after n steps
unfoldable pub stepped : List TapeEntry → ℕ → Board → Board
stepped entries zero b = b
stepped entries (suc n) b = stepped entries n (step entries b)

-- the least number of steps after which a board is as asked, looked for among so many
unfoldable pub steps_until : List TapeEntry → (Board → Bool) → ℕ → Board → ℕ
steps_until entries asked zero b = 0
steps_until entries asked (suc most) b = if asked b then 0 else suc (steps_until entries asked most (step entries b))

-- an undocumented opcode has stopped the processor
abbrev pub is_jammed : Board → Bool
is_jammed b = is_some b.cpu.jam

-- the processor stands between two sequences
abbrev pub is_at_boundary : Board → Bool
is_at_boundary b = is_none b.cpu.mid

-- a run to a boundary is over with a jam, and else at the first boundary that isn't before the
-- limit
abbrev pub is_over : ℕ → Board → Bool
is_over limit b = is_jammed b || (is_at_boundary b && nat_le limit b.peripherals.clock)

-- a run to a clock is over with a jam, and else at that clock
abbrev pub is_at : ℕ → Board → Bool
is_at cut b = is_jammed b || nat_le cut b.peripherals.clock

-- a run to a clock that ends with a window too: at the first boundary that isn't before the
-- divider's wrap
abbrev pub is_cut : ℕ → ℕ → Board → Bool
is_cut cut wrap b = is_jammed b || (nat_le cut b.peripherals.clock || (is_at_boundary b && nat_le wrap b.peripherals.clock))

-- a sequence takes seven clocks at most, so that a run to a boundary ends within six clocks after
-- its limit
abbrev pub boundary_steps : List TapeEntry → ℕ → Board → ℕ
boundary_steps entries limit b = steps_until entries (is_over limit) ((limit - b.peripherals.clock) + 6) b

-- a run to a clock takes as many steps as there are clocks to it, or fewer
abbrev pub clock_steps : List TapeEntry → ℕ → Board → ℕ
clock_steps entries cut b = steps_until entries (is_at cut) (cut - b.peripherals.clock) b

abbrev pub cut_steps : List TapeEntry → ℕ → ℕ → Board → ℕ
cut_steps entries cut wrap b = steps_until entries (is_cut cut wrap) (cut - b.peripherals.clock) b

-- the board at the end of a run to a boundary, of one to a clock, and of one to a clock or a
-- window's end
unfoldable pub to_boundary : List TapeEntry → ℕ → Board → Board
to_boundary entries limit b = stepped entries (boundary_steps entries limit b) b

unfoldable pub to_clock : List TapeEntry → ℕ → Board → Board
to_clock entries cut b = stepped entries (clock_steps entries cut b) b

unfoldable pub to_cut : List TapeEntry → ℕ → ℕ → Board → Board
to_cut entries cut wrap b = stepped entries (cut_steps entries cut wrap b) b

-- the clock of the divider's next wrap, when it is done
abbrev pub wrap_of : Board → ℕ
wrap_of b = b.peripherals.clock + (DIVIDER_PERIOD - b.peripherals.divider.phase)

-- a run ends with the window too: at the first boundary after the divider's next wrap
abbrev pub window_limit : ℕ → Board → ℕ
window_limit limit b = min limit (wrap_of b)

-- why a run ended
abbrev pub cause_at : Option ℕ → ℕ → Board → Stop
cause_at (Some opcode) limit b = Jammed b.cpu.pc opcode
cause_at None limit b = if nat_le limit b.peripherals.clock then Limit else Window

abbrev pub cause_of : ℕ → Board → Stop
cause_of limit b = cause_at b.cpu.jam limit b

-- inside a sequence at least one of its accesses is made
abbrev pub IsPlaced : Board → Type 0
IsPlaced b = IfSome b.cpu.mid (λ m. 1 ≤ length (given_by m))
