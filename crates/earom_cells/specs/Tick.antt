-- The EAROM's latches, and the hold that an erase or a write takes (after the ER2055 data sheet).
-- Which control bit is which line, how long a hold lasts, and that a write can only clear bits are
-- this project's own choice.
use Rattle.std.specs.Prelude.{ℕ, ◌+◌, ◌%◌, Bool, not, ◌&&◌, ◌==◌, nat_lt, if◌then◌else◌, slice_index, slice_set, bit_and}
use Rattle.bit_words.specs.Bits.{is_bit}
use Rattle.board_base.specs.declared.earom.TheConstants.{HOLD_CLOCKS}
use Rattle.board_base.specs.Earom.{EaromValue}

-- the control lines that are high
abbrev pub is_clock_high : ℕ → Bool
is_clock_high control = is_bit control 0

abbrev pub is_not_c1_high : ℕ → Bool
is_not_c1_high control = is_bit control 1

abbrev pub is_c2_high : ℕ → Bool
is_c2_high control = is_bit control 2

abbrev pub is_selected : ℕ → Bool
is_selected control = is_bit control 3

-- an erase or a write is asked for
abbrev pub is_held : ℕ → Bool
is_held control = is_selected control && is_not_c1_high control

-- what the addressed cell becomes when the hold is complete: an erase sets all its bits, a write
-- can only clear some
abbrev pub written_cell : EaromValue → ℕ
written_cell e = if is_c2_high e.control then 255 else bit_and (slice_index e.cells e.addr) e.value

-- the hold is complete with the last of its clocks
abbrev pub completed : EaromValue → EaromValue
completed e = record e { hold = HOLD_CLOCKS; cells = slice_set e.cells e.addr (written_cell e) }

-- one clock more of a hold that isn't complete
unfoldable pub held_on : EaromValue → EaromValue
held_on e = if e.hold + 1 == HOLD_CLOCKS then completed e else record e { hold = e.hold + 1 }

-- one clock
unfoldable pub earom_tick : EaromValue → EaromValue
earom_tick e = if is_held e.control && nat_lt e.hold HOLD_CLOCKS then held_on e else e

-- the address and data latches are written, and the hold begins anew
abbrev pub latched : ℕ → ℕ → EaromValue → EaromValue
latched addr value e = record e { addr = addr; value = value; hold = 0 }

-- the clock line falls while the cells are selected for reading
abbrev pub reads_out : ℕ → ℕ → Bool
reads_out old new = is_clock_high old && not (is_clock_high new) && is_selected new && not (is_not_c1_high new)

-- the control bits are written, the hold begins anew, and a read puts the addressed cell into the
-- output latch
unfoldable pub controlled : ℕ → EaromValue → EaromValue
controlled value e = record e {
  control = value % 16;
  hold = 0;
  out = if reads_out e.control (value % 16) then slice_index e.cells e.addr else e.out;
}
