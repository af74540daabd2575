-- What ends a run at a boundary, beside its limit.
use Rattle.std.specs.Prelude.{ℕ, ◌==◌, Bool, true, false, not, ◌||◌, List, [], Option, Some, None, is_some, unwrap_or}
use Rattle.std.specs.List.{list_any}
use Rattle.lockstep_board.specs.Breaks.{is_at_any}
use Rattle.lockstep_board.specs.Lockstep.{Board}
use Rattle.lockstep_board.specs.Memory.{memory_byte}
use Rattle.lockstep_board.specs.Peripherals.{Peripherals}
use Rattle.catchup_engine.specs.declared.stop_conditions.WatchedByte.{WatchedByte}

-- the addresses at which it ends, the bytes whose change ends it, and whether the generator was
-- halted, where a change of that ends it too
pub record ConditionsValue : Type 0 where
  pub addresses : List ℕ
  pub bytes : List WatchedByte
  pub halted : Option Bool

-- nothing ends it
abbrev pub no_conditions : ConditionsValue
no_conditions = record { addresses = []; bytes = []; halted = None }

-- a byte isn't what it was; where no memory stands it is 0
abbrev pub has_changed : Peripherals → WatchedByte → Bool
has_changed w byte = not (unwrap_or (memory_byte byte.address w) 0 == byte.value)

-- the generator was halted and isn't any more, or is halted now
abbrev pub is_other : Option Bool → Bool → Bool
is_other None halted = false
is_other (Some true) halted = not halted
is_other (Some false) halted = halted

-- a run ends at this board
abbrev pub stops_at : ConditionsValue → Board → Bool
stops_at stops b = is_at_any stops.addresses b || (list_any (has_changed b.peripherals) stops.bytes || is_other stops.halted b.peripherals.vg.halted)

-- the generator is asked at each boundary, which may call it
abbrev pub asks_generator : ConditionsValue → Bool
asks_generator stops = is_some stops.halted
