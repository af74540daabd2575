-- A board of 65,536 bytes of RAM with a POKEY over sixteen of them.
use Rattle.std.specs.Prelude.{◌≡◌, ◌+◌, ◌-◌, ◌/◌, ◌%◌, ◌==◌, ◌++◌, ℕ, List, Bool, if◌then◌else◌, slice_index, slice_set}
use Rattle.board_base.specs.declared.record.Record.{Record}
use Rattle.board_base.specs.Pokey.{PokeyValue}
use Rattle.cpu_core.specs.BusCycles.{Access, read_of, write_of}
use Rattle.pokey_chip.specs.Registers.{register_read, register_written}
use Rattle.pokey_chip.specs.Tick.{pokey_gives, pokey_tick}

-- the RAM, the POKEY, the clocks done, those that may still be done, and the levels so far
pub record BeeperValue : Type 0 where
  pub ram : List ℕ
  pub pokey : PokeyValue
  pub clock : ℕ
  pub left : ℕ
  pub levels : List Record

-- the POKEY's addresses are D200 to D20F
abbrev pub is_pokey : ℕ → Bool
is_pokey a = a / 16 == 3360

-- a clock: the POKEY ticks
abbrev pub ticked : BeeperValue → BeeperValue
ticked s = record s { pokey = pokey_tick s.pokey; clock = s.clock + 1; left = s.left - 1; levels = s.levels ++ pokey_gives s.clock s.pokey }

abbrev pub byte_read : ℕ → BeeperValue → ℕ
byte_read a s = if is_pokey a then register_read (a % 16) s.pokey else slice_index s.ram a

abbrev pub byte_written : ℕ → ℕ → BeeperValue → BeeperValue
byte_written a v s =
    if is_pokey a then record s { pokey = register_written (a % 16) v s.pokey }
    else record s { ram = slice_set s.ram a v }

-- each access takes a clock: the POKEY ticks, and then the byte is read or written
abbrev pub BeeperStep : Access → BeeperValue → BeeperValue → Type 0
BeeperStep (read_of a v) s t = (v ≡ byte_read a (ticked s)) × (t ≡ ticked s)
BeeperStep (write_of a v) s t = t ≡ byte_written a v (ticked s)
