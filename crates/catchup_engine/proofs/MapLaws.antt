-- The rows that most accesses reach.
use Rattle.std.proofs.Common.{◌≡◌, ℕ, ◌-◌, ◌<◌, ◌≤◌, true, slice_index, refl, arith}
use Rattle.std.proofs.lemmas.Bool.Decides.{nat_tests}
use Rattle.board_map.specs.declared.map.Reads.TheVariants as reads
use Rattle.board_map.specs.declared.map.Writes.TheVariants as writes
use Rattle.board_map.specs.Map.{row, row_of}
use Rattle.lockstep_board.specs.Peripherals.{Peripherals, byte_read}
use Rattle.catchup_engine.specs.Bus.{is_private}

pub row-ram : (a : ℕ) → a < 2048 → row_of a ≡ row a reads.Ram writes.Ram
unfolding row_of
row-ram a h = grind (arith, nat_tests)

pub row-program : (a : ℕ) → 36864 ≤ a → a < 65536 → row_of a ≡ row (a - 36864) reads.ProgramRom writes.Ignored
unfolding row_of
row-program a h last = grind (arith, nat_tests)

-- and the bytes that a read returns there
pub ram-byte : (a : ℕ) (w : Peripherals) → a < 2048 → byte_read a w ≡ slice_index w.ram a
unfolding byte_read
ram-byte a w h = rw (row-ram a h) refl

pub program-byte : (a : ℕ) (w : Peripherals) → 36864 ≤ a → a < 65536 → byte_read a w ≡ slice_index w.program (a - 36864)
unfolding byte_read
program-byte a w h last = rw (row-program a h last) refl

pub private-ram : (a : ℕ) → is_private a ≡ true → a < 36864 → a < 2048
private-ram a is below = grind (arith, nat_tests)

pub ruleset map_rows = row-ram
