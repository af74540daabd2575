-- The bytes that stand in a memory of the board.
use Rattle.std.specs.Prelude.{ℕ, ◌+◌, Option, Some, None, slice_index}
use Rattle.board_base.specs.declared.vector_memory.TheConstants.{VECTOR_RAM_LEN}
use Rattle.board_map.specs.declared.map.Reads.{Reads}
use Rattle.board_map.specs.declared.map.Reads.TheVariants as reads
use Rattle.board_map.specs.Map.{row_of}
use Rattle.lockstep_board.specs.Peripherals.{Peripherals}

-- the byte of a memory
abbrev pub memory_in : Reads → ℕ → Peripherals → Option ℕ
memory_in reads.Ram k w = Some (slice_index w.ram k)
memory_in reads.VectorRam k w = Some (slice_index w.memory k)
memory_in reads.VectorRom k w = Some (slice_index w.memory (VECTOR_RAM_LEN + k))
memory_in reads.ProgramRom k w = Some (slice_index w.program k)
memory_in _ k w = None

-- the byte at an address, where a memory stands there
unfoldable pub memory_byte : ℕ → Peripherals → Option ℕ
memory_byte address w = memory_in (row_of address).reads (row_of address).offset w
