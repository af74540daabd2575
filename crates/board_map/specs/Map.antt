-- The address map, as a list of ranges. This project's own choice.
use Rattle.std.specs.Prelude.{ℕ, ◌-◌, ◌%◌, ◌<◌, List, [], ◌∷◌, nat_le, ◌&&◌, if◌then◌else◌}
use Rattle.board_base.specs.declared.board.TheConstants.{RAM_LEN}
use Rattle.board_base.specs.declared.vector_memory.TheConstants.{VECTOR_RAM_LEN, VECTOR_ROM_LEN}
use Rattle.rom_image.specs.declared.image.TheConstants.{PROGRAM_ROM_LEN}
use Rattle.board_map.specs.declared.map.Reads.{Reads}
use Rattle.board_map.specs.declared.map.Reads.TheVariants as reads
use Rattle.board_map.specs.declared.map.Reads.TheVariants.{Open}
use Rattle.board_map.specs.declared.map.Region.{Region}
use Rattle.board_map.specs.declared.map.Region.TheVariants.{Ram, VectorRam, VectorRom, Sound1, Sound2, EaromOut, In0, In3, In4, Go, VgReset}
use Rattle.board_map.specs.declared.map.Region.TheVariants.{Acknowledge, EaromControl, EaromLatch, Watchdog, ProgramRom, Nothing}
use Rattle.board_map.specs.declared.map.Row.{Row}
use Rattle.board_map.specs.declared.map.Writes.{Writes}
use Rattle.board_map.specs.declared.map.Writes.TheVariants as writes
use Rattle.board_map.specs.declared.map.Writes.TheVariants.{Ignored, OutputLatch, WatchdogClear}

-- an offset, what a read gives there, and what a write does
abbrev pub row : ℕ → Reads → Writes → Row
row offset reads writes = record { offset = offset; reads = reads; writes = writes }

-- the addresses from the first to the last, and the row of one of them by its offset
pub record Range : Type 0 where
  pub first : ℕ
  pub last : ℕ
  pub at : ℕ → Row

-- a range of addresses
abbrev pub from_to : ℕ → ℕ → Reads → Writes → Range
from_to first last reads writes = record { first = first; last = last; at = λ offset. row offset reads writes }

-- a range in which 16 registers stand over and over
abbrev pub registers : ℕ → ℕ → Reads → Writes → Range
registers first last reads writes = record { first = first; last = last; at = λ offset. row (offset % 16) reads writes }

-- a single address
abbrev pub only : ℕ → Reads → Writes → Range
only address reads writes = from_to address address reads writes

-- the whole map: what a read gives, and what a write does
abbrev pub address_map : List Range
address_map =
    from_to 0x0000 0x07FF reads.Ram writes.Ram ∷
    from_to 0x2000 0x27FF reads.VectorRam writes.VectorRam ∷
    from_to 0x2800 0x5FFF reads.VectorRom Ignored ∷
    registers 0x6000 0x67FF reads.Sound1 writes.Sound1 ∷
    registers 0x6800 0x6FFF reads.Sound2 writes.Sound2 ∷
    only 0x7000 reads.EaromOut Ignored ∷
    only 0x7800 reads.In0 Ignored ∷
    only 0x8000 reads.In3 Ignored ∷
    only 0x8800 reads.In4 OutputLatch ∷
    only 0x8840 Open writes.Go ∷
    only 0x8880 Open writes.VgReset ∷
    only 0x88C0 Open writes.Acknowledge ∷
    only 0x8900 Open writes.EaromControl ∷
    from_to 0x8940 0x897F Open writes.EaromLatch ∷
    from_to 0x8980 0x89ED Open WatchdogClear ∷
    from_to 0x9000 0xFFFF reads.ProgramRom Ignored ∷
    []

-- the row of an address in the first of these ranges that holds it; elsewhere the bus is open
abbrev pub row_in : List Range → ℕ → Row
row_in [] address = row 0 Open Ignored
row_in (range ∷ ranges) address =
    if nat_le range.first address && nat_le address range.last
    then range.at (address - range.first)
    else row_in ranges address

-- the row of an address
unfoldable pub row_of : ℕ → Row
row_of address = row_in address_map address

-- the region of which a read gives nothing, by what a write does
abbrev pub written_region : ℕ → Writes → Region
written_region offset writes.Go = Go
written_region offset writes.VgReset = VgReset
written_region offset writes.Acknowledge = Acknowledge
written_region offset writes.EaromControl = EaromControl
written_region offset writes.EaromLatch = EaromLatch offset
written_region offset WatchdogClear = Watchdog
written_region offset _ = Nothing

-- the region by what a read gives, and else by what a write does
abbrev pub region_by : ℕ → Reads → Writes → Region
region_by offset reads.Ram write = Ram offset
region_by offset reads.VectorRam write = VectorRam offset
region_by offset reads.VectorRom write = VectorRom offset
region_by offset reads.ProgramRom write = ProgramRom offset
region_by offset reads.Sound1 write = Sound1 offset
region_by offset reads.Sound2 write = Sound2 offset
region_by offset reads.EaromOut write = EaromOut
region_by offset reads.In0 write = In0
region_by offset reads.In3 write = In3
region_by offset reads.In4 write = In4
region_by offset Open write = written_region offset write

-- the region of a row
abbrev pub region_at : Row → Region
region_at row = region_by row.offset row.reads row.writes

-- the region of an address
abbrev pub region_of : ℕ → Region
region_of address = region_at (row_of address)

-- an offset is inside its region, a register is one of 16, and a cell one of 64
abbrev pub IsInside : Region → Type 0
IsInside (Ram offset) = offset < RAM_LEN
IsInside (VectorRam offset) = offset < VECTOR_RAM_LEN
IsInside (VectorRom offset) = offset < VECTOR_ROM_LEN
IsInside (Sound1 register) = register < 16
IsInside (Sound2 register) = register < 16
IsInside (EaromLatch cell) = cell < 64
IsInside (ProgramRom offset) = offset < PROGRAM_ROM_LEN
IsInside _ = Unit {0}

-- and so is one that is read
abbrev pub IsReadable : Reads → ℕ → Type 0
IsReadable reads.Ram offset = offset < RAM_LEN
IsReadable reads.VectorRam offset = offset < VECTOR_RAM_LEN
IsReadable reads.VectorRom offset = offset < VECTOR_ROM_LEN
IsReadable reads.ProgramRom offset = offset < PROGRAM_ROM_LEN
IsReadable reads.Sound1 register = register < 16
IsReadable reads.Sound2 register = register < 16
IsReadable _ offset = Unit {0}

-- and one that is written
abbrev pub IsWritable : Writes → ℕ → Type 0
IsWritable writes.Ram offset = offset < RAM_LEN
IsWritable writes.VectorRam offset = offset < VECTOR_RAM_LEN
IsWritable writes.Sound1 register = register < 16
IsWritable writes.Sound2 register = register < 16
IsWritable writes.EaromLatch cell = cell < 64
IsWritable _ offset = Unit {0}

-- what a row reads and writes is there
pub record IsWithin (row : Row) : Type 0 where
  pub reads : IsReadable row.reads row.offset
  pub writes : IsWritable row.writes row.offset
