-- The devices that reads and writes use. This project's own choice.
use Rattle.std.specs.Prelude.{Bool, ◌||◌}
use Rattle.board_map.specs.declared.map.Reads.{Reads}
use Rattle.board_map.specs.declared.map.Reads.TheVariants as reads
use Rattle.board_map.specs.declared.map.Writes.{Writes}
use Rattle.board_map.specs.declared.map.Writes.TheVariants as writes
use Rattle.lockstep_board.specs.declared.uses.DeviceSet.{DeviceSet}
use Rattle.lockstep_board.specs.declared.uses.TheConstants.{NO_DEVICE, VECTOR, SOUND1, SOUND2, CELLS, DIVIDER, VECTOR_AND_DIVIDER}

-- the devices by five truth values: the generator, POKEY 1, POKEY 2, the EAROM and the divider
abbrev pub devices : Bool → Bool → Bool → Bool → Bool → DeviceSet
devices vector sound1 sound2 cells divider =
    record { vector = vector; sound1 = sound1; sound2 = sound2; cells = cells; divider = divider }

-- the devices that give the byte of a read
abbrev pub devices_read : Reads → DeviceSet
devices_read reads.Sound1 = SOUND1
devices_read reads.Sound2 = SOUND2
devices_read reads.EaromOut = CELLS
devices_read reads.In0 = VECTOR_AND_DIVIDER
devices_read _ = NO_DEVICE

-- the devices that see a write: the generator sees the vector RAM
abbrev pub devices_written : Writes → DeviceSet
devices_written writes.VectorRam = VECTOR
devices_written writes.Sound1 = SOUND1
devices_written writes.Sound2 = SOUND2
devices_written writes.Go = VECTOR
devices_written writes.VgReset = VECTOR
devices_written writes.Acknowledge = DIVIDER
devices_written writes.EaromControl = CELLS
devices_written writes.EaromLatch = CELLS
devices_written writes.WatchdogClear = DIVIDER
devices_written _ = NO_DEVICE

-- at least one of them
abbrev pub is_some_device : DeviceSet → Bool
is_some_device devices = devices.vector || (devices.sound1 || (devices.sound2 || (devices.cells || devices.divider)))
