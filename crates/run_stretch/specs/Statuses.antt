-- How a call ends, as a number of the header. They are this project's own.
use Rattle.std.specs.Prelude.{ℕ}
use Rattle.save_state.specs.declared.fault.StateFault.TheVariants as state
use Rattle.run_stretch.specs.declared.assembling.AssemblyFault.{AssemblyFault}
use Rattle.run_stretch.specs.declared.assembling.AssemblyFault.TheVariants as source
use Rattle.run_stretch.specs.declared.fault.StretchFault.{StretchFault}
use Rattle.run_stretch.specs.declared.fault.StretchFault.TheVariants as stretch
use Rattle.run_stretch.specs.declared.calls.report.Status.{Status}
use Rattle.run_stretch.specs.declared.calls.report.Status.TheVariants.{Done, Jammed, BadImage, BadBoard, BadTape, BadNumber, NoRoom, NoMemory, BadProcessorSource, BadGeneratorSource}
use Rattle.run_stretch.specs.declared.calls.report.Status.TheVariants.{BadBoardLength, BadBoardVersion, BadRequest}

abbrev pub number_of : Status → ℕ
number_of Done = 0
number_of Jammed = 1
number_of BadImage = 2
number_of BadBoard = 3
number_of BadTape = 4
number_of BadNumber = 5
number_of NoRoom = 6
number_of NoMemory = 7
number_of BadProcessorSource = 8
number_of BadGeneratorSource = 9
number_of BadBoardLength = 10
number_of BadBoardVersion = 11
number_of BadRequest = 12

abbrev pub status_of_stretch : StretchFault → Status
status_of_stretch (stretch.Image fault) = BadImage
status_of_stretch (stretch.Board (state.Length n)) = BadBoardLength
status_of_stretch (stretch.Board (state.Version version)) = BadBoardVersion
status_of_stretch (stretch.Board (state.Field at)) = BadBoard
status_of_stretch (stretch.Tape fault) = BadTape
status_of_stretch stretch.NoMemory = NoMemory

abbrev pub status_of_assembly : AssemblyFault → Status
status_of_assembly (source.Processor fault) = BadProcessorSource
status_of_assembly (source.Generator fault) = BadGeneratorSource
status_of_assembly source.NoMemory = NoMemory
