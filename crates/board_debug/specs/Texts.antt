-- The words for why a script wasn't run to its end. They are this project's own.
use Rattle.std.specs.Prelude.{ℕ, List, ◌++◌, codes, decimal}
use Rattle.board_debug.specs.declared.fault.DebugFault.{DebugFault}
use Rattle.board_debug.specs.declared.fault.DebugFault.TheVariants.{BadCommand, SinkFault, OutOfMemory}

-- why a script wasn't run to its end
abbrev pub debug_fault_text : DebugFault → List ℕ
debug_fault_text (BadCommand line) = codes "line " ++ (decimal line ++ codes ": command")
debug_fault_text SinkFault = codes "outside fault"
debug_fault_text OutOfMemory = codes "no memory"
